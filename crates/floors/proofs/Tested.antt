-- The significand that a rounding takes at k = 7: where t lies, and what the test at 2t + rest tells. Assumes nothing.
use Rattle.std.proofs.Common.{◌≡◌, ℕ, suc, ◌+◌, ◌-◌, ◌*◌, ◌/◌, ◌%◌, ◌^◌, ◌<◌, ◌≤◌, Bool, true, false, cond, not, ◌||◌, eqb, ltb, leb, [], ◌∷◌, sym, refl, ap, ◌∙◌, lt_of_le_of_lt, le_of_lt, mul-le-mul, arith}
use mir.Val.{bool_byte}
use Rattle.kinds.specs.declared.Op.{Op}
use Rattle.kinds.specs.declared.Op.TheVariants.{Reciprocal, Root, InverseRoot}
use Rattle.kinds.specs.declared.Mode.{Mode}
use Rattle.kinds.specs.declared.Mode.TheVariants.{Nearest, Up, Down, TowardZero}
use Rattle.kinds.specs.Guard.{rest_of}
use Rattle.numbers.proofs.Exponents.{power-of}
use Rattle.significand.specs.Width.{k32, t32, Significand}
use Rattle.significand.specs.Distance.{bound_of, above_of, Between}
use Rattle.ieee.specs.Rounded.{side}
use Rattle.ieee.specs.Floor.{target_of, Floored, taken_by}
use Rattle.ieee.proofs.Targets.{quotient-small, quotient-large}
use Rattle.ieee.proofs.Whole.{never-half}
use Rattle.ieee.proofs.Taken.{taken-by}
use Rattle.floors.specs.Taken.{TakenOf, carried_by}
use Rattle.floors.specs.declared.taken.Taken.{Taken}
use Rattle.floors.specs.declared.Floor.{Floor}
use Rattle.floors.proofs.Between.{stride_of, side-under, side-over}
use Rattle.floors.proofs.Modulo.{below-told}
use Rattle.floors.proofs.Counted.{amount_of, amount-is, m32, tried_of, tried-large, reciprocal-floor, inverse-floored}

-- a comparison counts at most once
pub bit-most : (b : Bool) → bool_byte b ≤ 1
bit-most true = omega arith
bit-most false = omega arith

pub next-is : (t : ℕ) (b : Bool) → t + bool_byte b ≡ cond b (t + 1) t
next-is t true = refl
next-is t false = omega arith

-- t is the raw answer and so much more, less the rest, in steps of a significand
abbrev base_of : Op → ℕ
base_of Reciprocal = 11
base_of Root = 16
base_of InverseRoot = 8

abbrev pub start_of : Op → ℕ → ℕ → ℕ
start_of op rest g = (g + base_of op - stride_of k32 t32 op * rest) / (2 * stride_of k32 t32 op)

start-low : (op : Op) (rest g : ℕ) → rest ≤ 2 → 32 ≤ g → 0 < start_of op rest g → stride_of k32 t32 op * (2 * start_of op rest g + rest - 2) ≤ g - above_of op
start-low Reciprocal rest g few large some = omega arith
start-low Root rest g few large some = omega arith
start-low InverseRoot rest g few large some = omega arith

start-high : (op : Op) (rest g : ℕ) → rest ≤ 2 → 32 ≤ g → g + bound_of op ≤ stride_of k32 t32 op * (2 * start_of op rest g + rest + 2)
start-high Reciprocal rest g few large = omega arith
start-high Root rest g few large = omega arith
start-high InverseRoot rest g few large = omega arith

from-tried : (op : Op) (g : ℕ) → 2 ^ 24 ≤ tried_of op g + 2 → 32 ≤ g
from-tried Reciprocal g h = omega arith
from-tried Root g h = omega arith
from-tried InverseRoot g h = omega arith

module _ (op : Op) (y p g rest : ℕ) (Y : Significand k32 t32 y) (parity : p ≤ 1) (between : Between op k32 t32 y p g) (few : rest ≤ 2) where
  abbrev t : ℕ
  t = start_of op rest g

  abbrev x : ℕ
  x = target_of m32 op y p

  pub answer-large : 32 ≤ g
  answer-large = from-tried op g (tried-large op y p g Y parity between)

  passed : x < side op y (2 * t + rest + 2)
  passed = side-over k32 t32 y p (omega arith) parity op (g + bound_of op) (2 * t + rest + 2) between.near.over (start-high op rest g few answer-large)

  some : 0 < t
  some =
      let next : suc (2 * t + rest + 1) ≡ 2 * t + rest + 2 = omega arith in
      omega (arith, quotient-large m32 y p (2 * t + rest + 1) parity Y.least Y.below op (rw next passed))

  reached : side op y (2 * t + rest - 2) < x
  reached = side-under k32 t32 y p (omega arith) parity op (g - above_of op) (2 * t + rest - 2) between.above (start-low op rest g few answer-large some)

  -- it has 25 bits, or little more
  pub tested-small : 2 * t + rest ≤ 2 ^ 25 + 2
  tested-small = omega (arith, some, quotient-small m32 y p (2 * t + rest - 2) parity Y.least Y.below op (le_of_lt reached))

  -- THE TEST tells the significand
  pub tested : (q : ℕ) (more b : Bool) → Floored op y x q more → b ≡ ltb (side op y (2 * t + rest)) (x + rest / 2) → t + bool_byte b ≡ taken_by rest q more
  tested q more b F e =
      taken-by op y x q more F (omega (arith, Y.least)) (never-half m32 y p q parity Y.least Y.below op more F) rest t b some reached passed e few

-- the reciprocal and the inverse root, as they are worked out
module _ (y g rest : ℕ) (Y : Significand k32 t32 y) (few : rest ≤ 2) where
  module _ (b : Between Reciprocal k32 t32 y 0 g) where
    abbrev n : ℕ
    n = start_of Reciprocal rest g

    pub reciprocal-product : y * (2 * n + rest) < 2 ^ 64
    reciprocal-product =
        let small = tested-small Reciprocal y 0 g rest Y (omega arith) b few in
        let short : y ≤ 2 ^ 24 = omega (arith, Y.below) in
        lt_of_le_of_lt (mul-le-mul short small) (omega arith)

    pub reciprocal-taken-is : (r : ℕ) → r ≡ cond (ltb (y * (2 * n + rest)) (2 ^ 48 + rest / 2)) (n + 1) n
        → TakenOf Reciprocal y (2 ^ 48) rest (record { significand = r; more = not (eqb y 8388608) })
    reciprocal-taken-is r e =
        let F = reciprocal-floor y g Y b in
        record { floor = _; floored = F; is = e ∙ sym (next-is n (ltb (y * (2 * n + rest)) (2 ^ 48 + rest / 2))) ∙ tested Reciprocal y 0 g rest Y (omega arith) b few _ _ _ F refl }

  module _ (p : ℕ) (parity : p ≤ 1) (b : Between InverseRoot k32 t32 y p g) where
    abbrev i : ℕ
    i = start_of InverseRoot rest g

    abbrev m : ℕ
    m = 2 * i + rest

    pub inverse-square : m * m < 2 ^ 64
    inverse-square =
        let small = tested-small InverseRoot y p g rest Y parity b few in
        lt_of_le_of_lt (mul-le-mul small small) (omega arith)

    abbrev target : ℕ
    target = 2 ^ (73 - p)

    short : (n : ℕ) → n ≤ 2 ^ 25 + 4 → amount_of InverseRoot y n < 2 ^ 52
    short n h =
        let count : 2 * n + 1 ≤ 2 ^ 27 = omega arith in
        let small : y ≤ 2 ^ 24 = omega (arith, Y.below) in
        lt_of_le_of_lt (mul-le-mul count small) (omega arith)

    -- two steps to either side
    steps : (side InverseRoot y m < target + 2 ^ 53) × (target < side InverseRoot y m + 2 ^ 53)
    steps =
        let small = tested-small InverseRoot y p g rest Y parity b few in
        let low = reached InverseRoot y p g rest Y parity b few in
        let high = passed InverseRoot y p g rest Y parity b few in
        let least = some InverseRoot y p g rest Y parity b few in
        let back : m - 2 + 1 + 1 ≡ m = omega arith in
        let next : m + 1 + 1 ≡ m + 2 = omega arith in
        omega (
          arith,
          low,
          high,
          short (m - 2) (omega arith),
          short (m - 2 + 1) (omega arith),
          short m (omega arith),
          short (m + 1) (omega arith),
          ap (side InverseRoot y) back,
          ap (side InverseRoot y) next,
          amount-is InverseRoot y (m - 2),
          amount-is InverseRoot y (m - 2 + 1),
          amount-is InverseRoot y m,
          amount-is InverseRoot y (m + 1),
        )

    pub inverse-taken-is : (w r : ℕ) → w ≡ m * m * y % 2 ^ 64
        → r ≡ cond (leb 9223372036854775808 ((w + (2 ^ 64 - rest / 2)) % 2 ^ 64)) (i + 1) i
        → TakenOf InverseRoot y (2 ^ (73 - p)) rest (record { significand = r; more = not (eqb y 8388608) || eqb p 1 })
    inverse-taken-is w r ew e =
        let v : ℕ = (w + (2 ^ 64 - rest / 2)) % 2 ^ 64 in
        let small : v < 2 ^ 64 = omega arith in
        let ev : (v + rest / 2) % 2 ^ 64 ≡ w = omega (arith, ew, few) in
        let F = inverse-floored y g Y p parity b in
        let s : ℕ = side InverseRoot y m in
        let multiple : target ≡ 2 ^ 64 * 2 ^ (9 - p) = power-of (73 - p) (64 ∷ (9 - p) ∷ []) (omega arith) in
        let near = steps in
        let told : leb 9223372036854775808 v ≡ ltb s (target + rest / 2) =
        below-told (2 ^ 64) (2 ^ 63) s (target + rest / 2) v (s / 2 ^ 64) ((v + rest / 2) / 2 ^ 64 + 2 ^ (9 - p)) (omega arith) small (omega (arith, multiple, ew, ev))
        (omega arith) (omega arith) in
        record { floor = _; floored = F; is = e ∙ sym (next-is i (leb 9223372036854775808 v)) ∙ tested InverseRoot y p g rest Y parity b few _ _ _ F told }

-- what a rounding leaves, by its case
module _ (mode : Mode) (negative : Bool) where
  pub nearest-rest : mode ≡ Nearest → 1 ≡ rest_of mode negative
  unfolding rest_of
  nearest-rest o = rw o

  pub zero_rest : mode ≡ TowardZero → 2 ≡ rest_of mode negative
  unfolding rest_of
  zero_rest o = rw o

  up_is : (b : Bool) → cond b 2 0 ≡ rest_of Up b
  unfolding rest_of
  up_is true = refl
  up_is false = refl

  down_is : (b : Bool) → cond (not b) 2 0 ≡ rest_of Down b
  unfolding rest_of
  down_is true = refl
  down_is false = refl

  pub up_rest : (n : ℕ) → mode ≡ Up → n ≡ cond negative 2 0 → n ≡ rest_of mode negative
  up_rest n o e = e ∙ rw o (up_is negative)

  pub down-rest : (n : ℕ) → mode ≡ Down → n ≡ cond (not negative) 2 0 → n ≡ rest_of mode negative
  down-rest n o e = e ∙ rw o (down_is negative)

pub taken-rest : (op : Op) (y x n m : ℕ) (r : Taken) → TakenOf op y x n r → n ≡ m → TakenOf op y x m r
taken-rest op y x n m r h e = rw (← e) h

-- the root's, from its floor
pub root-taken-is : (y x rest n : ℕ) (f : Floor) → Floored Root y x f.quotient f.more → n ≡ taken_by rest f.quotient f.more
    → TakenOf Root y x rest (record { significand = n; more = f.more })
root-taken-is y x rest n f F e = record { floor = f.quotient; floored = F; is = e }

-- which is not negative
pub root-carried : (mode : Mode) (q c : ℕ) (more : Bool) → c ≡ carried_by mode more → (q + c) / 2 ≡ taken_by (rest_of mode false) q more
unfolding taken_by rest_of
root-carried Nearest q c more e = rw e
root-carried Up q c more e = rw e (omega arith)
root-carried Down q c more e = rw e (omega arith)
root-carried TowardZero q c more e = rw e (omega arith)

pub up-carried : (mode : Mode) (more : Bool) → mode ≡ Up → 1 + bool_byte more ≡ carried_by mode more
up-carried mode more o = rw o (go more)
  where
    go : (b : Bool) → 1 + bool_byte b ≡ 1 + cond b 1 0
    go true = refl
    go false = refl

pub up-most : (more : Bool) → 1 + bool_byte more ≤ 2
up-most more = omega (arith, bit-most more)
