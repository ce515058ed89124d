-- The number tried at k = 7, and its neighbours: how many of them have a side above the target tells the floor. Assumes nothing.
use Rattle.std.proofs.Common.{◌≡◌, ℕ, zero, suc, ◌+◌, ◌-◌, ◌*◌, ◌/◌, ◌%◌, ◌^◌, ◌<◌, ◌≤◌, Bool, true, false, not, ◌&&◌, ◌||◌, eqb, ltb, [], ◌∷◌, sym, refl, ap, ◌∙◌, lt_of_le_of_lt, le_of_lt, mod-eq_of_lt, mul-le-mul, arith, ltb-false, ltb-true, ne_eqb}
use mir.Val.{bool_byte}
use Rattle.kinds.specs.declared.Op.{Op}
use Rattle.kinds.specs.declared.Op.TheVariants.{Reciprocal, Root, InverseRoot}
use Rattle.numbers.proofs.Exponents.{power-of}
use Rattle.significand.specs.Width.{k32, t32, Significand}
use Rattle.significand.specs.Distance.{bound_of, above_of, Between}
use Rattle.ieee.specs.Rounded.{side}
use Rattle.ieee.specs.Floor.{target_of, Floored}
use Rattle.ieee.proofs.Neighbours.{side-rising}
use Rattle.ieee.proofs.Targets.{quotient-small, quotient-large}
use Rattle.ieee.proofs.Whole.{reciprocal-rest, inverse-rest}
use Rattle.floors.specs.declared.Floor.{Floor}
use Rattle.floors.proofs.Between.{stride_of, side-under, side-over}
use Rattle.floors.proofs.Modulo.{above-told}

-- what a step up adds to a side
abbrev pub amount_of : Op → ℕ → ℕ → ℕ
amount_of Reciprocal y q = y
amount_of Root y q = 2 * q + 1
amount_of InverseRoot y q = (2 * q + 1) * y

pub amount-is : (op : Op) (y q : ℕ) → side op y q + amount_of op y q ≡ side op y (q + 1)
amount-is Reciprocal y q = omega arith
amount-is Root y q = omega arith
amount-is InverseRoot y q = omega arith

-- r is the greatest number whose side is at most x
pub record Greatest (op : Op) (y x r : ℕ) : Type 0 where
  pub low : side op y r ≤ x
  pub high : x < side op y (suc r)

module _ (op : Op) (y x q : ℕ) (some : 0 < q) (below : side op y (q - 1) < x) where
  back : suc (q - 1) ≡ q
  back = omega arith

  -- it is q or the number before
  pub counted-one : x < side op y (q + 1) → Greatest op y x (q - bool_byte (ltb x (side op y q)))
  counted-one above = go (ltb x (side op y q)) refl
    where
      next : suc q ≡ q + 1
      next = omega arith

      go : (a : Bool) → ltb x (side op y q) ≡ a → Greatest op y x (q - bool_byte a)
      go true e = record { low = le_of_lt below; high = rw back (ltb-true x (side op y q) e) }
      go false e =
          let is : q - 0 ≡ q = omega arith in
          rw is (record { low = ltb-false x (side op y q) e; high = rw next above })

  -- and q leaves nothing over where it does
  pub rest-one : not (eqb (side op y q) x) ≡ not (eqb (side op y (q - bool_byte (ltb x (side op y q)))) x)
  rest-one = go (ltb x (side op y q)) refl
    where
      go : (a : Bool) → ltb x (side op y q) ≡ a → not (eqb (side op y q) x) ≡ not (eqb (side op y (q - bool_byte a)) x)
      go true e =
          let above = ltb-true x (side op y q) e in
          ap not (ne_eqb (side op y q) x (λ s. omega arith) ∙ sym (ne_eqb (side op y (q - 1)) x (λ s. omega arith)))
      go false e = let is : q - 0 ≡ q = omega arith in rw is

  -- it is q, the number before or the next
  pub counted-two : x < side op y (q + 2)
      → Greatest op y x (q + 1 - bool_byte (ltb x (side op y q)) - bool_byte (ltb x (side op y (q + 1))))
  counted-two above = go (ltb x (side op y q)) (ltb x (side op y (q + 1))) refl refl
    where
      go : (a b : Bool) → ltb x (side op y q) ≡ a → ltb x (side op y (q + 1)) ≡ b → Greatest op y x (q + 1 - bool_byte a - bool_byte b)
      go true true e f =
          let is : q + 1 - 1 - 1 ≡ q - 1 = omega arith in
          rw is (record { low = le_of_lt below; high = rw back (ltb-true x (side op y q) e) })
      go true false e f =
          absurd (omega (arith, ltb-true x (side op y q) e, ltb-false x (side op y (q + 1)) f, side-rising op y {v = q} {w = q + 1} (omega arith)))
      go false true e f =
          let is : q + 1 - 0 - 1 ≡ q = omega arith in
          let next : suc q ≡ q + 1 = omega arith in
          rw is (record { low = ltb-false x (side op y q) e; high = rw next (ltb-true x (side op y (q + 1)) f) })
      go false false e f =
          let is : q + 1 - 0 - 0 ≡ q + 1 = omega arith in
          let next : suc (q + 1) ≡ q + 2 = omega arith in
          rw is (record { low = ltb-false x (side op y (q + 1)) f; high = rw next above })

-- so many comparisons take less away than there is
pub count-one : (q : ℕ) (a : Bool) → 0 < q → bool_byte a ≤ q
count-one q true h = omega arith
count-one q false h = omega arith

pub count-first : (q : ℕ) (a : Bool) → bool_byte a ≤ q + 1
count-first q true = omega arith
count-first q false = omega arith

pub count-two : (q : ℕ) (a b : Bool) → 0 < q → bool_byte b ≤ q + 1 - bool_byte a
count-two q true true h = omega arith
count-two q true false h = omega arith
count-two q false true h = omega arith
count-two q false false h = omega arith

-- the bits of a fraction
abbrev pub m32 : ℕ
m32 = 23

-- the number tried is the raw answer and so much more, in the floor's steps, and so many steps further the target is passed
abbrev pub shift_of : Op → ℕ
shift_of Reciprocal = 3
shift_of Root = 7
shift_of InverseRoot = 1

abbrev pub ahead_of : Op → ℕ
ahead_of Reciprocal = 2
ahead_of Root = 1
ahead_of InverseRoot = 2

abbrev pub tried_of : Op → ℕ → ℕ
tried_of op g = (g + shift_of op) / stride_of k32 t32 op

before-low : (op : Op) (g : ℕ) → bound_of op ≤ g → stride_of k32 t32 op * (tried_of op g - 1) ≤ g - above_of op
before-low Reciprocal g h = omega arith
before-low Root g h = omega arith
before-low InverseRoot g h = omega arith

after-high : (op : Op) (g : ℕ) → g + bound_of op ≤ stride_of k32 t32 op * (tried_of op g + ahead_of op)
after-high Reciprocal g = omega arith
after-high Root g = omega arith
after-high InverseRoot g = omega arith

ahead-most : (op : Op) → ahead_of op ≤ 2
ahead-most Reciprocal = omega arith
ahead-most Root = omega arith
ahead-most InverseRoot = omega arith

module _ (op : Op) (y p g : ℕ) (Y : Significand k32 t32 y) (parity : p ≤ 1) (between : Between op k32 t32 y p g) where
  abbrev q : ℕ
  q = tried_of op g

  abbrev x : ℕ
  x = target_of m32 op y p

  -- the number before it is below the exact result, and the last one above
  pub tried-low : side op y (q - 1) < x
  tried-low = side-under k32 t32 y p (omega arith) parity op (g - above_of op) (q - 1) between.above (before-low op g between.near.enough)

  pub tried-high : x < side op y (q + ahead_of op)
  tried-high = side-over k32 t32 y p (omega arith) parity op (g + bound_of op) (q + ahead_of op) between.near.over (after-high op g)

  -- it has 25 bits, or is 2^25 or one more
  pub tried-small : q ≤ 2 ^ 25 + 1
  tried-small = omega (arith, quotient-small m32 y p (q - 1) parity Y.least Y.below op (le_of_lt tried-low))

  pub tried-large : 2 ^ 24 ≤ q + 2
  tried-large =
      omega (
        arith,
        quotient-large m32 y p (q + 2) parity Y.least Y.below op
            (omega (arith, tried-high, side-rising op y {v = q + ahead_of op} {w = suc (q + 2)} (omega (arith, ahead-most op)))),
      )

  pub tried-some : 0 < q
  tried-some = omega (arith, tried-large)

-- the greatest number is the floor
floored : (op : Op) (y x r : ℕ) (more : Bool) → Greatest op y x r → more ≡ not (eqb (side op y r) x) → Floored op y x r more
floored op y x r more g e = record { low = g.low; high = g.high; rest = e }

module _ (y g : ℕ) (Y : Significand k32 t32 y) where
  -- the reciprocal: 2^48 / y
  module _ (b : Between Reciprocal k32 t32 y 0 g) where
    abbrev n : ℕ
    n = tried_of Reciprocal g

    pub reciprocal-side : y * n + y < 2 ^ 64
    reciprocal-side =
        let is : n - 1 + 1 ≡ n = omega (arith, tried-some Reciprocal y 0 g Y (omega arith) b) in
        omega (arith, tried-low Reciprocal y 0 g Y (omega arith) b, ap (λ (m : ℕ). y * m) is, Y.below)

    pub reciprocal-floor : Floored Reciprocal y (2 ^ 48) (n + 1 - bool_byte (ltb (2 ^ 48) (y * n)) - bool_byte (ltb (2 ^ 48) (y * n + y))) (not (eqb y 8388608))
    reciprocal-floor =
        let r : Greatest Reciprocal y (2 ^ 48) (n + 1 - bool_byte (ltb (2 ^ 48) (y * n)) - bool_byte (ltb (2 ^ 48) (y * n + y))) =
        rw (amount-is Reciprocal y n)
        (counted-two Reciprocal y (2 ^ 48) n (tried-some Reciprocal y 0 g Y (omega arith) b) (tried-low Reciprocal y 0 g Y (omega arith) b)
        (tried-high Reciprocal y 0 g Y (omega arith) b)) in
        floored Reciprocal y (2 ^ 48) _ _ r (reciprocal-rest m32 y _ Y.least Y.below r.low r.high)

  module _ (p : ℕ) (parity : p ≤ 1) where
    -- the root of y × 2^(25 + p)
    module _ (b : Between Root k32 t32 y p g) where
      abbrev s : ℕ
      s = tried_of Root g * tried_of Root g

      target_small : (p : ℕ) → p ≤ 1 → y * 2 ^ (25 + p) < 2 ^ 50
      target_small zero h = omega (arith, Y.below)
      target_small (suc zero) h = omega (arith, Y.below)
      target_small (suc (suc p)) h = absurd (omega arith)

      pub root-square : s < 2 ^ 64
      root-square = lt_of_le_of_lt (mul-le-mul (tried-small Root y p g Y parity b) (tried-small Root y p g Y parity b)) (omega arith)

      pub root-floor-small : (r : Floor) → Floored Root y (y * 2 ^ (25 + p)) r.quotient r.more → r.quotient < 2 ^ 63
      root-floor-small r F = omega (arith, quotient-small m32 y p r.quotient parity Y.least Y.below Root F.low)

      -- the shifted operand loses nothing
      pub root-floor : Floored Root y (y * 2 ^ (25 + p)) (tried_of Root g - bool_byte (ltb (y * 2 ^ (25 + p) % 2 ^ 64) s)) (not (eqb s (y * 2 ^ (25 + p) % 2 ^ 64)))
      root-floor =
          let x : ℕ = y * 2 ^ (25 + p) in
          let same : x % 2 ^ 64 ≡ x = mod-eq_of_lt (omega (arith, target_small p parity)) in
          let some = tried-some Root y p g Y parity b in
          let low = tried-low Root y p g Y parity b in
          rw same (floored Root y x _ _ (counted-one Root y x (tried_of Root g) some low (tried-high Root y p g Y parity b)) (rest-one Root y x (tried_of Root g) some low))

    -- the root of 2^(73 − p) / y
    module _ (b : Between InverseRoot k32 t32 y p g) where
      abbrev i : ℕ
      i = tried_of InverseRoot g

      abbrev target : ℕ
      target = 2 ^ (73 - p)

      some : 0 < i
      some = tried-some InverseRoot y p g Y parity b

      low : side InverseRoot y (i - 1) < target
      low = tried-low InverseRoot y p g Y parity b

      high : target < side InverseRoot y (i + 2)
      high = tried-high InverseRoot y p g Y parity b

      -- a step is short
      short : (n : ℕ) → n ≤ 2 ^ 25 + 2 → amount_of InverseRoot y n < 2 ^ 52
      short n h =
          let few : 2 * n + 1 ≤ 2 ^ 27 = omega arith in
          let small : y ≤ 2 ^ 24 = omega (arith, Y.below) in
          lt_of_le_of_lt (mul-le-mul few small) (omega arith)

      steps : (side InverseRoot y i < target + 2 ^ 52) × (side InverseRoot y (i + 1) < target + 2 ^ 53) × (target < side InverseRoot y (i + 1) + 2 ^ 52) × (target < side InverseRoot y i + 2 ^ 53)
      steps =
          let is : i - 1 + 1 ≡ i = omega (arith, some) in
          let next : i + 1 + 1 ≡ i + 2 = omega arith in
          let small = tried-small InverseRoot y p g Y parity b in
          let a = short (i - 1) (omega arith) in
          let c = short i (omega arith) in
          let d = short (i + 1) (omega arith) in
          omega (
            arith,
            low,
            high,
            a,
            c,
            d,
            ap (side InverseRoot y) is,
            ap (side InverseRoot y) next,
            amount-is InverseRoot y (i - 1),
            amount-is InverseRoot y i,
            amount-is InverseRoot y (i + 1),
          )

      -- the target has nothing in its lower word
      multiple : target ≡ 2 ^ 64 * 2 ^ (9 - p)
      multiple = power-of (73 - p) (64 ∷ (9 - p) ∷ []) (omega arith)

      -- so the lower word of a side tells whether it is above
      told : (s v : ℕ) → v ≡ s % 2 ^ 64 → s < target + 2 ^ 53 → target < s + 2 ^ 53 → not (eqb v 0) && ltb v 9223372036854775808 ≡ ltb target s
      told s v e l h =
          above-told (2 ^ 64) (2 ^ 63) s target v (s / 2 ^ 64) (2 ^ (9 - p)) (omega arith) (omega arith) (omega (arith, multiple)) (omega arith) (omega arith)

      pub inverse-square : i * i < 2 ^ 64
      inverse-square = lt_of_le_of_lt (mul-le-mul (tried-small InverseRoot y p g Y parity b) (tried-small InverseRoot y p g Y parity b)) (omega arith)

      pub inverse-amount : (2 * i + 1) * y < 2 ^ 64
      inverse-amount = omega (arith, short i (omega (arith, tried-small InverseRoot y p g Y parity b)))

      -- the floor, and its form as it is worked out
      pub inverse-floored : Floored InverseRoot y target (i + 1 - bool_byte (ltb target (side InverseRoot y i)) - bool_byte (ltb target (side InverseRoot y (i + 1)))) (not (eqb y 8388608) || eqb p 1)
      inverse-floored =
          let r = counted-two InverseRoot y target i some low high in
          floored InverseRoot y target _ _ r (inverse-rest m32 y _ Y.least Y.below p parity r.low r.high)

      pub inverse-floor : (v w : ℕ) (a c : Bool) → v ≡ i * i * y % 2 ^ 64 → w ≡ (v + (2 * i + 1) * y) % 2 ^ 64
          → a ≡ not (eqb v 0) && ltb v 9223372036854775808 → c ≡ not (eqb w 0) && ltb w 9223372036854775808
          → Floored InverseRoot y (2 ^ (73 - p)) (i + 1 - bool_byte a - bool_byte c) (not (eqb y 8388608) || eqb p 1)
      inverse-floor v w a c ev ew ea ec =
          let t = steps in
          let first : a ≡ ltb target (side InverseRoot y i) = ea ∙ told (side InverseRoot y i) v ev (omega (arith, t)) (omega (arith, t)) in
          let sum : w ≡ side InverseRoot y (i + 1) % 2 ^ 64 = rw (← amount-is InverseRoot y i) (omega (arith, ev, ew)) in
          let second : c ≡ ltb target (side InverseRoot y (i + 1)) = ec ∙ told (side InverseRoot y (i + 1)) w sum (omega (arith, t)) (omega (arith, t)) in
          rw (first, second) inverse-floored
