-- A number from 2^-63 to below 2^64 comes back, from the language's product of it with itself and from the unit's call on the product's
-- bits. Assumes nothing.
use Rattle.std.specs.Prelude.{Ok}
use mathlib.Core.Path.{◌≡◌, refl, ap, sym, subst, ◌∙◌}
use mathlib.Core.Bool.{Bool, true, false, ◌||◌}
use mathlib.Core.Logic.{by_cases}
use Prim.Native.Nat.{ℕ, ◌*◌, ◌^◌, ◌≤◌, ◌<◌}
use native.Mathlib.Nat.{mul-lt-mul_of_pos_right, mul-le-mul_right, le_of_mul-le-mul_right, lt_of_mul-lt-mul_right, lt_of_lt_of_le}
use native.Mathlib.Decide.{dec_lt}
use native.Mathlib.Omega.{arith}
use lib.Dec.{T, ltb→lt, lit<}
use lib.Pow.{pow_pos}
use lib.Ieee as I
use lib.Ieee.{Float, nan, inf, fin, up, down, le, lt, fits, mul, of_bits, to_bits}
use lib.Ieee.Bits.{of_bits-to_bits}
use lib.Ieee.Exact.{HasValue}
use lib.Ieee.Fits.{and_l, and_r}
use lib.Ieee.Positive.{num, den, positive, den_pos, le→cross, value→cross, between}
use Rattle.kinds.specs.declared.Op.TheVariants.{Root}
use Rattle.kinds.specs.declared.Mode.TheVariants.{Nearest}
use Rattle.ieee.specs.Format.{binary32, infinity, magnitude_of}
use Rattle.ieee.specs.Answer.{answer_of}
use Rattle.ieee.proofs.Neighbours.{rising-back}
use Rattle.plate.specs.declared.Status.{Status}
use Rattle.plate.specs.Binary32.{binary32_call}
use Rattle.square.specs.Width.{least, limit, is_width, root_of_square}
use Rattle.square.proofs.Patterns.{pattern-value}
use Rattle.square.proofs.Plain.{plain, plain-within}
use Rattle.square.proofs.Product.{pattern-back}

-- a width is a positive number n / d, d ≤ n·2^63 and n < 2^64·d
lt-le : (x y : Float) → T (lt x y) → T (le x y)
unfolding le
lt-le x y h = go (lt x y) (I.eq x y) h
  where
    go : (a b : Bool) → T a → T (a || b)
    go true b t = tt
    go false b t = absurd t

is_positive : (x : Float) → T (is_width x) → T (positive x)
is_positive x h = between least x limit tt tt (and_l (le least x) (lt x limit) h) (lt-le x limit (and_r (le least x) (lt x limit) h))

from-least : (x : Float) → T (positive x) → T (le least x) → den x ≤ num x * 2 ^ 63
from-least x p h = omega (arith, le→cross least x tt p h)

below-limit : (x : Float) → T (positive x) → T (lt x limit) → num x < 2 ^ 64 * den x
unfolding lt
below-limit nan p h = absurd p
below-limit (inf s) p h = absurd p
below-limit (fin true m e) p h = absurd p
below-limit (fin false m e) p h = omega (arith, ltb→lt (m * up e * 1) (1 * 2 ^ 64 * down e) h)

-- it is a pattern's float, below infinity's
positive-plain : (x : Float) → T (positive x) → T (plain x)
positive-plain nan p = absurd p
positive-plain (inf s) p = absurd p
positive-plain (fin true m e) p = absurd p
positive-plain (fin false m e) p = tt

pattern-finite : (x : Float) → T (positive x) → T (fits I.binary32 x) → to_bits I.binary32 x < infinity binary32
pattern-finite x p F =
    let t = to_bits I.binary32 x in
    by_cases (dec_lt t (infinity binary32)) (λ l. l)
    (λ l.
    let top : t ≡ infinity binary32 = omega (arith, plain-within I.binary32 x (positive-plain x p) F) in
    let x-is : x ≡ inf false = sym (of_bits-to_bits I.binary32 x F) ∙ ap (of_bits I.binary32) top ∙ infinity-is in
    absurd (subst (λ (y : Float). T (positive y)) x-is p))
  where
    infinity-is : of_bits I.binary32 0x7F800000 ≡ inf false
    infinity-is = unfold of_bits in refl

-- n / d = v / E between 1 / A and B
module _ (n d v E : ℕ) (p : 0 < d) (cross : n * E ≡ v * d) where
  cross-above : (A : ℕ) → d ≤ n * A → E ≤ v * A
  cross-above A h = le_of_mul-le-mul_right {k = d} (omega (arith, mul-le-mul_right E h, ap (λ (y : ℕ). y * A) cross)) p

  cross-below : (B : ℕ) → 0 < E → n < B * d → v < B * E
  cross-below B q h = lt_of_mul-lt-mul_right d (omega (arith, mul-lt-mul_of_pos_right h q, cross))

-- so the pattern lies between those of 2^-63 and of 2^64
width-pattern : (x : Float) → T (fits I.binary32 x) → T (is_width x) → (0x20000000 ≤ to_bits I.binary32 x) × (to_bits I.binary32 x < 0x5F800000)
width-pattern x F h =
    let p = is_positive x h in
    let t = to_bits I.binary32 x in
    let v = magnitude_of binary32 t in
    let value : HasValue x false v (2 ^ 149) =
    subst (λ (y : Float). HasValue y false v (2 ^ 149)) (of_bits-to_bits I.binary32 x F) (pattern-value t (pattern-finite x p F)) in
    let cross = value→cross x v (2 ^ 149) value in
    let low : 2 ^ 86 ≤ v =
    le_of_mul-le-mul_right {k = 2 ^ 63} (cross-above (num x) (den x) v (2 ^ 149) (den_pos x) cross (2 ^ 63) (from-least x p (and_l (le least x) (lt x limit) h))) (pow_pos 63) in
    let high : v < 2 ^ 213 =
    cross-below (num x) (den x) v (2 ^ 149) (den_pos x) cross (2 ^ 64) (pow_pos 149) (below-limit x p (and_r (le least x) (lt x limit) h)) in
    (rising-back binary32 0x1FFFFFFF t (lt_of_lt_of_le before low), rising-back binary32 t 0x5F800000 (rw limit_is high))
  where
    before : magnitude_of binary32 0x1FFFFFFF < 2 ^ 86
    before = unfold magnitude_of in lit< tt

    limit_is : magnitude_of binary32 0x5F800000 ≡ 2 ^ 213
    limit_is = unfold magnitude_of in refl

-- the nearest root of its product with itself has its pattern, so it comes back,
root-bits : (x : Float) → T (fits I.binary32 x) → T (is_width x)
    → (answer_of binary32 Root Nearest (to_bits I.binary32 (mul I.binary32 x x))).bits ≡ to_bits I.binary32 x
root-bits x F h =
    let t = to_bits I.binary32 x in
    let r = width-pattern x F h in
    subst (λ (y : Float). (answer_of binary32 Root Nearest (to_bits I.binary32 (mul I.binary32 y y))).bits ≡ t)
    (of_bits-to_bits I.binary32 x F) (pattern-back t r.0 r.1)

pub comes_back : (x : Float) → T (fits I.binary32 x) → T (is_width x) → root_of_square x ≡ x
unfolding root_of_square
comes_back x F h = ap (of_bits I.binary32) (root-bits x F h) ∙ of_bits-to_bits I.binary32 x F

-- and so it does from the unit's call, operation 2 (root) and rounding 0 (nearest), on the product's bits, whatever the status
pub root-called : (b : ℕ) (status : Status) → (binary32_call 2 0 b status).answer ≡ Ok (answer_of binary32 Root Nearest b).bits
root-called b status = refl

pub call-comes-back : (x : Float) → T (fits I.binary32 x) → T (is_width x) → (status : Status)
    → (binary32_call 2 0 (to_bits I.binary32 (mul I.binary32 x x)) status).answer ≡ Ok (to_bits I.binary32 x)
call-comes-back x F h status = root-called (to_bits I.binary32 (mul I.binary32 x x)) status ∙ ap (λ (n : ℕ). Ok n) (root-bits x F h)
