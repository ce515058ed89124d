-- Floats without a sign that are no NaN: their patterns reach to infinity's, and the product of a number with itself is one.
-- Assumes nothing.
use mathlib.Core.Path.{◌≡◌, refl, sym, ap, subst, ◌∙◌}
use mathlib.Core.Bool.{Bool, true, false, cond, not}
use Prim.Native.Nat.{ℕ, zero, suc, ◌+◌, ◌*◌, ◌-◌, ◌/◌, ◌%◌, ◌^◌, ◌≤◌, ◌<◌, compare}
use native.Mathlib.Nat.{mod-eq_of_lt}
use native.Mathlib.Omega.{arith}
use borrow.Author.Tests.{ltb-false, le-ltb, eq-eqb}
use lib.Dec.{T, ltb}
use lib.Ieee as I
use lib.Ieee.{Float, nan, inf, fin, up, down, odd, units, round, neg, mul, level, eq, ne, fits, of_bits, to_bits, is_nan, nan_bits, size, prec, emax, low, hid, ones, top}
use lib.Ieee.Bits.{of_bits-to_bits, to_bits-lt, nan_bits_is, nan_bits_above, is_false}
use lib.Ieee.Fits.{neg-fits, mul-fits}
use Rattle.ieee.specs.Format.{binary32, infinity}

-- a number, zero or infinity without a sign
abbrev pub plain : Float → Bool
plain nan = false
plain (inf s) = not s
plain (fin s m e) = not s

cond-plain : (b : Bool) (x y : Float) → T (plain x) → T (plain y) → T (plain (cond b x y))
cond-plain true x y p q = p
cond-plain false x y p q = q

odd-plain : (d q k l : ℕ) → T (plain (odd d false q k l))
unfolding odd
odd-plain d zero k l = tt
odd-plain d (suc q) k l = tt

units-plain : (f : I.Format) (q k : ℕ) → T (plain (units f false q k))
unfolding units
units-plain f q k =
    cond-plain (ltb (q * 2 ^ k) (2 ^ (low f + suc (emax f)))) (odd (suc (prec f)) false q k (low f)) (inf false) (odd-plain (suc (prec f)) q k (low f)) tt

round-plain : (f : I.Format) (a c : ℕ) → T (plain (round f false a c))
unfolding round
round-plain f a c =
    let n = a * 2 ^ low f in
    let k = size (n / c) - prec f in
    units-plain f (I.nearest (n / (c * 2 ^ k)) (compare (n % (c * 2 ^ k) * 2) (c * 2 ^ k))) k

-- the product of a number with itself is one
product-plain : (f : I.Format) (x : Float) → T (not (is_nan x)) → T (plain (mul f x x))
unfolding mul is_nan
product-plain f nan h = absurd h
product-plain f (inf true) h = tt
product-plain f (inf false) h = tt
product-plain f (fin true m e) h = round-plain f (m * up e * (m * up e)) (down e * down e)
product-plain f (fin false m e) h = round-plain f (m * up e * (m * up e)) (down e * down e)

plain-no-nan : (x : Float) → T (plain x) → T (not (is_nan x))
unfolding is_nan
plain-no-nan nan h = absurd h
plain-no-nan (inf s) h = tt
plain-no-nan (fin s m e) h = tt

-- the pattern of one has no sign, since the number with a sign has one more bit,
plain-below : (f : I.Format) (x : Float) → T (plain x) → T (fits f x) → to_bits f x < top f
unfolding to_bits neg fits
plain-below f nan h k = absurd h
plain-below f (inf true) h k = absurd h
plain-below f (inf false) h k = omega (arith, to_bits-lt f (inf true) tt)
plain-below f (fin true m e) h k = absurd h
plain-below f (fin false m e) h k = omega (arith, to_bits-lt f (fin true m e) (neg-fits f (fin false m e) k))

-- and is at most infinity's
pub plain-within : (f : I.Format) (x : Float) → T (plain x) → T (fits f x) → to_bits f x ≤ ones f * hid f
plain-within f x h k =
    let n = to_bits f x in
    let e : is_nan (of_bits f n) ≡ is_nan x = ap is_nan (of_bits-to_bits f x k) in
    let i : ltb (ones f * hid f) (n % top f) ≡ false =
    sym (nan_bits_above f n) ∙ nan_bits_is f n ∙ e ∙ is_false (is_nan x) (plain-no-nan x h) in
    omega (arith, ltb-false (ones f * hid f) (n % top f) i, mod-eq_of_lt (plain-below f x h k))

-- a float that equals itself is a number or an infinity, and one that does not is the NaN
pub equal-itself : (x : Float) → ne x x ≡ false → T (not (is_nan x))
unfolding ne eq is_nan
equal-itself nan h = subst T h tt
equal-itself (inf s) h = tt
equal-itself (fin s m e) h = tt

finite-itself : (s : Bool) (a : ℕ) → level s a s a ≡ true
finite-itself true a = rw (eq-eqb a a refl)
finite-itself false a = rw (eq-eqb a a refl)

pub unequal-itself : (x : Float) → ne x x ≡ true → x ≡ nan
unfolding ne eq
unequal-itself nan h = refl
unequal-itself (inf true) h = absurd (subst T (sym h) tt)
unequal-itself (inf false) h = absurd (subst T (sym h) tt)
unequal-itself (fin s m e) h = absurd (subst T (sym h ∙ ap not (finite-itself s (m * up e * down e))) tt)

-- the product of such a number with itself is no NaN, and its pattern is at most infinity's; none of those patterns is a NaN's
pub product-askable : (x : Float) → T (not (is_nan x)) → T (not (is_nan (mul I.binary32 x x)))
product-askable x h = plain-no-nan (mul I.binary32 x x) (product-plain I.binary32 x h)

pub product-within : (x : Float) → T (not (is_nan x)) → to_bits I.binary32 (mul I.binary32 x x) ≤ infinity binary32
product-within x h = plain-within I.binary32 (mul I.binary32 x x) (product-plain I.binary32 x h) (mul-fits I.binary32 x x)

pub within-askable : (t : ℕ) → t ≤ infinity binary32 → T (not (nan_bits I.binary32 t))
within-askable t h = rw (nan_bits_above I.binary32 t, le-ltb (infinity binary32) (t % 2147483648) (omega arith)) tt
