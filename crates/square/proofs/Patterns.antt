-- The language's floats and the unit's patterns: the value of a finite pattern, and the pattern of a value. Assumes nothing.
use mathlib.Core.Path.{◌≡◌, sym, subst, ◌∙◌}
use mathlib.Core.Bool.{false, not}
use Prim.Native.Nat.{ℕ, zero, suc, ◌+◌, ◌*◌, ◌-◌, ◌/◌, ◌%◌, ◌^◌, ◌<◌}
use native.Mathlib.Nat.{mul-one, mod-eq_of_lt, mul-div_cancel, zero-add}
use native.Mathlib.Omega.{arith}
use borrow.Author.Tests.{lt-leb, ne_eqb}
use lib.Dec.{T}
use lib.Ieee as I
use lib.Ieee.{Float, nan, inf, fin, odd, of_fields, of_bits, to_bits, is_nan, size, prec, low, hid}
use lib.Ieee.Bits.{to_bits-of_bits}
use lib.Ieee.Exact.{HasValue, odd_sign}
use lib.Ieee.Fits.{down_pos}
use Rattle.ieee.specs.Format.{binary32, infinity, scaled, magnitude_of}

fields_value : (e x : ℕ) → e < 255 → HasValue (of_fields I.binary32 false e x) false (scaled 23 e x) (2 ^ 149)
unfolding of_fields
fields_value zero x h = subst (λ (a : ℕ). HasValue (odd 24 false x 0 149) false a (2 ^ 149)) (mul-one x) (odd_sign 24 false x 0 149)
fields_value (suc e) x h = rw (ne_eqb (suc e) 255 (omega arith)) (odd_sign 24 false (8388608 + x) e 149)

-- a finite pattern's float has the pattern's magnitude
pub pattern-value : (t : ℕ) → t < infinity binary32 → HasValue (of_bits I.binary32 t) false (magnitude_of binary32 t) (2 ^ 149)
unfolding of_bits magnitude_of
pattern-value t h =
    let small : t < 2147483648 = omega arith in
    rw (lt-leb 2147483648 t small, mod-eq_of_lt small) (fields_value (t / 8388608) (t % 8388608) (omega arith))

-- the bits of a float, from its value alone
bits-by-value : (f : I.Format) (x : Float) (a : ℕ) → HasValue x false a (2 ^ low f)
    → to_bits f x ≡ (size a - prec f) * hid f + a / 2 ^ (size a - prec f)
unfolding to_bits
bits-by-value f nan a h = absurd h
bits-by-value f (inf s) a h = absurd h
bits-by-value f (fin s m e) a h = rw (h.0, h.1, mul-div_cancel a (down_pos e), zero-add)

no_nan : (x : Float) (a c : ℕ) → HasValue x false a c → T (not (is_nan x))
unfolding is_nan
no_nan nan a c h = absurd h
no_nan (inf s) a c h = tt
no_nan (fin s m e) a c h = tt

-- the bits of a float whose value is that of a finite pattern are the pattern
pub value-bits : (x : Float) (t : ℕ) → t < infinity binary32 → HasValue x false (magnitude_of binary32 t) (2 ^ 149) → to_bits I.binary32 x ≡ t
value-bits x t h v =
    let o = pattern-value t h in
    bits-by-value I.binary32 x (magnitude_of binary32 t) v ∙ sym (bits-by-value I.binary32 (of_bits I.binary32 t) (magnitude_of binary32 t) o)
    ∙ to_bits-of_bits I.binary32 t (omega arith) (no_nan (of_bits I.binary32 t) (magnitude_of binary32 t) (2 ^ 149) o)
