-- The decimal text that the standard library writes is that of the definitions. Assumes nothing.
use mathlib.Core.Path.{◌≡◌, sym, ap, ◌∙◌}
use mathlib.Core.List.{List, [], ◌∷◌, ◌++◌}
use Prim.Native.Nat.{ℕ, suc, ◌%◌, ◌^◌, ◌<◌}
use native.Mathlib.Omega.{arith}
use lib.IntN.{ℤ, pos, negsuc}
use lib.Signed.{mag}
use mir.Syntax.{w64}
use mir.Val.{to_z, of_z, SFits}
use Rattle.std.specs.Fmt as std
use Rattle.std.proofs.lemmas.Fmt.{decimal_by_steps}
use Rattle.std.proofs.lemmas.Int.{to_z-of_z}
use Rattle.decimal.specs.Digits.{digit, minus, decimal, signed_decimal}
use Rattle.decimal.proofs.Digits.{decimal-few, decimal-more}

pub standard : (x : ℕ) → x < 2 ^ 64 → std.decimal x ≡ decimal x
standard =
    decimal_by_steps (λ (x : ℕ) (s : List ℕ). s ≡ decimal x)
    (λ x h. sym (decimal-few x h))
    (λ x s h e. ap (λ (f : List ℕ). f ++ digit (x % 10) ∷ []) e ∙ sym (decimal-more x h))

pub signed : (z : ℤ) → mag z < 2 ^ 63 → std.signed_decimal z ≡ signed_decimal z
unfolding signed_decimal
signed (pos n) h = standard n (omega arith)
signed (negsuc n) h = ap (λ (s : List ℕ). minus ∷ s) (standard (suc n) (omega arith))

-- as a call writes it
pub written : (z : ℤ) (s : List ℕ) → SFits w64 z → s ≡ std.signed_decimal (to_z w64 (of_z w64 z)) → s ≡ signed_decimal z
written z s f e = e ∙ ap std.signed_decimal (to_z-of_z w64 z f) ∙ signed z f.sfits
