-- What the function's steps ask, and what it returns: at a NaN, and at a float that the format holds. Assumes nothing.
use Rattle.std.specs.Prelude.{Ok}
use mathlib.Core.Path.{◌≡◌, refl, sym, ap, subst, ◌∙◌}
use mathlib.Core.Bool.{true, false, not}
use Prim.Native.Nat.{ℕ}
use lib.Dec.{T, lit<}
use lib.Ieee as I
use lib.Ieee.{Float, ne, fits, is_nan, nan_bits, mul, of_bits, to_bits}
use Rattle.kinds.specs.Operation.{op_of}
use Rattle.kinds.specs.Rounding.{mode_of}
use Rattle.ieee.specs.Format.{binary32}
use Rattle.kinds.specs.Refusal.{answer_of}
use Rattle.ieee.specs.Answer.{answer_of as answer_to}
use Rattle.ieee.specs.Call.{binary32_refusal, binary32_bits}
use Rattle.ieee.proofs.Accepted.{bits-within}
use Rattle.plate.specs.declared.Status.{Status}
use Rattle.plate.specs.declared.Reply.{Reply}
use Rattle.plate.proofs.Numbers.{binary32-answered}
use Rattle.plate.specs.Binary32.{binary32_call}
use Rattle.square.specs.Width.{is_width, root_of_square}
use Rattle.square.proofs.Plain.{equal-itself, unequal-itself, product-askable, product-within, within-askable}
use Rattle.square.proofs.Widths.{root-called, comes_back}

-- what is promised of a result r for the width x
abbrev Promised : Float → Float → Type 0
Promised x r = (r ≡ root_of_square x) × (T (is_width x) → r ≡ x)

pub nan-returned : (x : Float) → ne x x ≡ true → Promised x x
unfolding root_of_square of_bits to_bits mul answer_to
nan-returned x h = (subst (λ (y : Float). y ≡ root_of_square y) (sym (unequal-itself x h)) refl, λ w. refl)

pub product-asked : (x : Float) → ne x x ≡ false → T (not (is_nan (mul I.binary32 x x)))
product-asked x h = product-askable x (equal-itself x h)

-- no call on the product's bits, whatever the operation and the rounding, answers a NaN's pattern
pub root-asked : (x : Float) (operation rounding : ℕ) (status : Status) (reply : Reply ℕ) (bits : ℕ)
    → reply ≡ binary32_call operation rounding (to_bits I.binary32 (mul I.binary32 x x)) status → reply.answer ≡ Ok bits → ne x x ≡ false
    → T (not (nan_bits I.binary32 bits))
root-asked x operation rounding status reply bits e a h =
    rw (sym (ap answer_of a) ∙ ap (λ (r : Reply ℕ). answer_of r.answer) e ∙ binary32-answered operation rounding _ status)
    (within-askable (binary32_bits operation rounding (to_bits I.binary32 (mul I.binary32 x x)))
    (bits-within binary32 (binary32_refusal operation rounding) (op_of operation) (mode_of rounding) (to_bits I.binary32 (mul I.binary32 x x)) (lit< tt) (product-within x (equal-itself x h))))

-- the nearest root is what is promised
pub root-returned : (x : Float) (status : Status) (reply : Reply ℕ) (bits : ℕ) → reply ≡ binary32_call 2 0 (to_bits I.binary32 (mul I.binary32 x x)) status
    → reply.answer ≡ Ok bits → T (fits I.binary32 x) → Promised x (of_bits I.binary32 bits)
unfolding root_of_square
root-returned x status reply bits e a F =
    let is : of_bits I.binary32 bits ≡ root_of_square x =
    ap (of_bits I.binary32) (sym (ap answer_of a) ∙ ap (λ (r : Reply ℕ). answer_of r.answer) e ∙ ap answer_of (root-called (to_bits I.binary32 (mul I.binary32 x x)) status)) in
    (is, λ w. is ∙ comes_back x F w)
