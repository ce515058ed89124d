-- What the record call gives in numbers. Assumes nothing.
use Rattle.std.specs.Prelude.{cond, Bool, true, false, eqb, Result, Ok, Err}
use Rattle.std.specs.Bool.{then_some}
use mathlib.Core.Path.{◌≡◌, refl, sym, ◌∙◌}
use mathlib.Core.List.{List}
use Prim.Native.Nat.{ℕ, ◌≤◌}
use native.Mathlib.Omega.{arith}
use borrow.Author.Tests.{ne_eqb}
use lib.Dec.{leb→le}
use Rattle.kinds.specs.declared.Refusal.{Refusal}
use Rattle.kinds.specs.Rounding.{mode_of}
use Rattle.kinds.specs.Refusal.{number_of, refusal_of, then}
use Rattle.kinds.specs.Rounding.{is_rounding}
use Rattle.kinds.proofs.Questions.{yes, then-none, number-back}
use Rattle.kinds.proofs.Refusals.{number-positive}
use Rattle.trailer.specs.Kinds.{is_rounded}
use Rattle.trailer.specs.Bytes.{list_kind}
use Rattle.reader.specs.declared.Record.{Record}
use Rattle.reader.specs.Reader.{list_trailer, reader_refusal, record_refusal}
use Rattle.reader.specs.Record.{record_asked}
use Rattle.reader.proofs.Questions.{record-number, record-accepted}
use Rattle.plate.specs.declared.ListRecord.{ListRecord}
use Rattle.plate.specs.Record.{list_rounding, list_record, record_call, rounding_stated, record_read, no_record, told_of, record_told}

-- a reply's number and its record, in the types that users name
same-number : (r : Result Record Refusal) → refusal_of (then r (λ q. Ok (list_record q))) ≡ refusal_of r
same-number (Ok q) = refl
same-number (Err e) = refl

told-by : (r : Result Record Refusal) (n : ℕ) (x : ListRecord) → refusal_of r ≡ n → (n ≡ 0 → told_of (then r (λ q. Ok (list_record q))) ≡ x)
    → told_of (then r (λ q. Ok (list_record q))) ≡ cond (eqb n 0) x no_record
told-by (Ok q) n x e h = rw (← e) (h (sym e))
told-by (Err d) n x e h = rw (← e, ne_eqb (number_of d) 0 (λ z. let p = number-positive d in omega arith)) refl

-- a rounding that is stated is one of the four
stated : (r : Bool) (n : ℕ) → n ≤ 3 → list_rounding (then_some r (mode_of n)) ≡ rounding_stated r n
stated true n h = rw (number-back n h) refl
stated false n h = refl

rounding-known : (b : List ℕ) (index : ℕ) → record_refusal b index ≡ 0 → (list_trailer b).rounding ≤ 3
unfolding record_refusal reader_refusal
rounding-known b index e =
    leb→le (list_trailer b).rounding 3 (yes (is_rounding (list_trailer b).rounding) 1 0 (yes _ 12 _ (then-none _ _ (then-none _ _ e).0).1).1).0

pub record-numbers : (b : List ℕ) (index : ℕ) (r : Result ListRecord Refusal) → r ≡ record_call b index
    → (refusal_of r ≡ record_refusal b index) × (told_of r ≡ record_told b index)
record-numbers b index r e =
    rw e (
      same-number (record_asked b index) ∙ record-number b index,
      told-by (record_asked b index) (record_refusal b index) (record_read b index) (record-number b index)
          (λ z. rw (record-accepted b index z, stated (is_rounded (list_kind b)) (list_trailer b).rounding (rounding-known b index z)) refl),
    )
