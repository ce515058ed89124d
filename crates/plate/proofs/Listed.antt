-- What a list call gives in numbers, and that a length reported is a number of 32 bits. Assumes nothing.
use Rattle.std.specs.Prelude.{Result, Ok}
use mathlib.Core.Path.{◌≡◌, sym, ap, ◌∙◌}
use mathlib.Core.List.{List}
use mathlib.Core.Logic.{by_cases}
use Prim.Native.Nat.{ℕ, ◌^◌, ◌<◌}
use native.Mathlib.Decide.{ℕ_discrete}
use native.Mathlib.Omega.{arith}
use lib.ListN.{length}
use Rattle.kinds.specs.declared.Refusal.{Refusal}
use Rattle.kinds.specs.declared.Rule.{Rule}
use Rattle.kinds.specs.Refusal.{refusal_of, answer_of}
use Rattle.cutter.specs.Map.{width_of, depth_of}
use Rattle.cutter.specs.Call.{list_refusal, list_answer, buffer_after}
use Rattle.cutter.proofs.Counts.{count_most}
use Rattle.cutter.proofs.Lengths.{list-length-is}
use Rattle.cutter.proofs.Accepted.{accepted-of, map-asked, accepted-answer, refused-answer}
use Rattle.cutter.proofs.Asked.{call-number, call-answer}
use Rattle.plate.specs.List.{list_call, ListCall}

-- the reply by cases says the published numbers
module _ (rule : Rule) (rounding : ℕ) (m before after : List ℕ) (r : Result ℕ Refusal) (e : r ≡ list_call rounding m (length before)) where
  pub listed : after ≡ buffer_after rule rounding m before → ListCall rule rounding m before r after
  listed f =
      record {
        answers = e;
        refuses = ap refusal_of e ∙ call-number m rounding (length before);
        reports = ap answer_of e ∙ call-answer m rounding (length before);
        leaves = f;
      }

-- a list is short
length-small : (rounding : ℕ) (m : List ℕ) (room : ℕ) → list_answer rounding m room < 2 ^ 32
length-small rounding m room =
    by_cases (ℕ_discrete (list_refusal rounding m room) 0)
    (λ z.
    omega (
      arith,
      accepted-answer rounding m room z,
      list-length-is m,
      count_most (width_of m) (depth_of m) (accepted-of m room (map-asked rounding m room z)).trailed.sizes,
    ))
    (λ h. omega (arith, refused-answer rounding m room h))

-- so is what a call reports
pub reported-small : (rule : Rule) (rounding : ℕ) (m before after : List ℕ) (r : Result ℕ Refusal) → ListCall rule rounding m before r after
    → (n : ℕ) → r ≡ Ok n → n < 2 ^ 32
reported-small rule rounding m before after r c n e = rw (sym (ap answer_of e) ∙ c.reports) (length-small rounding m (length before))
