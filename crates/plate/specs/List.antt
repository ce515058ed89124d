-- What the list calls give back, and what the lent buffer holds after one. Assumes nothing.
use Rattle.std.specs.Prelude.{ℕ, ◌≡◌, List, length, Result}
use Rattle.kinds.specs.declared.Refusal.{Refusal}
use Rattle.kinds.specs.declared.Rule.{Rule}
use Rattle.kinds.specs.Refusal.{refusal_of, answer_of, then, rounding_asked}
use Rattle.cutter.specs.Call.{list_asked, list_refusal, list_answer, buffer_after}

-- question 2, and then the questions about the map and the buffer, which has room for so many bytes, and the length of the list
abbrev pub list_call : ℕ → List ℕ → ℕ → Result ℕ Refusal
list_call rounding m room = then (rounding_asked rounding) (λ mode. list_asked m room)

-- a call for centres of a rule, on the map m and a buffer that held `before`, gives the reply and leaves the buffer with `after`; in numbers
-- the reply is that of the first question answered "no", or 0, and the length reported, 0 after a "no"
pub record ListCall (rule : Rule) (rounding : ℕ) (m before : List ℕ) (reply : Result ℕ Refusal) (after : List ℕ) : Type 0 where
  pub answers : reply ≡ list_call rounding m (length before)
  pub refuses : refusal_of reply ≡ list_refusal rounding m (length before)
  pub reports : answer_of reply ≡ list_answer rounding m (length before)
  pub leaves : after ≡ buffer_after rule rounding m before
