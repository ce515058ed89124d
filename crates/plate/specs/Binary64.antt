-- What the binary64 call gives back. Assumes nothing.
use Rattle.std.specs.Prelude.{ℕ, List, Result}
use Rattle.kinds.specs.declared.Refusal.{Refusal}
use Rattle.kinds.specs.Refusal.{refusal_of, answer_of, then, operation_asked, rounding_asked}
use Rattle.ieee.specs.Answer.{Answer}
use Rattle.binary64.specs.Call.{rounded64_asked}
use Rattle.plate.specs.declared.Status.{Status}
use Rattle.plate.specs.declared.Reply.{Reply}
use Rattle.plate.specs.Rounded.{replied}
use Rattle.plate.specs.declared.c.CBinary64Reply.{CBinary64Reply}

-- questions 1 and 2, and then what the operation gives: questions 15 and 16, and the answer
abbrev pub binary64_answer : ℕ → ℕ → ℕ → List ℕ → Result Answer Refusal
binary64_answer operation rounding b tables =
    then (operation_asked operation) (λ op.
    then (rounding_asked rounding) (λ mode.
    rounded64_asked op mode b tables))

abbrev pub binary64_call : ℕ → ℕ → ℕ → Status → List ℕ → Reply ℕ
binary64_call operation rounding b status tables = replied status (binary64_answer operation rounding b tables)

-- the same for C: the number of the refusal, or 0, the new status, and the bits, 0 after a refusal
abbrev pub binary64_for_c : Reply ℕ → CBinary64Reply
binary64_for_c r = record { refusal = refusal_of r.answer; status = r.status.flags; bits = answer_of r.answer }
