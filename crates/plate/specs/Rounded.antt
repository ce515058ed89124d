-- What a rounded call gives back. Assumes nothing.
use Rattle.std.specs.Prelude.{ℕ, Result, Ok, Err}
use Rattle.kinds.specs.declared.Refusal.{Refusal}
use Rattle.ieee.specs.Answer.{Answer}
use Rattle.plate.specs.declared.Status.{Status}
use Rattle.plate.specs.declared.Reply.{Reply}
use Rattle.plate.specs.Status.{raised}

-- the bits of an answer
abbrev pub bits_of : Result Answer Refusal → Result ℕ Refusal
bits_of (Ok a) = Ok a.bits
bits_of (Err e) = Err e

-- its flags raised in the status; after a refusal the status as given
abbrev pub status_after : Status → Result Answer Refusal → Status
status_after status (Ok a) = raised status a.flags
status_after status (Err e) = status

abbrev pub replied : Status → Result Answer Refusal → Reply ℕ
replied status r = record { status = status_after status r; answer = bits_of r }
