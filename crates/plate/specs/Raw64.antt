-- What the raw call for significands of 53 bits gives back. Assumes nothing.
use Rattle.std.specs.Prelude.{ℕ, List, Result}
use Rattle.kinds.specs.declared.Refusal.{Refusal}
use Rattle.kinds.specs.Refusal.{refusal_of, answer_of, then, operation_asked}
use Rattle.significand.specs.Call.{raw64_asked}
use Rattle.plate.specs.declared.c.Raw64Reply.{Raw64Reply}

-- question 1, and then what the operation gives: questions 3, 4, 15 and 16, and the answer g
abbrev pub raw64_call : ℕ → ℕ → ℕ → List ℕ → Result ℕ Refusal
raw64_call operation y p table = then (operation_asked operation) (λ op. raw64_asked op y p table)

-- the same for C: the number of the refusal, or 0, and the answer, 0 after a refusal
abbrev pub raw64_for_c : Result ℕ Refusal → Raw64Reply
raw64_for_c r = record { refusal = refusal_of r; answer = answer_of r }
