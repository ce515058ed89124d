-- What the raw call gives back. Assumes nothing.
use Rattle.std.specs.Prelude.{ℕ, Result}
use Rattle.kinds.specs.declared.Refusal.{Refusal}
use Rattle.kinds.specs.Refusal.{then, operation_asked}
use Rattle.significand.specs.Call.{raw_asked}

-- question 1, and then what the operation gives: questions 3 and 4, and the answer g
abbrev pub raw_call : ℕ → ℕ → ℕ → Result ℕ Refusal
raw_call operation y p = then (operation_asked operation) (λ op. raw_asked op y p)
