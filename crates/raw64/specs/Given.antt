-- What an operation needs of the lent tables at k = 15, and what the raw unit gives by them. Assumes nothing.
use Rattle.std.specs.Prelude.{ℕ, T, List, length, Result}
use Rattle.kinds.specs.declared.Op.{Op}
use Rattle.kinds.specs.declared.Refusal.{Refusal}
use Rattle.significand.specs.Width.{k64, t64}
use Rattle.significand.specs.Call.{is_lent, entry_asked}

abbrev pub IsLent : Op → List ℕ → Type 0
IsLent op table = T (is_lent k64 op (length table))

abbrev pub entry_given : Op → ℕ → ℕ → List ℕ → Result ℕ Refusal
entry_given op y p table = entry_asked k64 t64 op y p table
