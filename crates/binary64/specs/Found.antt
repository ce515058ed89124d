-- The pattern below the exact result of an operand, where the entry that it needs is M. Assumes nothing.
use Rattle.std.specs.Prelude.{◌≡◌, Bool, true, false, List, ℕ, Result, Ok, Err}
use Rattle.kinds.specs.declared.Op.{Op}
use Rattle.kinds.specs.declared.Refusal.{Refusal}
use Rattle.kinds.specs.declared.Refusal.TheVariants as R
use Rattle.significand.specs.Width.{k64, t64}
use Rattle.significand.specs.Call.{is_entry}
use Rattle.ieee.specs.Format.{binary64, magnitude_of}
use Rattle.ieee.specs.Normalized.{significand_of, exponent_parity}
use Rattle.neighbour.specs.Neighbour.{BelowResult}
use Rattle.neighbour.specs.declared.Neighbour.{Neighbour}

-- question 16 of the operand whose pattern without sign is t
abbrev pub is_entry_of : Op → ℕ → List ℕ → Bool
is_entry_of op t tables = is_entry k64 t64 op (significand_of binary64 (magnitude_of binary64 t)) (exponent_parity binary64 (magnitude_of binary64 t)) tables

abbrev pub FoundFor : Op → ℕ → List ℕ → Result Neighbour Refusal → Type 0
FoundFor op t tables (Ok n) = (is_entry_of op t tables ≡ true) × BelowResult binary64 op t n
FoundFor op t tables (Err e) = (is_entry_of op t tables ≡ false) × (e ≡ R.Entry)
