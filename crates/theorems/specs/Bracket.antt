-- Demand 3 of two calls, one rounded down and one up. Assumes nothing.
use Rattle.std.specs.Prelude.{◌≡◌, ◌↔◌, List, ℕ, ◌*◌, ◌<◌, take, pos, ◌+ℤ◌, Result}
use Rattle.kinds.specs.declared.Refusal.{Refusal}
use Rattle.kinds.specs.Refusal.{answer_of}
use Rattle.kinds.specs.Operation.{op_of}
use Rattle.ieee.specs.Format.{Format, magnitude_of}
use Rattle.ieee.specs.Agree.{Agree}
use Rattle.ieee.specs.Bracket.{Bracket}
use Rattle.cutter.specs.Map.{width_of, depth_of}
use Rattle.cutter.specs.List.{count_of, entry_at}
use Rattle.cutter.specs.Agree.{ExactMap}
use Rattle.bracket.specs.Bracket.{EndsAlike}

-- two answers to one operand, by their bits: equal exactly where its value agrees, and otherwise the upper pattern is the next above the
-- lower
abbrev pub CallsBracket : Format → ℕ → ℕ → ℕ → ℕ → Type 0
CallsBracket f operation operand lower upper = Bracket (Agree f (op_of operation) (magnitude_of f operand)) lower upper

-- two lists of the map m, each what a call left in its buffer, over the length that it reported: their records are equal byte for byte
-- exactly where the map is exact at every inner point; of two entries that differ, the upper is larger by one micrometre; behind the
-- records they end alike but for the rounding
pub record ListsBracket (m : List ℕ) (lower upper : Result ℕ Refusal) (lowest uppermost : List ℕ) : Type 0 where
  pub equal :
      (take (12 * count_of (width_of m) (depth_of m)) lowest ≡ take (12 * count_of (width_of m) (depth_of m)) uppermost) ↔ ExactMap m
  pub next : (n j : ℕ) → n < count_of (width_of m) (depth_of m) → j < 3
      → (entry_at lowest n j ≡ entry_at uppermost n j → ⊥)
      → entry_at uppermost n j ≡ entry_at lowest n j +ℤ pos 1
  pub ends : EndsAlike (12 * count_of (width_of m) (depth_of m)) (take (answer_of lower) lowest) (take (answer_of upper) uppermost)
