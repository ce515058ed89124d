-- A lower and an upper answer to one operand. Assumes nothing.
use Rattle.std.specs.Prelude.{◌≡◌, ◌↔◌, ℕ, suc}

-- the two patterns are equal exactly where `agree` holds, and elsewhere the upper is the next above the lower
pub record Bracket (agree : Type 0) (lower upper : ℕ) : Type 0 where
  pub equal : (lower ≡ upper) ↔ agree
  pub next : (agree → ⊥) → upper ≡ suc lower
