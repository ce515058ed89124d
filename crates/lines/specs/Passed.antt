-- What is left of a text that something was read of. Assumes nothing.
use Rattle.std.specs.Prelude.{ℕ, ◌≡◌, ◌≤◌, List, length, drop, min}

-- the rest is what is behind so many bytes of the text, at least one of them, but for the end of the text
pub record Passed (text rest : List ℕ) : Type 0 where
  pub taken : ℕ
  pub ahead : min 1 (length text) ≤ taken
  pub inside : taken ≤ length text
  pub behind : rest ≡ drop taken text
