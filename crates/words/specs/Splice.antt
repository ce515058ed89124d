-- A run of bytes put over those of a list. Assumes nothing.
use Rattle.std.specs.Prelude.{ℕ, ◌+◌, List, ◌++◌, length, take, drop}

-- the list l with the bytes b in place of as many from `at` on
unfoldable pub splice : ℕ → List ℕ → List ℕ → List ℕ
splice at b l = take at l ++ b ++ drop (at + length b) l
