-- A line of the text by the entries of a list's bytes, as the code makes it. Assumes nothing.
use Rattle.std.specs.Prelude.{ℕ, ◌+◌, ◌/◌, ◌%◌, List, [], ◌∷◌, pos}
use Rattle.cutter.specs.List.{entry_at}
use Rattle.printing.specs.Line.{line}

-- column, row, x, y and z of record n in the list of a map with so many inner columns
unfoldable pub entry_line : List ℕ → ℕ → ℕ → List ℕ
entry_line bytes columns n =
    line (pos (n % columns + 1) ∷ pos (n / columns + 1) ∷ entry_at bytes n 0 ∷ entry_at bytes n 1 ∷ entry_at bytes n 2 ∷ [])
