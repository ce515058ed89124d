-- What `platelist` prints of the bytes that it reads. Assumes nothing.
use Rattle.std.specs.Prelude.{ℕ, ◌+◌, ◌*◌, cond, List, [], ◌∷◌, ◌++◌, ltb, eqb, length, pos}
use Rattle.kinds.specs.declared.Mode.TheVariants.{Nearest}
use Rattle.words.specs.Joined.{joined}
use Rattle.kinds.specs.declared.Rule.TheVariants.{Lifted}
use Rattle.cutter.specs.Map.{width_of, depth_of, step_of, radius_of}
use Rattle.cutter.specs.Centre.{Centre}
use Rattle.cutter.specs.List.{count_of, column_of, row_of, centre_at}
use Rattle.cutter.specs.Call.{list_refusal}
use Rattle.printing.specs.Line.{line}

-- the longest map has 16,400 bytes, and the longest list 46,146
abbrev pub map_most : ℕ
map_most = 16400

abbrev pub list_most : ℕ
list_most = 46146

-- no text is longer than a line of four numbers and 62 × 62 lines of five, 12 characters a number
abbrev pub text_most : ℕ
text_most = 4 * 12 + 62 * 62 * (5 * 12)

-- first w, d, step and radius
unfoldable pub sizes_line : List ℕ → List ℕ
sizes_line m = line (pos (width_of m) ∷ pos (depth_of m) ∷ pos (step_of m) ∷ pos (radius_of m) ∷ [])

-- then per record column, row, x, y, z
abbrev pub record_line : ℕ → ℕ → Centre → List ℕ
record_line column row k = line (pos column ∷ pos row ∷ k.x ∷ k.y ∷ k.z ∷ [])

-- the list of a map, rounding nearest
unfoldable pub list_text : List ℕ → List ℕ
list_text m =
    sizes_line m
    ++ joined (λ (n : ℕ). record_line (column_of (width_of m) n) (row_of (width_of m) n) (centre_at Lifted Nearest m n)) (count_of (width_of m) (depth_of m))

-- `refused`, a space and the number
unfoldable pub refused_text : ℕ → List ℕ
refused_text number = 114 ∷ 101 ∷ 102 ∷ 117 ∷ 115 ∷ 101 ∷ 100 ∷ 32 ∷ line (pos number ∷ [])

-- 9 for more bytes than the longest map has; otherwise what the list call answers, rounding nearest, its buffer holding the longest list
unfoldable pub text_refusal : List ℕ → ℕ
text_refusal m = cond (ltb map_most (length m)) 9 (list_refusal 0 m list_most)

-- all that is printed
unfoldable pub platelist_text : List ℕ → List ℕ
platelist_text m = cond (eqb (text_refusal m) 0) (list_text m) (refused_text (text_refusal m))
