-- Little-endian numbers and letters in a list of bytes, read and written. Assumes nothing.
use Rattle.std.specs.Prelude.{ℕ, ◌+◌, ◌*◌, ◌/◌, ◌%◌, Bool, ◌&&◌, List, [], ◌∷◌, eqb, get_or}

-- the number of the two bytes from `at` on, the lower first
abbrev pub half_at : List ℕ → ℕ → ℕ
half_at s at = get_or s at 0 + 256 * get_or s (at + 1) 0

-- the number of the four bytes from `at` on, the lowest first
abbrev pub word_at : List ℕ → ℕ → ℕ
word_at s at = get_or s at 0 + 256 * get_or s (at + 1) 0 + 65536 * get_or s (at + 2) 0 + 16777216 * get_or s (at + 3) 0

-- the two bytes of a number below 2^16
unfoldable pub half_bytes : ℕ → List ℕ
half_bytes x = x % 256 ∷ x / 256 % 256 ∷ []

-- the four bytes of a number below 2^32
unfoldable pub word_bytes : ℕ → List ℕ
word_bytes x = x % 256 ∷ x / 256 % 256 ∷ x / 65536 % 256 ∷ x / 16777216 % 256 ∷ []

-- whether the four bytes from `at` on are those of the name
abbrev pub reads_at : List ℕ → ℕ → List ℕ → Bool
reads_at s at name =
    eqb (get_or s at 0) (get_or name 0 0)
    && eqb (get_or s (at + 1) 0) (get_or name 1 0)
    && eqb (get_or s (at + 2) 0) (get_or name 2 0)
    && eqb (get_or s (at + 3) 0) (get_or name 3 0)
