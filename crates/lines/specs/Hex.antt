-- A pattern in hexadecimal digits, as bytes of text. Assumes nothing.
use Rattle.std.specs.Prelude.{cond, List, [], ◌∷◌, ℕ, ◌+◌, ◌/◌, ◌%◌, ltb}

-- the last digit of a number, in upper case
unfoldable pub hex_digit : ℕ → ℕ
hex_digit x = cond (ltb (x % 16) 10) (48 + x % 16) (55 + x % 16)

-- eight digits
abbrev pub hex_of : ℕ → List ℕ
hex_of x =
    hex_digit (x / 268435456)
    ∷ hex_digit (x / 16777216)
    ∷ hex_digit (x / 1048576)
    ∷ hex_digit (x / 65536)
    ∷ hex_digit (x / 4096)
    ∷ hex_digit (x / 256)
    ∷ hex_digit (x / 16)
    ∷ hex_digit x
    ∷ []
