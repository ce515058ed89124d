-- Lines of numbers. Assumes nothing.
use Rattle.std.specs.Prelude.{ℕ, List, [], ◌∷◌, ◌++◌, ℤ}
use Rattle.decimal.specs.Digits.{signed_decimal}

abbrev pub blank : ℕ
blank = 32

abbrev pub newline : ℕ
newline = 10

-- a number and the character behind it
abbrev pub followed : ℤ → ℕ → List ℕ
followed z behind = signed_decimal z ++ behind ∷ []

-- numbers in decimal, a blank between two, a newline behind the last
unfoldable pub line : List ℤ → List ℕ
line [] = newline ∷ []
line (z ∷ []) = followed z newline
line (z ∷ (y ∷ s)) = followed z blank ++ line (y ∷ s)
