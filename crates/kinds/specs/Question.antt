-- Questions at the door: asked in order, the first "no" gives its number. Assumes nothing.
use Rattle.std.specs.Prelude.{ℕ, zero, suc, Bool, true, false}

-- one question: where the answer is yes, what the later ones give; where it is no, its number
unfoldable pub ask : Bool → ℕ → ℕ → ℕ
ask true number rest = rest
ask false number rest = number

-- questions in two groups: the number that an earlier group gives, and where that is none, 0, what the later one gives
unfoldable pub then_ask : ℕ → ℕ → ℕ
then_ask zero later = later
then_ask (suc number) later = suc number
