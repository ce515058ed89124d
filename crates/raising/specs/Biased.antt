-- Heights and z with a bias, as the code has them, and what it knows of a raised z. Assumes nothing.
use Rattle.std.specs.Prelude.{ℕ, ◌+◌, ◌*◌, Bool, List, [], ◌∷◌, ℤ}
use Rattle.std.proofs.Math.IntN.{sub_ℕ}
use Rattle.words.specs.Word.{word_at}
use Rattle.words.specs.Signed.{signed}
use Rattle.cutter.specs.Limits.{height_most}
use Rattle.cutter.specs.Lift.{Contact, meets, meets_all}
use Rattle.raising.specs.declared.Squares.{Squares}

-- the number that one with the bias stands for
abbrev pub lowered : ℕ → ℤ
lowered u = sub_ℕ u height_most

-- the height at place i of a map, and the square of its level distance
abbrev pub contact_from : List ℕ → ℕ → ℕ → Contact
contact_from m i apart = record { height = signed (word_at m (4 * i)); apart = apart }

-- three heights of a row, from place i on; y is the square of the row's level distance
abbrev pub three_from : List ℕ → ℕ → Squares → ℕ → List Contact
three_from m i x y =
    contact_from m i (x.before + y) ∷ contact_from m (i + 1) (x.own + y) ∷ contact_from m (i + 2) (x.behind + y) ∷ []

-- whether a number with the bias meets the rule for one height, which has it too, or for all of these
abbrev pub meets_one : ℕ → ℕ → ℕ → ℕ → Bool
meets_one radius h apart y = meets radius (record { height = lowered h; apart = apart }) (lowered y)

abbrev pub meets_these : ℕ → List Contact → ℕ → Bool
meets_these radius ks y = meets_all radius ks (lowered y)
