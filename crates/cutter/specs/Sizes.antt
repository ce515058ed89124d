-- The questions that a map and a list are asked alike, about the trailer that they end in. Assumes nothing.
use Rattle.std.specs.Prelude.{ℕ, ◌+◌, Bool, ◌&&◌, List, leb, eqb, length, Result}
use Rattle.kinds.specs.declared.Refusal.{Refusal}
use Rattle.kinds.specs.declared.Refusal.TheVariants as R
use Rattle.kinds.specs.Question.{ask}
use Rattle.kinds.specs.Refusal.{asked, then}
use Rattle.trailer.specs.Kinds.{length_of, letters_refusal}
use Rattle.trailer.specs.Bytes.{last_fields, ends_in}
use Rattle.trailer.specs.declared.Kind.{Kind}
use Rattle.trailer.specs.declared.Fields.{Fields}
use Rattle.cutter.specs.Limits.{bytes_least, side_least, side_most, step_most, radius_most}

-- whether x is from low to high
abbrev pub within : ℕ → ℕ → ℕ → Bool
within low high x = leb low x && leb x high

-- question 7: are w and d each 3 to 64?
abbrev pub is_sized : ℕ → ℕ → Bool
is_sized w d = within side_least side_most w && within side_least side_most d

-- question 8: is the step 1 to 10,000 and the radius 1 to 12,500?
abbrev pub is_stepped : ℕ → ℕ → Bool
is_stepped step radius = within 1 step_most step && within 1 radius_most radius

-- the number of the first that is answered "no", or 0: 5 asks for 16 bytes, the number given for the kind's letters, then 7 and 8
unfoldable pub trailer_refusal : Kind → ℕ → List ℕ → ℕ
trailer_refusal k number m =
    ask (leb bytes_least (length m)) 5
    (ask (ends_in k m) number
    (ask (is_sized (last_fields k m).width (last_fields k m).depth) 7
    (ask (is_stepped (last_fields k m).step (last_fields k m).radius) 8
    0)))

-- the same by cases, and where each is answered "yes" the trailer's fields
abbrev pub trailer_asked : Kind → List ℕ → Result Fields Refusal
trailer_asked k m =
    then (asked (leb bytes_least (length m)) R.Short m) (λ b.
    then (asked (ends_in k b) (letters_refusal k) (last_fields k b)) (λ t.
    then (asked (is_sized t.width t.depth) R.Sides t) (λ t.
    asked (is_stepped t.step t.radius) R.Lengths t)))

-- question 9 of a map, 13 of a list: is the distance back the bytes that the sizes ask for, and the whole that plus the trailer's?
abbrev pub is_whole : Kind → ℕ → ℕ → ℕ → Bool
is_whole k before distance whole = eqb distance before && eqb whole (before + length_of k)
