-- The list calls: their questions, what they answer, and what the lent buffer holds after one. Assumes nothing.
use Rattle.std.specs.Prelude.{ℕ, zero, suc, ◌*◌, Bool, true, cond, ◌&&◌, List, leb, eqb, length, nat_abs, Result}
use Rattle.kinds.specs.declared.Refusal.{Refusal}
use Rattle.kinds.specs.declared.Refusal.TheVariants as R
use Rattle.kinds.specs.Question.{ask, then_ask}
use Rattle.kinds.specs.Refusal.{asked, then}
use Rattle.kinds.specs.Rounding.{is_rounding, mode_of}
use Rattle.kinds.specs.declared.Rule.{Rule}
use Rattle.words.specs.Word.{word_at}
use Rattle.words.specs.Signed.{signed}
use Rattle.words.specs.Splice.{splice}
use Rattle.trailer.specs.declared.Kind.TheVariants.{Plt1}
use Rattle.trailer.specs.declared.Fields.{Fields}
use Rattle.cutter.specs.Limits.{height_most}
use Rattle.cutter.specs.Map.{distance_of, width_of, depth_of}
use Rattle.cutter.specs.Sizes.{trailer_refusal, trailer_asked, is_whole}
use Rattle.cutter.specs.List.{list_length, list_bytes}

-- question 10 of the first n heights: is each from −50,000 to 50,000?
unfoldable pub heights_within : List ℕ → ℕ → Bool
heights_within m zero = true
heights_within m (suc n) = heights_within m n && leb (nat_abs (signed (word_at m (4 * n)))) height_most

-- question 11: does the lent buffer, with room for so many bytes, hold the list?
abbrev pub has_room : List ℕ → ℕ → Bool
has_room m room = leb (list_length m) room

-- questions 9 to 11; 9 asks for four bytes a height
unfoldable pub heights_refusal : List ℕ → ℕ → ℕ
heights_refusal m room =
    ask (is_whole Plt1 (4 * (width_of m * depth_of m)) (distance_of m) (length m)) 9
    (ask (heights_within m (width_of m * depth_of m)) 10
    (ask (has_room m room) 11
    0))

-- the number of the first question about the map and the buffer that is answered "no", or 0: those about its trailer, 6 asking for the
-- letters PLT1, then 9 to 11
unfoldable pub map_refusal : List ℕ → ℕ → ℕ
map_refusal m room = then_ask (trailer_refusal Plt1 6 m) (heights_refusal m room)

-- the same by cases: questions 5 to 10, and where each is answered "yes" the map's trailer
abbrev pub map_asked : List ℕ → Result Fields Refusal
map_asked m =
    then (trailer_asked Plt1 m) (λ t.
    then (asked (is_whole Plt1 (4 * (t.width * t.depth)) t.distance (length m)) R.MapDistance t) (λ t.
    asked (heights_within m (t.width * t.depth)) R.Height t))

-- those and 11, and where that is answered "yes" too the length of the map's list
abbrev pub list_asked : List ℕ → ℕ → Result ℕ Refusal
list_asked m room = then (map_asked m) (λ t. asked (has_room m room) R.Room (list_length m))

-- the same in numbers, of the call: question 2, and then the map's
unfoldable pub list_refusal : ℕ → List ℕ → ℕ → ℕ
list_refusal rounding m room = ask (is_rounding rounding) 2 (map_refusal m room)

-- the length reported: that of the list, and 0 after a "no"
unfoldable pub list_answer : ℕ → List ℕ → ℕ → ℕ
list_answer rounding m room = cond (eqb (list_refusal rounding m room) 0) (list_length m) 0

-- the lent buffer after the call: the list at its front and the caller's bytes behind it; after a "no" what it held
unfoldable pub buffer_after : Rule → ℕ → List ℕ → List ℕ → List ℕ
buffer_after rule rounding m out =
    cond (eqb (list_refusal rounding m (length out)) 0) (splice 0 (list_bytes rule (mode_of rounding) m) out) out
