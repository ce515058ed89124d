-- The kinds of trailers, those of `trailer::Kind`: letters, length, width of the radius, and whether a rounding stands last. Assumes nothing.
use Rattle.std.specs.Prelude.{ℕ, ◌+◌, ◌≤◌, ◌≡◌, Bool, true, false, List, [], ◌∷◌}
use Rattle.kinds.specs.declared.Refusal.{Refusal}
use Rattle.kinds.specs.declared.Refusal.TheVariants.{MapLetters, ListLetters}
use Rattle.trailer.specs.declared.Kind.{Kind}
use Rattle.trailer.specs.declared.Kind.TheVariants.{Plt1, Cut1, Cut2}
use Rattle.trailer.specs.declared.Layout.{Layout}

-- what each kind fixes: the letters PLT1 for a map, CUT1 for a list of document 01, CUT2 for one that says its rounding
abbrev pub layout_of : Kind → Layout
layout_of Plt1 = record { letters = 80 ∷ 76 ∷ 84 ∷ 49 ∷ []; length = 16; wide = false; rounded = false }
layout_of Cut1 = record { letters = 67 ∷ 85 ∷ 84 ∷ 49 ∷ []; length = 16; wide = false; rounded = false }
layout_of Cut2 = record { letters = 67 ∷ 85 ∷ 84 ∷ 50 ∷ []; length = 18; wide = false; rounded = true }

-- new lists end in this kind
abbrev pub new_list : Kind
new_list = Cut2

abbrev pub letters_of : Kind → List ℕ
letters_of k = (layout_of k).letters

-- why bytes that end in other letters are refused
abbrev pub letters_refusal : Kind → Refusal
letters_refusal Plt1 = MapLetters
letters_refusal Cut1 = ListLetters
letters_refusal Cut2 = ListLetters

-- how many bytes a trailer has
abbrev pub length_of : Kind → ℕ
length_of k = (layout_of k).length

-- whether its radius has 32 bits, or 16
abbrev pub is_wide : Kind → Bool
is_wide k = (layout_of k).wide

-- whether a rounding of 16 bits stands last
abbrev pub is_rounded : Kind → Bool
is_rounded k = (layout_of k).rounded

-- how many bytes the radius and the rounding have
abbrev pub radius_size : Bool → ℕ
radius_size true = 4
radius_size false = 2

abbrev pub rounding_size : Bool → ℕ
rounding_size true = 2
rounding_size false = 0

-- a kind's layout, with what its length is
pub record LayoutIs (k : Kind) (y : Layout) : Type 0 where
  pub is : y ≡ layout_of k
  pub long : y.length ≡ length_of k
  pub parts : length_of k ≡ 14 + (radius_size y.wide + rounding_size y.rounded)
  pub least : 16 ≤ length_of k
  pub most : length_of k ≤ 20
