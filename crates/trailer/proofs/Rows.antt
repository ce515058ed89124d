-- A worked trailer of each kind, byte for byte. Assumes nothing.
use mathlib.Core.Path.{◌≡◌, refl}
use mathlib.Core.List.{List, [], ◌∷◌}
use Prim.Native.Nat.{ℕ}
use Rattle.words.specs.Word.{half_bytes, word_bytes}
use Rattle.trailer.specs.Bytes.{fields_at, front_bytes, trailer_bytes}
use Rattle.trailer.specs.declared.Fields.{Fields}
use Rattle.trailer.specs.declared.Kind.{Kind}
use Rattle.trailer.specs.declared.Kind.TheVariants.{Plt1, Cut1, Cut2}

-- the bytes are written for the fields, and the fields are read from the bytes
abbrev Worked : Kind → Fields → List ℕ → Type 0
Worked k f b = (trailer_bytes k f ≡ b) × (fields_at k b 0 ≡ f)

-- a 3 × 4 map or its list, with step 2,000 and radius 5,000
abbrev sized : ℕ → ℕ → Fields
sized distance rounding = record { distance = distance; width = 3; depth = 4; step = 2000; radius = 5000; rounding = rounding }

pub map : Worked Plt1 (sized 48 0) (80 ∷ 76 ∷ 84 ∷ 49 ∷ 48 ∷ 0 ∷ 0 ∷ 0 ∷ 3 ∷ 0 ∷ 4 ∷ 0 ∷ 208 ∷ 7 ∷ 136 ∷ 19 ∷ [])
unfolding trailer_bytes front_bytes word_bytes half_bytes fields_at
map = (refl, refl)

-- a list of document 01
pub cut1-list : Worked Cut1 (sized 24 0) (67 ∷ 85 ∷ 84 ∷ 49 ∷ 24 ∷ 0 ∷ 0 ∷ 0 ∷ 3 ∷ 0 ∷ 4 ∷ 0 ∷ 208 ∷ 7 ∷ 136 ∷ 19 ∷ [])
unfolding trailer_bytes front_bytes word_bytes half_bytes fields_at
cut1-list = (refl, refl)

-- a list as it is written now, rounded down
pub cut2-list : Worked Cut2 (sized 24 2) (67 ∷ 85 ∷ 84 ∷ 50 ∷ 24 ∷ 0 ∷ 0 ∷ 0 ∷ 3 ∷ 0 ∷ 4 ∷ 0 ∷ 208 ∷ 7 ∷ 136 ∷ 19 ∷ 2 ∷ 0 ∷ [])
unfolding trailer_bytes front_bytes word_bytes half_bytes fields_at
cut2-list = (refl, refl)
