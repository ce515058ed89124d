-- What the code tells of a trailer that it reads. Assumes nothing.
use Rattle.std.specs.Prelude.{ℕ, ◌<◌, ◌≡◌, Bool, List}
use Rattle.trailer.specs.Bytes.{radius_at, rounding_at, fields_at, last_fields, radius_end, rounding_end, InRange}
use Rattle.trailer.specs.declared.Kind.{Kind}
use Rattle.trailer.specs.declared.Fields.{Fields}

pub record RadiusRead (wide : Bool) (m : List ℕ) (at r : ℕ) : Type 0 where
  pub is : r ≡ radius_at wide m at
  pub small : r < radius_end wide

pub record RoundingRead (rounded : Bool) (m : List ℕ) (at r : ℕ) : Type 0 where
  pub is : r ≡ rounding_at rounded m at
  pub small : r < rounding_end rounded

-- the fields at a place, each within its bytes
pub record TrailerRead (k : Kind) (m : List ℕ) (at : ℕ) (f : Fields) : Type 0 where
  pub is : f ≡ fields_at k m at
  pub range : InRange k f

-- those at the end
pub record LastRead (k : Kind) (m : List ℕ) (f : Fields) : Type 0 where
  pub is : f ≡ last_fields k m
  pub range : InRange k f
