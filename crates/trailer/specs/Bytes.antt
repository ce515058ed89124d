-- A trailer of each kind: its fields by their places from its first byte, and its bytes. Assumes nothing.
use Rattle.std.specs.Prelude.{ℕ, ◌+◌, ◌-◌, ◌<◌, Bool, true, false, cond, ◌&&◌, List, [], ◌++◌, leb, length}
use Rattle.words.specs.Word.{half_at, word_at, half_bytes, word_bytes, reads_at}
use Rattle.trailer.specs.Kinds.{letters_of, length_of, is_wide, is_rounded, radius_size}
use Rattle.trailer.specs.declared.Kind.{Kind}
use Rattle.trailer.specs.declared.Kind.TheVariants.{Cut1, Cut2}
use Rattle.trailer.specs.declared.Fields.{Fields}

-- a radius of 32 bits, or of 16
abbrev pub radius_at : Bool → List ℕ → ℕ → ℕ
radius_at true m at = word_at m at
radius_at false m at = half_at m at

-- a rounding of 16 bits, or 0 where there is none
abbrev pub rounding_at : Bool → List ℕ → ℕ → ℕ
rounding_at true m at = half_at m at
rounding_at false m at = 0

-- the fields of the trailer whose first byte stands at `at`: letters, distance, width, depth, step, radius, rounding
unfoldable pub fields_at : Kind → List ℕ → ℕ → Fields
fields_at k m at =
    record {
      distance = word_at m (at + 4);
      width = half_at m (at + 8);
      depth = half_at m (at + 10);
      step = half_at m (at + 12);
      radius = radius_at (is_wide k) m (at + 14);
      rounding = rounding_at (is_rounded k) m (at + (14 + radius_size (is_wide k)));
    }

-- the fields of the trailer that the bytes end in
unfoldable pub last_fields : Kind → List ℕ → Fields
last_fields k m = fields_at k m (length m - length_of k)

-- whether the letters of a kind stand as far from the end as its trailer is long; not where the bytes are fewer
unfoldable pub ends_in : Kind → List ℕ → Bool
ends_in k m = leb (length_of k) (length m) && reads_at m (length m - length_of k) (letters_of k)

-- the kind of a list: CUT1 is sought first, then CUT2, and the first found decides; where neither is found it is the last sought, whose
-- letters do not stand there
unfoldable pub list_kind : List ℕ → Kind
list_kind m = cond (ends_in Cut1 m) Cut1 Cut2

abbrev pub radius_bytes : Bool → ℕ → List ℕ
radius_bytes true x = word_bytes x
radius_bytes false x = half_bytes x

abbrev pub rounding_bytes : Bool → ℕ → List ℕ
rounding_bytes true x = half_bytes x
rounding_bytes false x = []

-- the first 14 bytes, alike in every kind but for the letters
unfoldable pub front_bytes : List ℕ → Fields → List ℕ
front_bytes letters f =
    letters ++ word_bytes f.distance ++ half_bytes f.width ++ half_bytes f.depth ++ half_bytes f.step

-- the trailer of a kind with these fields
unfoldable pub trailer_bytes : Kind → Fields → List ℕ
trailer_bytes k f =
    front_bytes (letters_of k) f ++ radius_bytes (is_wide k) f.radius ++ rounding_bytes (is_rounded k) f.rounding

-- one more than the largest number that the radius and the rounding hold
abbrev pub radius_end : Bool → ℕ
radius_end true = 4294967296
radius_end false = 65536

abbrev pub rounding_end : Bool → ℕ
rounding_end true = 65536
rounding_end false = 1

-- each field is a number that its bytes hold
pub record InRange (k : Kind) (f : Fields) : Type 0 where
  pub distance : f.distance < 4294967296
  pub width : f.width < 65536
  pub depth : f.depth < 65536
  pub step : f.step < 65536
  pub radius : f.radius < radius_end (is_wide k)
  pub rounding : f.rounding < rounding_end (is_rounded k)
