-- What is known of a map once its questions are answered "yes". Assumes nothing.
use Rattle.std.specs.Prelude.{ℕ, ◌+◌, ◌*◌, ◌≤◌, ◌<◌, ◌≡◌, List, length, nat_abs}
use Rattle.words.specs.Word.{word_at}
use Rattle.words.specs.Signed.{signed}
use Rattle.trailer.specs.Kinds.{length_of}
use Rattle.trailer.specs.Bytes.{last_fields}
use Rattle.trailer.specs.declared.Kind.{Kind}
use Rattle.trailer.specs.declared.Kind.TheVariants.{Plt1}
use Rattle.trailer.specs.declared.Fields.{Fields}
use Rattle.cutter.specs.Limits.{side_least, side_most, step_most, radius_most, height_most}
use Rattle.cutter.specs.Map.{trailer_of, width_of, depth_of}
use Rattle.cutter.specs.List.{list_length}

-- question 7
pub record Sizes (w d : ℕ) : Type 0 where
  pub wide : side_least ≤ w
  pub narrow : w ≤ side_most
  pub deep : side_least ≤ d
  pub shallow : d ≤ side_most

-- question 8
pub record Steps (step radius : ℕ) : Type 0 where
  pub step-least : 1 ≤ step
  pub step-most : step ≤ step_most
  pub radius-least : 1 ≤ radius
  pub radius-most : radius ≤ radius_most

-- those, of bytes that end in a trailer of a kind
pub record Trailed (k : Kind) (m : List ℕ) : Type 0 where
  pub fits : length_of k ≤ length m
  pub sizes : Sizes (last_fields k m).width (last_fields k m).depth
  pub steps : Steps (last_fields k m).step (last_fields k m).radius

-- the same of the trailer as it was read
pub record TrailerHeld (k : Kind) (m : List ℕ) (t : Fields) : Type 0 where
  pub is : t ≡ last_fields k m
  pub fits : length_of k ≤ length m
  pub sizes : Sizes t.width t.depth
  pub steps : Steps t.step t.radius

-- question 10, of a map that holds n heights
pub record Heights (m : List ℕ) (n : ℕ) : Type 0 where
  pub held : 4 * n ≤ length m
  pub small : (i : ℕ) → i < n → nat_abs (signed (word_at m (4 * i))) ≤ height_most

-- all of them, of a map and a buffer with so much room
pub record Accepted (m : List ℕ) (room : ℕ) : Type 0 where
  pub trailed : Trailed Plt1 m
  pub long : length m ≡ 4 * (width_of m * depth_of m) + length_of Plt1
  pub heights : Heights m (width_of m * depth_of m)
  pub held : list_length m ≤ room

-- those about the map, of its trailer as it was read
pub record Ready (m : List ℕ) (t : Fields) : Type 0 where
  pub is : t ≡ trailer_of m
  pub sizes : Sizes t.width t.depth
  pub steps : Steps t.step t.radius
  pub heights : Heights m (t.width * t.depth)
