-- Down and up for an offset, a centre and a list: where the lower and the upper agree, and how far apart they are. Assumes nothing.
use Rattle.std.specs.Prelude.{ℕ, ◌*◌, ◌<◌, ◌≡◌, ◌↔◌, ◌⊎◌, List, [], ◌∷◌, ◌++◌, length, take, drop, ℤ, pos, nat_abs, ◌+ℤ◌}
use Rattle.kinds.specs.declared.Mode.TheVariants.{Up, Down}
use Rattle.kinds.specs.declared.Rule.TheVariants.{Touching}
use Rattle.cutter.specs.Offset.{offset_of, MultipleOf}
use Rattle.cutter.specs.Map.{width_of, depth_of}
use Rattle.cutter.specs.Centre.{Point, coordinate, centre_of}
use Rattle.cutter.specs.List.{count_of, list_length, entry_at}
use Rattle.cutter.specs.Call.{buffer_after}
use Rattle.cutter.specs.Agree.{ExactAt, ExactMap}

-- q is a perfect square whose root divides n
pub record DividedBy (q n : ℕ) : Type 0 where
  pub root : ℕ
  pub square : root * root ≡ q
  pub multiple : MultipleOf root n

-- n over √q is a whole number: n is 0, or q is a perfect square whose root divides n
abbrev pub WholeOver : ℕ → ℕ → Type 0
WholeOver q n = (n ≡ 0) ⊎ DividedBy q n

-- One offset: the lower and the upper are equal exactly where component × radius over √q is whole; otherwise the upper is larger by 1
pub record OffsetBracket (component : ℤ) (radius q : ℕ) : Type 0 where
  pub equal : (offset_of Down component radius q ≡ offset_of Up component radius q) ↔ WholeOver q (nat_abs component * radius)
  pub next :
      (offset_of Down component radius q ≡ offset_of Up component radius q → ⊥)
      → offset_of Up component radius q ≡ offset_of Down component radius q +ℤ pos 1

-- One centre: the lower and the upper are equal exactly where the point is exact; a coordinate that differs is larger by 1 in the upper
pub record CentreBracket (step radius : ℕ) (p : Point) : Type 0 where
  pub equal : (centre_of Down step radius p ≡ centre_of Up step radius p) ↔ ExactAt step radius p
  pub next : (j : ℕ)
      → (coordinate (centre_of Down step radius p) j ≡ coordinate (centre_of Up step radius p) j → ⊥)
      → coordinate (centre_of Up step radius p) j ≡ coordinate (centre_of Down step radius p) j +ℤ pos 1

-- Behind n bytes two lists end alike but for the last two: the rounding, 2 in the lower list and 1 in the upper
pub record EndsAlike (n : ℕ) (lower upper : List ℕ) : Type 0 where
  pub alike : List ℕ
  pub long : length alike ≡ 16
  pub lower-end : drop n lower ≡ alike ++ 2 ∷ 0 ∷ []
  pub upper-end : drop n upper ≡ alike ++ 1 ∷ 0 ∷ []

-- Two lists of one map, rounded down (2) over a lent buffer a and up (1) over b: their records are equal byte for byte exactly where the
-- map is exact at every inner point; of two entries that differ, the upper is larger by one micrometre; behind the records, over the
-- length reported, they end alike but for the rounding
pub record ListBracket (m a b : List ℕ) : Type 0 where
  pub equal :
      (take (12 * count_of (width_of m) (depth_of m)) (buffer_after Touching 2 m a) ≡ take (12 * count_of (width_of m) (depth_of m)) (buffer_after Touching 1 m b))
      ↔ ExactMap m
  pub next : (n j : ℕ) → n < count_of (width_of m) (depth_of m) → j < 3
      → (entry_at (buffer_after Touching 2 m a) n j ≡ entry_at (buffer_after Touching 1 m b) n j → ⊥)
      → entry_at (buffer_after Touching 1 m b) n j ≡ entry_at (buffer_after Touching 2 m a) n j +ℤ pos 1
  pub ends :
      EndsAlike (12 * count_of (width_of m) (depth_of m)) (take (list_length m) (buffer_after Touching 2 m a)) (take (list_length m) (buffer_after Touching 1 m b))
