-- The pattern below an exact result. Assumes nothing.
use Rattle.std.specs.Prelude.{Bool, ◌||◌, ℕ, ◌-◌, min}
use Rattle.kinds.specs.declared.Op.{Op}
use Rattle.ieee.specs.Format.{Format, infinity, magnitude_of}
use Rattle.ieee.specs.Guarded.{floor_pattern, guard_bit, sticky_bit, is_beyond, Below}
use Rattle.neighbour.specs.declared.Neighbour.{Neighbour}

-- from the floor q with a guard bit at the scale k
unfoldable pub neighbour_of : Format → ℕ → Bool → ℕ → Neighbour
neighbour_of f q more k =
    record {
      pattern = min (floor_pattern f k q) (infinity f - 1);
      half = guard_bit k q || is_beyond f k q;
      more = sticky_bit k q more || is_beyond f k q;
      beyond = is_beyond f k q;
    }

-- the neighbour is the one below the exact result of the operand whose pattern without sign is t
abbrev pub BelowResult : Format → Op → ℕ → Neighbour → Type 0
BelowResult f op t n = Below f op (magnitude_of f t) n.pattern n.half n.more n.beyond
