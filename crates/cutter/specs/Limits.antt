-- The limits of the numbers of a map and of a list; lengths are micrometres. Assumes nothing.
use Rattle.std.specs.Prelude.{ℕ, ◌*◌}

-- a map or a list has 16 bytes or more
abbrev pub bytes_least : ℕ
bytes_least = 16

-- w and d are each 3 to 64
abbrev pub side_least : ℕ
side_least = 3

abbrev pub side_most : ℕ
side_most = 64

-- the step is 1 to 10,000
abbrev pub step_most : ℕ
step_most = 10000

-- the radius is 1 to 12,500
abbrev pub radius_most : ℕ
radius_most = 12500

-- a height is from −50,000 to 50,000
abbrev pub height_most : ℕ
height_most = 50000

-- so that two heights differ by 100,000 at most
abbrev pub difference_most : ℕ
difference_most = 2 * height_most
