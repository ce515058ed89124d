-- A cutter's centre, lifted until the ball keeps off the nine heights round its point. Assumes nothing.
use Rattle.std.specs.Prelude.{ℕ, ◌+◌, ◌-◌, ◌*◌, Bool, true, ◌&&◌, ◌||◌, List, [], ◌∷◌, ◌++◌, leb, ℤ, pos, nat_abs, ◌+ℤ◌, ◌-ℤ◌}
use Rattle.std.specs.Int.Signed.{le_z}
use Rattle.numbers.specs.Least.{least}
use Rattle.cutter.specs.Map.{height_at}
use Rattle.cutter.specs.Centre.{Centre}

-- a height near the ball, and the square of ρ, the level distance from the ball's centre to the height's place
pub record Contact : Type 0 where
  pub height : ℤ
  pub apart : ℕ

-- is z at least the height plus √s?
unfoldable pub clears : ℕ → ℤ → ℤ → Bool
clears s height z = le_z height z && leb s (nat_abs (z -ℤ height) * nat_abs (z -ℤ height))

-- where ρ is below the radius: is z at least the height plus √(radius² − ρ²)?
unfoldable pub meets : ℕ → Contact → ℤ → Bool
meets radius k z = leb (radius * radius) k.apart || clears (radius * radius - k.apart) k.height z

-- is it so for all of these?
unfoldable pub meets_all : ℕ → List Contact → ℤ → Bool
meets_all radius [] z = true
meets_all radius (k ∷ ks) z = meets radius k z && meets_all radius ks z

-- the least whole number that meets all of these and is not below z
unfoldable pub lifted_over : ℕ → List Contact → ℤ → ℤ
lifted_over radius ks z = z +ℤ pos (least 40 (λ (n : ℕ). meets_all radius ks (z +ℤ pos n)))

-- the height at column c and row q of a map that is w wide, as a centre has it
unfoldable pub contact_at : List ℕ → ℕ → ℕ → Centre → ℕ → ℕ → Contact
contact_at m w step k c q =
    let x = nat_abs (k.x -ℤ pos (c * step)) in
    let y = nat_abs (k.y -ℤ pos (q * step)) in
    record { height = height_at m w c q; apart = x * x + y * y }

-- three of a row, round column c
unfoldable pub three_at : List ℕ → ℕ → ℕ → Centre → ℕ → ℕ → List Contact
three_at m w step k c q = contact_at m w step k (c - 1) q ∷ contact_at m w step k c q ∷ contact_at m w step k (c + 1) q ∷ []

-- the nine round the point at column c and row q, its own height among them
unfoldable pub nine_at : List ℕ → ℕ → ℕ → Centre → ℕ → ℕ → List Contact
nine_at m w step k c q = three_at m w step k c (q - 1) ++ three_at m w step k c q ++ three_at m w step k c (q + 1)

-- the centre of that point, lifted: x and y stay
unfoldable pub lifted : List ℕ → ℕ → ℕ → ℕ → ℕ → ℕ → Centre → Centre
lifted m w step radius c q k = record { x = k.x; y = k.y; z = lifted_over radius (nine_at m w step k c q) k.z }
