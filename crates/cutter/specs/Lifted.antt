-- What the lifted z is, said in statements: it meets the rule for each height, and no smaller number does. Assumes nothing.
use Rattle.std.specs.Prelude.{ℕ, ◌+◌, ◌*◌, ◌-◌, ◌≤◌, ◌<◌, List, [], ◌∷◌, ◌≤ℤ◌, ℤ, nat_abs, ◌-ℤ◌}
use Rattle.cutter.specs.Lift.{Contact}

-- column a and row b are those of the point at column c and row q, or one away
pub record Near (c q a b : ℕ) : Type 0 where
  pub right : a ≤ c + 1
  pub left : c ≤ a + 1
  pub below : b ≤ q + 1
  pub above : q ≤ b + 1

-- z is at least the height plus √s
pub record Clears (s : ℕ) (height z : ℤ) : Type 0 where
  pub above : height ≤ℤ z
  pub far : s ≤ nat_abs (z -ℤ height) * nat_abs (z -ℤ height)

-- where ρ is below the radius, z is at least the height plus √(radius² − ρ²)
abbrev pub Meets : ℕ → ℤ → Contact → Type 0
Meets radius z k = k.apart < radius * radius → Clears (radius * radius - k.apart) k.height z

-- what holds of each of these
abbrev pub Each : (Contact → Type 0) → List Contact → Type 0
Each P [] = Unit {0}
Each P (k ∷ ks) = P k × Each P ks

-- it is so for all of these
abbrev pub MeetsAll : ℕ → ℤ → List Contact → Type 0
MeetsAll radius z ks = Each (Meets radius z) ks

-- z is not below z₀ and meets all of these, and no smaller number is and does
pub record LiftedTo (radius : ℕ) (ks : List Contact) (z₀ z : ℤ) : Type 0 where
  pub above : z₀ ≤ℤ z
  pub meets : MeetsAll radius z ks
  pub least : (x : ℤ) → z₀ ≤ℤ x → MeetsAll radius x ks → z ≤ℤ x
