-- How many inner points an accepted map has at most. Assumes nothing.
use Prim.Native.Nat.{ℕ, ◌-◌, ◌≤◌}
use native.Mathlib.Nat.{mul-le-mul}
use native.Mathlib.Omega.{arith}
use Rattle.cutter.specs.List.{count_of}
use Rattle.cutter.specs.Accepted.{Sizes}

pub count_most : (w d : ℕ) → Sizes w d → count_of w d ≤ 3844
count_most w d s =
    let p : w - 2 ≤ 62 = omega (arith, s.narrow) in
    let q : d - 2 ≤ 62 = omega (arith, s.shallow) in
    mul-le-mul p q
