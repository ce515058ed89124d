-- Flags are sticky: a flag that stands stays until the status is cleared. Assumes nothing.
use mathlib.Core.Path.{◌≡◌}
use Prim.Native.Nat.{ℕ, ◌%◌, ◌≤◌}
use native.Mathlib.Nat.{le-max_right, zero-div}
use Rattle.numbers.proofs.Bits.{bit, bit-or, or-keeps}
use Rattle.plate.specs.declared.Status.{Status}
use Rattle.plate.specs.Status.{raised, cleared}

-- raising flags loses none that stood,
pub raise-keeps : (k : ℕ) (s : Status) (flags : ℕ) → bit k (s.flags % 32) ≤ bit k (raised s flags).flags
raise-keeps k s flags = or-keeps k (s.flags % 32) (flags % 32)

-- and each flag raised stands
pub raise-raises : (k : ℕ) (s : Status) (flags : ℕ) → bit k (flags % 32) ≤ bit k (raised s flags).flags
raise-raises k s flags = rw (bit-or k (s.flags % 32) (flags % 32)) (le-max_right (bit k (s.flags % 32)) (bit k (flags % 32)))

-- a cleared status has no flag
pub clear-clears : (k : ℕ) → bit k cleared.flags ≡ 0
clear-clears k = rw zero-div
