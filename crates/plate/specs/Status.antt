-- The status: one bit a flag, with document 01's numbers. Assumes nothing.
use Rattle.std.specs.Prelude.{ℕ, ◌%◌}
use Rattle.std.specs.Int.Bits.{bit_or}
use Rattle.plate.specs.declared.Status.{Status}

-- the status with a flag, or several, joined to its own; bits that are no flag's are left out
abbrev pub raised : Status → ℕ → Status
raised s flags = record { flags = bit_or (s.flags % 32) (flags % 32) }

-- no flag
abbrev pub cleared : Status
cleared = record { flags = 0 }
