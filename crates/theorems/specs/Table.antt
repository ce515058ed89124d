-- Document 01's table for proof, as statements about the calls. Assumes nothing.
use Rattle.std.specs.Prelude.{◌≡◌, ℕ, ◌+◌, ◌%◌, ◌≤◌, Ok}
use Rattle.std.specs.Int.Bits.{bit_or}
use Rattle.kinds.specs.Flag.{no_flag, overflow, inexact}
use Rattle.significand.specs.Width.{k32, t32}
use Rattle.significand.specs.Rows.{Worked}
use Rattle.cutter.specs.Rows.{OffsetRow}
use Rattle.plate.specs.declared.Status.{Status}
use Rattle.plate.specs.Raw.{raw_call}
use Rattle.plate.specs.Binary32.{binary32_call}

-- the raw call is accepted and answers g
abbrev pub RawGives : ℕ → ℕ → ℕ → ℕ → Type 0
RawGives operation y p g = raw_call operation y p ≡ Ok g

-- the binary32 call is accepted, answers the bits, and joins the flags to those that stood, whatever the status
abbrev pub Gives : ℕ → ℕ → ℕ → ℕ → ℕ → Type 0
Gives operation rounding operand bits flags =
    (s : Status) → binary32_call operation rounding operand s ≡ record { status = record { flags = bit_or (s.flags % 32) flags }; answer = Ok bits }

-- the rows marked P
pub record Table : Type 0 where
  pub raw-1 : RawGives 1 8388608 0 268435456
  pub raw-2 : RawGives 1 12582912 0 178956970
  pub raw-2-worked : Worked k32 t32 12582912 170 1048576 269488144 178956970
  pub raw-3 : RawGives 1 16777215 0 134217736
  pub raw-4 : RawGives 2 8388608 1 379625062
  pub raw-5 : RawGives 3 8388608 1 189812531
  pub third-down : Gives 1 2 0x40400000 0x3EAAAAAA inexact
  pub third-up : Gives 1 1 0x40400000 0x3EAAAAAB inexact
  pub minus-third-down : Gives 1 2 0xC0400000 0xBEAAAAAB inexact
  pub minus-third-up : Gives 1 1 0xC0400000 0xBEAAAAAA inexact
  pub root-of-two-down : Gives 2 2 0x40000000 0x3FB504F3 inexact
  pub root-of-two-up : Gives 2 1 0x40000000 0x3FB504F4 inexact
  pub inverse-root-of-four : (rounding : ℕ) → rounding ≤ 3 → Gives 3 rounding 0x40800000 0x3F000000 no_flag
  pub overflow-down : Gives 1 2 0x00200000 0x7F7FFFFF (overflow + inexact)
  pub overflow-up : Gives 1 1 0x00200000 0x7F800000 (overflow + inexact)
  pub offset : OffsetRow
  pub subnormal : (rounding : ℕ) → rounding ≤ 3 → Gives 1 rounding 0x7F000000 0x00400000 no_flag
