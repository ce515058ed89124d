-- Rows of binary64 and of the raw unit at k = 15, as statements about the calls. Assumes nothing.
use Rattle.std.specs.Prelude.{◌≡◌, List, ℕ, ◌%◌, Ok}
use Rattle.std.specs.Int.Bits.{bit_or}
use Rattle.significand.specs.Width.{k64, t64}
use Rattle.significand.specs.Call.{raw64_refusal}
use Rattle.significand.specs.Rows.{Worked}
use Rattle.ieee.specs.Rows64.{Row, rows64, Every}
use Rattle.binary64.specs.Call.{binary64_refusal}
use Rattle.plate.specs.declared.Status.{Status}
use Rattle.plate.specs.Raw64.{raw64_call}
use Rattle.plate.specs.Binary64.{binary64_call}

-- an accepted raw call answers g, whatever slice it is lent
abbrev pub Raw64Gives : ℕ → ℕ → ℕ → ℕ → Type 0
Raw64Gives operation y p g = (tables : List ℕ) → raw64_refusal operation y p tables ≡ 0
    → raw64_call operation y p tables ≡ Ok g

-- an accepted binary64 call answers the bits and joins the flags to those that stood, whatever the status and the lent slice
abbrev pub Gives64 : ℕ → ℕ → ℕ → ℕ → ℕ → Type 0
Gives64 operation rounding operand bits flags = (s : Status) (tables : List ℕ) → binary64_refusal operation rounding operand tables ≡ 0
    → binary64_call operation rounding operand s tables ≡ record { status = record { flags = bit_or (s.flags % 32) flags }; answer = Ok bits }

-- in the four roundings
pub record RowGives (r : Row) : Type 0 where
  pub to-nearest : Gives64 r.operation 0 r.operand r.nearest r.flags
  pub to-up : Gives64 r.operation 1 r.operand r.up r.flags
  pub to-down : Gives64 r.operation 2 r.operand r.down r.flags
  pub to-zero : Gives64 r.operation 3 r.operand r.zero r.flags

-- the reciprocal of 1.5 with its steps, both roots of 2, and the rows on patterns
pub record Table64 : Type 0 where
  pub raw-1 : Raw64Gives 1 6755399441055744 0 768614336404564650
  pub raw-1-worked : Worked k64 t64 6755399441055744 43690 17592186044416 1152939097061330944 768614336404564650
  pub raw-2 : Raw64Gives 2 4503599627370496 1 1630477228166597777
  pub raw-3 : Raw64Gives 3 4503599627370496 1 815238614083298888
  pub rounded : Every RowGives rows64
