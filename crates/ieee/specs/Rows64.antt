-- Rows of binary64: an operation on an operand, and its answers in the four roundings, all with the same flags. Assumes nothing.
use Rattle.std.specs.Prelude.{◌≡◌, List, [], ◌∷◌, ℕ, ◌+◌}
use Rattle.kinds.specs.declared.Mode.TheVariants.{Nearest, Up, Down, TowardZero}
use Rattle.kinds.specs.Operation.{op_of}
use Rattle.kinds.specs.Flag.{no_flag, invalid, division_by_zero, overflow, underflow, inexact}
use Rattle.ieee.specs.Format.{binary64}
use Rattle.ieee.specs.Answer.{answer, answer_of}

pub record Row : Type 0 where
  pub operation : ℕ
  pub operand : ℕ
  pub nearest : ℕ
  pub up : ℕ
  pub down : ℕ
  pub zero : ℕ
  pub flags : ℕ

abbrev pub row : ℕ → ℕ → ℕ → ℕ → ℕ → ℕ → ℕ → Row
row operation operand nearest up down toward flags =
    record { operation = operation; operand = operand; nearest = nearest; up = up; down = down; zero = toward; flags = flags }

abbrev pub rows64 : List Row
rows64 =
    row 1 0x4008000000000000 0x3FD5555555555555 0x3FD5555555555556 0x3FD5555555555555 0x3FD5555555555555 inexact
    ∷ row 1 0xC008000000000000 0xBFD5555555555555 0xBFD5555555555555 0xBFD5555555555556 0xBFD5555555555555 inexact
    ∷ row 2 0x4000000000000000 0x3FF6A09E667F3BCD 0x3FF6A09E667F3BCD 0x3FF6A09E667F3BCC 0x3FF6A09E667F3BCC inexact
    ∷ row 3 0x4010000000000000 0x3FE0000000000000 0x3FE0000000000000 0x3FE0000000000000 0x3FE0000000000000 no_flag
    ∷ row 3 0x3FF0000000000001 0x3FEFFFFFFFFFFFFF 0x3FF0000000000000 0x3FEFFFFFFFFFFFFF 0x3FEFFFFFFFFFFFFF inexact
    ∷ row 1 0x0004000000000000 0x7FF0000000000000 0x7FF0000000000000 0x7FEFFFFFFFFFFFFF 0x7FEFFFFFFFFFFFFF (overflow + inexact)
    ∷ row 1 0x0004000000000001 0x7FEFFFFFFFFFFFF8 0x7FEFFFFFFFFFFFF9 0x7FEFFFFFFFFFFFF8 0x7FEFFFFFFFFFFFF8 inexact
    ∷ row 1 0x0008000000000000 0x7FE0000000000000 0x7FE0000000000000 0x7FE0000000000000 0x7FE0000000000000 no_flag
    ∷ row 1 0x7FE0000000000000 0x0008000000000000 0x0008000000000000 0x0008000000000000 0x0008000000000000 no_flag
    ∷ row 1 0x7FD0000000000001 0x000FFFFFFFFFFFFF 0x0010000000000000 0x000FFFFFFFFFFFFF 0x000FFFFFFFFFFFFF (underflow + inexact)
    ∷ row 1 0xFFE0000000000001 0x8008000000000000 0x8007FFFFFFFFFFFF 0x8008000000000000 0x8007FFFFFFFFFFFF (underflow + inexact)
    ∷ row 2 0x0000000000000001 0x1E60000000000000 0x1E60000000000000 0x1E60000000000000 0x1E60000000000000 no_flag
    ∷ row 3 0x0000000000000001 0x6180000000000000 0x6180000000000000 0x6180000000000000 0x6180000000000000 no_flag
    ∷ row 1 0x7FD0000000000000 0x0010000000000000 0x0010000000000000 0x0010000000000000 0x0010000000000000 no_flag
    ∷ row 3 0x8000000000000000 0xFFF0000000000000 0xFFF0000000000000 0xFFF0000000000000 0xFFF0000000000000 division_by_zero
    ∷ row 2 0xBFF0000000000000 0x7FF8000000000000 0x7FF8000000000000 0x7FF8000000000000 0x7FF8000000000000 invalid
    ∷ row 1 0xFFF0000000000001 0x7FF8000000000000 0x7FF8000000000000 0x7FF8000000000000 0x7FF8000000000000 invalid
    ∷ row 3 0xFFFFFFFFFFFFFFFF 0x7FF8000000000000 0x7FF8000000000000 0x7FF8000000000000 0x7FF8000000000000 no_flag
    ∷ []

-- each row of a list has a property
abbrev pub Every : (Row → Type 0) → List Row → Type 0
Every P [] = Unit
Every P (r ∷ rs) = P r × Every P rs

-- the answers are the row's
pub record Answers (r : Row) : Type 0 where
  pub to-nearest : answer_of binary64 (op_of r.operation) Nearest r.operand ≡ answer r.nearest r.flags
  pub to-up : answer_of binary64 (op_of r.operation) Up r.operand ≡ answer r.up r.flags
  pub to-down : answer_of binary64 (op_of r.operation) Down r.operand ≡ answer r.down r.flags
  pub to-zero : answer_of binary64 (op_of r.operation) TowardZero r.operand ≡ answer r.zero r.flags
