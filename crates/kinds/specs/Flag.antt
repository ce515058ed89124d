-- The flags of the status byte, one bit each. Assumes nothing.
use Rattle.std.specs.Prelude.{ℕ}

abbrev pub no_flag : ℕ
no_flag = 0

abbrev pub invalid : ℕ
invalid = 1

abbrev pub division_by_zero : ℕ
division_by_zero = 2

abbrev pub overflow : ℕ
overflow = 4

abbrev pub underflow : ℕ
underflow = 8

abbrev pub inexact : ℕ
inexact = 16
