-- What the binary32 call gives back. Assumes nothing.
use Rattle.std.specs.Prelude.{ℕ}
use Rattle.ieee.specs.Call.{binary32_asked}
use Rattle.plate.specs.declared.Status.{Status}
use Rattle.plate.specs.declared.Reply.{Reply}
use Rattle.plate.specs.Rounded.{replied}

-- questions 1 and 2, and then the answer, whose flags are raised in the status
abbrev pub binary32_call : ℕ → ℕ → ℕ → Status → Reply ℕ
binary32_call operation rounding b status = replied status (binary32_asked operation rounding b)
