-- A reply as one number, for callers from C. Assumes nothing.
use Rattle.std.specs.Prelude.{ℕ, ◌+◌, ◌*◌, ◌^◌}

-- bits 0 to 31 the answer, bits 32 to 39 the status, from bit 40 on the number of the refusal
abbrev pub packed : ℕ → ℕ → ℕ → ℕ
packed refusal status answer = refusal * 2 ^ 40 + status * 2 ^ 32 + answer
