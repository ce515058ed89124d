-- The numbers so far, with a blank behind each. Assumes nothing.
use Rattle.std.proofs.Common.{◌≡◌, ◌*◌, ◌≤◌, length, take}
use Rattle.printing.proofs.Lines.{blanks}
use Rattle.printing.proofs.line.Given as goal

abbrev pub invariant-loop-x : goal.invariant-loop-x
invariant-loop-x l = (l.text.bytes ≡ blanks (take l.x-index l.others)) × (length l.text.bytes ≤ 12 * l.x-index)
