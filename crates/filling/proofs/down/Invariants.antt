-- `filling::down` meets its contract. Assumes nothing.
use Rattle.std.proofs.Common.{◌^◌, ◌≤◌}
use Rattle.filling.proofs.down.Given as goal

abbrev pub invariant-loop-m : goal.invariant-loop-m
invariant-loop-m l = l.w ≤ 2 ^ 61

abbrev pub decreases-loop-m : goal.decreases-loop-m
decreases-loop-m l = l.w
