-- `filling::up` meets its contract. Assumes nothing.
use Rattle.std.proofs.Common.{◌-◌, ◌^◌, ◌≤◌}
use Rattle.significand.specs.Width.{k64}
use Rattle.significand.specs.Steps.{multiplier_of}
use Rattle.filling.proofs.up.Given as goal

abbrev pub invariant-loop-m : goal.invariant-loop-m
invariant-loop-m l = (l.w ≤ multiplier_of k64 l.m.op l.m.factor l.m.parity) × (multiplier_of k64 l.m.op l.m.factor l.m.parity ≤ 2 ^ 61)

abbrev pub decreases-loop-m : goal.decreases-loop-m
decreases-loop-m l = 2 ^ 62 - l.w
