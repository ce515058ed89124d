-- A write that was interrupted wrote nothing. Assumes nothing.
use Rattle.std.specs.Io.KnownBytes.{Keeps}
use Rattle.platelist.proofs.write_again.Given as goal

abbrev pub invariant-loop : goal.invariant-loop
invariant-loop g l = Keeps (g.W.Write.contents l.initial.out) (g.W.Write.contents l.out)
