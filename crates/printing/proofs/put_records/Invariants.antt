-- After n turns the lines of the first n records are put. Assumes nothing.
use Rattle.std.proofs.Common.{◌*◌}
use Rattle.words.specs.Joined.{joined}
use Rattle.decimal.specs.Put.{PutAt}
use Rattle.printing.specs.Entries.{entry_line}
use Rattle.printing.proofs.put_records.Given as goal

abbrev pub invariant-loop-n : goal.invariant-loop-n
invariant-loop-n l = PutAt l.start (60 * l.n) (joined (entry_line l.list l.columns) l.n) l.initial.out l.at l.out
