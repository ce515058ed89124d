-- `rows::lift_row` meets its contract: after n turns the row's first n records are lifted, and the others still stand. Assumes nothing.
use Rattle.std.proofs.Common.{◌≡◌, ◌-◌, ◌*◌}
use Rattle.words.specs.Splice.{splice}
use Rattle.words.specs.Joined.{joined}
use Rattle.rows.specs.Row.{lifted_record}
use Rattle.rows.proofs.lift_row.Given as goal

abbrev pub invariant-loop-n : goal.invariant-loop-n
invariant-loop-n l =
    l.out ≡ splice (l.row.row * (12 * (l.row.map.trailer.width - 2))) (joined (lifted_record l.row.map.bytes.now l.row.map.trailer l.row.row l.fn.out) l.n) l.fn.out
