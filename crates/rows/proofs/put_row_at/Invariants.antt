-- `rows::put_row_at` meets its contract: after n turns the row's first n records are put. Assumes nothing.
use Rattle.std.proofs.Common.{◌≡◌, ◌-◌, ◌*◌}
use Rattle.kinds.specs.declared.Rule.TheVariants.{Touching}
use Rattle.words.specs.Splice.{splice}
use Rattle.words.specs.Joined.{joined}
use Rattle.rows.specs.Row.{row_record}
use Rattle.rows.proofs.put_row_at.Given as goal

abbrev pub invariant-loop-n : goal.invariant-loop-n
invariant-loop-n l =
    l.out ≡ splice (l.row.row * (12 * (l.row.map.trailer.width - 2))) (joined (row_record Touching l.mode l.row.map.bytes.now (l.row.map.trailer.width - 2) l.row.row) l.n) l.fn.out
