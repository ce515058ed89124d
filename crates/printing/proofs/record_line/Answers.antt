-- `printing::record_line` meets its contract: its numbers fit 32 bits. Assumes nothing.
use Rattle.std.proofs.Common.{◌∙◌, ◌+◌, ◌%◌, ◌/◌, arith, w32}
use Rattle.std.proofs.Math.Nat.{div-le_self}
use Rattle.std.proofs.lemmas.Int.{to_z_pos, to_z-of_z}
use Rattle.printing.specs.Entries.{entry_line}
use Rattle.printing.proofs.record_line.Goals as goal

pub returns : goal.returns
unfolding entry_line
returns c =
    let column = to_z_pos w32 (c.args.n % c.args.columns + 1) (omega arith) in
    let row = to_z_pos w32 (c.args.n / c.args.columns + 1) (omega (arith, div-le_self c.args.n c.args.columns)) in
    let x = to_z-of_z w32 c.entry-x.result (record { sfits = c.entry-x.type_inv }) ∙ c.entry-x.ensures in
    let y = to_z-of_z w32 c.entry-y.result (record { sfits = c.entry-y.type_inv }) ∙ c.entry-y.ensures in
    let z = to_z-of_z w32 c.entry-z.result (record { sfits = c.entry-z.type_inv }) ∙ c.entry-z.ensures in
    rw (column, row, x, y, z) at c.line.ensures.text
