-- `text::put_list` meets its contract: the line of the sizes, and the lines of the records behind it. Assumes nothing.
use Rattle.std.proofs.Common.{◌≤◌, ◌∙◌, length, arith, ap, w32}
use Rattle.std.proofs.lemmas.Int.{to_z_pos}
use Rattle.text.proofs.Whole.{list_put}
use Rattle.text.proofs.put_list.Goals as goal

pub returns : goal.returns
returns c =
    let t = c.args.trailer in
    let width = to_z_pos w32 t.width (omega arith) in
    let depth = to_z_pos w32 t.depth (omega arith) in
    let step = to_z_pos w32 t.step (omega arith) in
    let radius = to_z_pos w32 t.radius (omega arith) in
    let few : length c.as_str.result.now ≤ 48 = omega (arith, ap length c.as_str.ensures.value, c.line-sizes.ensures.short) in
    list_put t.width t.depth c.requires.sizes _ _ _ _ _ _ _ _ c.requires.text_most_in_bounds few
    (c.as_str.ensures.value ∙ rw (width, depth, step, radius) at c.line-sizes.ensures.text) c.put-end.ensures c.put_records.ensures
