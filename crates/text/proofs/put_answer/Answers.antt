-- `text::put_answer` meets its contract: one law for each return. Assumes nothing.
use Rattle.std.proofs.Common.{◌∙◌, arith}
use Rattle.text.proofs.Whole.{too_long, refused-map, map-long, map-sizes, list-held-in, listed}
use Rattle.text.proofs.put_answer.Goals as goal

pub returns-then-map-gt16400 : goal.returns-then-map-gt16400
returns-then-map-gt16400 c =
    too_long _ _ _ c.requires.text_most_in_bounds _ _ _ c.if-map-gt16400.true (c.as_str.ensures.value ∙ c.refused.ensures) c.as_str.ensures.fits c.put.ensures

pub read_last-requires : goal.read_last-requires
read_last-requires c = search map-long

pub put_list-requires-clause-sizes : goal.put_list-requires-clause-sizes
put_list-requires-clause-sizes c = search map-sizes

pub put_list-requires-clause-depth_in_bounds : goal.put_list-requires-clause-depth_in_bounds
put_list-requires-clause-depth_in_bounds c = search list-held-in

pub returns-in-Ok : goal.returns-in-Ok
returns-in-Ok c = search listed

pub returns-in-Err : goal.returns-in-Err
returns-in-Err c =
    refused-map _ _ _ c.requires.text_most_in_bounds (omega arith) c.requires.list_most_value _ _ c.lifted_list.ensures _ c.in-Err.is _ _ _
    (c.as_str-in-Err.ensures.value ∙ c.refused-in-Err.ensures) c.as_str-in-Err.ensures.fits c.put-in-Err.ensures
