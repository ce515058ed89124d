-- `printing::put_records` meets its contract: the next line goes behind the lines before it. Assumes nothing.
use Rattle.std.proofs.Common.{◌∙◌, arith}
use Rattle.printing.specs.Entries.{entry_line}
use Rattle.printing.proofs.Puts.{texts_none, texts_more}
use Rattle.printing.proofs.put_records.Goals as goal

pub loop-n-init : goal.loop-n-init
loop-n-init c = texts_none (entry_line c.args.list.now c.args.columns) 60 _ _

pub loop-n-preserved : goal.loop-n-preserved
loop-n-preserved c =
    texts_more (entry_line c.args.list.now c.args.columns) 60 _ _ _ _ _ _ _ _ (omega arith) (c.as_str.ensures.value ∙ c.record_line.ensures) c.as_str.ensures.fits c.loop-n.invariant c.put-at.ensures
