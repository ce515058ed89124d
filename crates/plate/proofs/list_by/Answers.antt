-- `plate::list_by` meets its contract: question 2 first, and the buffer is left after a "no". Assumes nothing.
use mathlib.Core.Path.{◌∙◌}
use Rattle.std.proofs.Common.{rules}
use Rattle.cutter.proofs.Asked.{buffer-known, buffer-unknown}
use Rattle.plate.proofs.Listed.{listed}
use Rattle.plate.proofs.list_by.Goals as goal

pub returns-in_err-try_from : goal.returns-in_err-try_from
returns-in_err-try_from c =
    listed _ _ _ _ _ _ (search rules)
    (buffer-unknown c.args.rule c.args.rounding.0 c.args.map.now c.args.buffer.now c.in_err-try_from.field-0.0 c.in_err-try_from.ensures)

pub returns : goal.returns
returns c =
    listed _ _ _ _ _ _ (search rules)
    (c.call.ensures.buffer_after ∙ buffer-known c.args.rule c.args.rounding.0 c.args.map.now c.args.buffer.now c.in_ok-try_from.field-0 c.in_ok-try_from.ensures)
