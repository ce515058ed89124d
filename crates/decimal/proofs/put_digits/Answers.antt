-- `decimal::put_digits` meets its contract: the text that is put is that of the definition. Assumes nothing.
use Rattle.decimal.proofs.Standard.{standard}
use Rattle.decimal.proofs.put_digits.Goals as goal

pub put-requires : goal.put-requires
put-requires c = rw (c.format-text.ensures.text, standard _ c.ranges.x.fits) c.requires

pub returns : goal.returns
returns c = rw (c.format-text.ensures.text, standard _ c.ranges.x.fits) at c.put.ensures
