-- `decimal::put_sign` meets its contract: one law for each return. Assumes nothing.
use Rattle.decimal.proofs.Putting.{sign-put, no_sign}
use Rattle.decimal.proofs.put_sign.Goals as goal

pub returns-then-negative : goal.returns-then-negative
returns-then-negative c = search sign-put

pub returns : goal.returns
returns c = search no_sign
