-- `decimal::put_number` meets its contract: a sign, digits and a byte, one behind the other. Assumes nothing.
use Rattle.decimal.proofs.Putting.{number-room, end-inside, end_fits, number_put}
use borrow.Author.Rules.{rules}
use Rattle.decimal.proofs.put_number.Goals as goal

pub put_digits-end-requires : goal.put_digits-end-requires
put_digits-end-requires c = search number-room

pub bounds-out-end : goal.bounds-out-end
bounds-out-end c = search end-inside

pub overflow_add-result : goal.overflow_add-result
overflow_add-result c = search (rules, end_fits)

pub returns : goal.returns
returns c = search number_put
