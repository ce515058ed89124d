-- `listing::put_list` meets its contract: the records, and the trailer right behind them, are the list. Assumes nothing.
use Rattle.listing.proofs.Whole.{records-room, trailer-room, length-of, list_put}
use Rattle.listing.proofs.put_list.Goals as goal

pub put-requires : goal.put-requires
put-requires c = search trailer-room

pub returns : goal.returns
returns c = (search length-of, search list_put)

pub put_points-requires : goal.put_points-requires
put_points-requires c = search records-room
