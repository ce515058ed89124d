-- `filling::put_entry` meets its contract. Assumes nothing.
use Rattle.filling.proofs.Filling.{entry-is}
use Rattle.filling.proofs.put_entry.Goals as goal

pub returns : goal.returns
returns c = search entry-is
