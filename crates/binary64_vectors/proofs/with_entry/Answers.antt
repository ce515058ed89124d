-- The tables are what they were: the second exchange undoes the first. Assumes nothing.
use Rattle.std.proofs.Common.{set-set}
use lib.Seq.{set-get_or}
use Rattle.binary64_vectors.proofs.with_entry.Goals as goal

pub returns : goal.returns
returns g c = rw (c.exchange.ensures.put, c.exchange-held.ensures.put, set-set, c.exchange-held.ensures.held) (set-get_or _ _ _)
