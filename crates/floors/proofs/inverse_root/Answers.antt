-- `floors::inverse_root` meets its contract: the floor is the number tried, the one before or the next. Assumes nothing.
use Rattle.floors.proofs.Counted.{inverse-floor}
use mathlib.Core.Path.{refl}
use Rattle.floors.proofs.inverse_root.Goals as goal

pub returns : goal.returns
returns c = inverse-floor c.args.y c.args.g c.requires.0 c.args.p c.requires.1 c.requires.3 _ _ _ _ refl refl c.is_above-above.ensures c.is_above-next_above.ensures
