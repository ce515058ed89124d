-- `special::is_special` meets its contract: each test is one of the definition. Assumes nothing.
use Rattle.special.proofs.Parted.{special-is}
use Rattle.special.proofs.is_special.Goals as goal

pub returns : goal.returns
returns g c = search special-is
