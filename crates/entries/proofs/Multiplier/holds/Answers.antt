-- `entries::Multiplier::holds` meets its contract. Assumes nothing.
use Rattle.entries.proofs.Entries.{large-is-none}
use Rattle.entries.proofs.Multiplier.holds.Goals as goal

pub returns-then-m-gt-MOST : goal.returns-then-m-gt-MOST
returns-then-m-gt-MOST c = search large-is-none
