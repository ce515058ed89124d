-- `plate::fill_tables` meets its contract: the reply is the published number. Assumes nothing.
use mathlib.Core.Path.{ap, ◌∙◌}
use Rattle.kinds.specs.Refusal.{refusal_of}
use Rattle.significand.proofs.Asked.{filling-refusal}
use Rattle.plate.proofs.fill_tables.Goals as goal

pub returns-clause-numbers : goal.returns-clause-numbers
returns-clause-numbers c = ap refusal_of c.call.ensures.value ∙ filling-refusal _
