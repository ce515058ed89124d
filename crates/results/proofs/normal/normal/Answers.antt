-- `results::normal::normal` meets its contract: the significand taken is that of a normal result. Assumes nothing.
use Rattle.std.proofs.Common.{rules}
use Rattle.results.proofs.Results.{not-negative, taken-scale, taken-finite, taken-answered}
use Rattle.results.proofs.normal.normal.Goals as goal

pub taken_of-t-requires : goal.taken_of-t-requires
taken_of-t-requires c = record { operand = (search rules, search rules, search rules); positive = search not-negative }

pub normal_answer-requires : goal.normal_answer-requires
normal_answer-requires c = (search rules, search taken-scale, search taken-finite)

pub returns : goal.returns
returns c = search taken-answered
