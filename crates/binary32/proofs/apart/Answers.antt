-- `binary32::apart` meets its contract: a special operand has its answer, and any other the rounded result. Assumes nothing.
use Rattle.std.proofs.Common.{rules}
use Rattle.special.proofs.Parted.{ordinary-is}
use Rattle.rounding.proofs.Answers.{answer-special, answer-ordinary}
use Rattle.binary32.proofs.apart.Goals as goal

pub returns-then-is_special : goal.returns-then-is_special
returns-then-is_special c = search answer-special

pub finite-requires : goal.finite-requires
finite-requires c = (search ordinary-is, search rules, search rules)

pub returns : goal.returns
returns c = search answer-ordinary
