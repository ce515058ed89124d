-- `binary64::answer` meets its contract: a special operand has its answer, and any other the rounded result where its entry is M. Assumes nothing.
use Rattle.std.proofs.Common.{rules}
use Rattle.std.proofs.lemmas.Result.{err_from_is_err_and}
use Rattle.special.proofs.Parted.{ordinary-is}
use Rattle.binary64.proofs.Answers.{found-finite, special-is, broken-is, rounded-is}
use Rattle.binary64.proofs.answer.Goals as goal

pub returns-then-is_special : goal.returns-then-is_special
returns-then-is_special c = search special-is

pub below-requires : goal.below-requires
below-requires c = (search ordinary-is, search rules, search rules)

pub returns-in_err-n : goal.returns-in_err-n
returns-in_err-n c =
    let p = err_from_is_err_and c.from_residual.result c.from_residual.ensures.1 in
    rw p.1 (broken-is _ _ _ _ _ _ c.fields-x.ensures c.is_special.ensures c.if-is_special.false p.0 (rw p.2 c.in_err-n.ensures))

pub round-requires : goal.round-requires
round-requires c = (search rules, found-finite _ _ _ _ c.in_ok-n.ensures)

pub returns : goal.returns
returns c = rounded-is _ _ _ _ _ _ c.fields-x.ensures c.is_special.ensures c.if-is_special.false _ _ c.in_ok-n.ensures c.round.ensures
