-- `special::special` meets its contract: the answers in order. Assumes nothing.
use Rattle.special.proofs.Specials.{nan-answer, invalid-answer, zero-answer, infinity-answer}
use Rattle.special.proofs.special.Goals as goal

pub returns-then-infinity-t : goal.returns-then-infinity-t
returns-then-infinity-t g c = search nan-answer

pub returns-then-x-t : goal.returns-then-x-t
returns-then-x-t g c = search invalid-answer

pub returns-then-t-eq0 : goal.returns-then-t-eq0
returns-then-t-eq0 g c = search zero-answer

pub returns : goal.returns
returns g c = search infinity-answer
