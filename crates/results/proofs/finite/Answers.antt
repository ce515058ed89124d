-- `results::finite` meets its contract: the floor gives the pattern below the exact result, which is rounded. Assumes nothing.
use Rattle.std.proofs.Common.{rules}
use Rattle.results.proofs.Results.{floor-most, below-finite, exact-answered}
use Rattle.results.proofs.finite.Goals as goal

pub lower-n-requires : goal.lower-n-requires
lower-n-requires c = (search floor-most, search rules)

pub round-requires : goal.round-requires
round-requires c = (search rules, search below-finite)

pub returns : goal.returns
returns c = search exact-answered
