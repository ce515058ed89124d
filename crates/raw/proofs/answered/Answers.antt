-- `raw::answered` meets its contract at every width: the five steps are the raw answer. Assumes nothing.
use Rattle.raw.proofs.Answers.{multiplier_small, answer-is}
use Rattle.raw.proofs.answered.Goals as goal

pub scaled-requires : goal.scaled-requires
scaled-requires g c = (
  multiplier_small g.W.Width.K g.W.Width.T c.args.op c.args.y c.args.p _ c.in_ok-row.row c.in_ok-row.ensures g.W.Width.laws.least c.requires.0,
  c.series-b.ensures.1,
)

pub returns-clause-value : goal.returns-clause-value
returns-clause-value g c =
    answer-is g.W.Width.K g.W.Width.T c.args.op c.args.y c.args.p _ c.in_ok-row.row c.in_ok-row.ensures c.series-b.result c.scaled.result c.reduced.result
    c.reduced.ensures c.series-b.ensures.0 c.scaled.ensures.0
