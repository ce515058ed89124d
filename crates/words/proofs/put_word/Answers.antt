-- `words::put_word` meets its contract: std's bytes are those of the number. Assumes nothing.
use Rattle.std.proofs.Common.{ap, ◌∙◌}
use Rattle.words.specs.Splice.{splice}
use Rattle.words.proofs.Splicing.{word-low}
use Rattle.words.proofs.put_word.Goals as goal

pub returns : goal.returns
returns c = c.put.ensures ∙ ap (λ b. splice c.args.at b c.args.out.now) (c.to_le_bytes.ensures ∙ word-low c.args.x)
