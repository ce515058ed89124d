use Rattle.std.proofs.Common.{◌∙◌}
use Rattle.decimal.proofs.Putting.{text-put}
use Rattle.decimal.proofs.put.Goals as goal

pub returns : goal.returns
returns c = text-put _ _ _ _ (c.copy_from_slice.ensures.after ∙ c.as_bytes.ensures.value) c.requires
