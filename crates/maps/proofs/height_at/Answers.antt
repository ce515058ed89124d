-- `maps::height_at` meets its contract: an accepted height with its bias is from 0 to 100,000. Assumes nothing.
use Rattle.std.proofs.Common.{◌∙◌}
use Rattle.maps.proofs.Heights.{biased-most, biased-is}
use Rattle.maps.proofs.height_at.Goals as goal

pub returns : goal.returns
returns c =
    let same = c.from.ensures ∙ c.biased.ensures in
    (biased-is _ _ _ _ _ c.requires.heights c.requires.i_lt_count c.word_at.ensures c.word_at.type_inv same, biased-most _ _ _ _ _ c.requires.heights c.requires.i_lt_count c.word_at.ensures c.word_at.type_inv same)
