-- `words::put` meets its contract: a copy to a part of the bytes is a splice. Assumes nothing.
use Rattle.std.proofs.Common.{sym, ap, ◌∙◌, length, arith, length-take, length-drop}
use Rattle.words.proofs.Splicing.{spliced}
use Rattle.words.proofs.put.Goals as goal

pub returns : goal.returns
returns g c =
    let after = c.copy_from_slice.ensures.after in
    spliced _ _ _ _ _ after (sym (ap length after) ∙ c.copy_from_slice.ensures.len ∙ simp (length-take, length-drop) (omega arith))
