-- What was written now goes behind what was written before. Assumes nothing.
use Rattle.std.proofs.Common.{◌++◌, take, rules, sym, ap, ◌∙◌, subst}
use Rattle.std.proofs.lemmas.List.{take_rest}
use Rattle.std.specs.Io.KnownBytes.{Appends}
use Rattle.std.proofs.KnownBytes.{Appends-trans}
use lib.Seq.{take-add}
use Rattle.platelist.proofs.write_full.Goals as goal

pub loop-written-preserved : goal.loop-written-preserved
loop-written-preserved g c =
    let w = c.loop-written.written in
    let n = c.in_ok-more.more in
    let b = c.args.bytes.now in
    (search rules, subst (Appends _ _) (ap (λ l. take w b ++ take n l) (take_rest b w) ∙ sym (take-add w n b)) (Appends-trans _ _ _ _ _ c.loop-written.invariant.1 c.in_ok-more.ensures.some))
