-- `maps::heights_hold` meets its contract: the answer so far is that of the heights passed. Assumes nothing.
use Rattle.std.proofs.Common.{ℕ, ap, ◌∙◌, leb, nat_abs, arith}
use Rattle.words.specs.Signed.{signed}
use Rattle.cutter.specs.Limits.{height_most}
use Rattle.maps.proofs.Questions.{hold-none, hold-more}
use Rattle.maps.proofs.Words.{height-four}
use Rattle.maps.proofs.heights_hold.Goals as goal

pub loop-h-init : goal.loop-h-init
loop-h-init c = search hold-none

pub loop-h-preserved : goal.loop-h-preserved
loop-h-preserved c =
    hold-more c.args.map.now c.loop-h.h-index c.loop-h.hold _ c.loop-h.invariant
    (c.height_holds-hold.ensures ∙ ap (λ (u : ℕ). leb (nat_abs (signed u)) height_most) (height-four c.args.map.now _ c.as_chunks.result.0.now c.args.count c.loop-h.h-index c.as_chunks.ensures.front c.loop-h-test.true (omega (arith, c.requires))))
