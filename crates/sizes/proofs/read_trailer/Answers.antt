-- `sizes::read_trailer` meets its contract: the tests that were passed say what holds of the trailer. Assumes nothing.
use Rattle.std.proofs.Common.{sym, ◌∙◌}
use Rattle.trailer.proofs.Readings.{ends-fit}
use Rattle.cutter.proofs.Accepted.{sizes-are, steps-are}
use Rattle.sizes.proofs.read_trailer.Goals as goal

pub read_last-trailer-requires : goal.read_last-trailer-requires
read_last-trailer-requires c = ends-fit _ _ (sym c.ends_in.ensures ∙ c.if-not-ends_in.false)

pub returns-clause-held : goal.returns-clause-held
returns-clause-held c =
    record {
      is = c.read_last-trailer.ensures.is;
      fits = ends-fit _ _ (sym c.ends_in.ensures ∙ c.if-not-ends_in.false);
      sizes = sizes-are _ _ (sym c.sizes_hold.ensures ∙ c.if-not-sizes_hold.false);
      steps = steps-are _ _ (sym c.steps_hold.ensures ∙ c.if-not-steps_hold.false);
    }
