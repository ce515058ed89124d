-- `maps::Map::new` meets its contract: the questions that were answered "yes" say what is known of a map. Assumes nothing.
use Rattle.std.proofs.Common.{sym, ◌∙◌, ◌*◌}
use Rattle.cutter.proofs.Accepted.{heights-small}
use Rattle.maps.proofs.Questions.{heights-there}
use Rattle.maps.proofs.Map.new.Goals as goal

pub invariant_of-result : goal.invariant_of-result
invariant_of-result c =
    let t = c.in_ok-trailer.trailer in
    let held = c.in_ok-trailer.ensures.held in
    record {
      ready =
          record {
            is = held.is;
            sizes = held.sizes;
            steps = held.steps;
            heights =
                record {
                  held = heights-there t.distance c.args.bytes.now _ (t.width * t.depth) c.is_whole.ensures c.if-not-is_whole.false;
                  small = heights-small c.args.bytes.now (t.width * t.depth) (sym c.heights_hold.ensures ∙ c.if-not-heights_hold.false);
                };
          };
    }
