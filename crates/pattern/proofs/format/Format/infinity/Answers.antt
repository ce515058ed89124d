-- `pattern::format::Format::infinity` meets its contract: the exponent's mask is shifted to its place. Assumes nothing.
use Rattle.pattern.proofs.Numbers.{infinity-worked, above-normal, above-infinity}
use Rattle.pattern.proofs.format.Format.infinity.Goals as goal

pub returns-clause-value : goal.returns-clause-value
returns-clause-value g c = infinity-worked _ _ _ g.met.Self.Format.laws _ _ _ c.PLACE.ensures c.FRACTION.ensures c.FRACTION-2.ensures

pub returns-clause-range : goal.returns-clause-range
returns-clause-range g c =
    let laws = g.met.Self.Format.laws in
    rw (infinity-worked _ _ _ laws _ _ _ c.PLACE.ensures c.FRACTION.ensures c.FRACTION-2.ensures)
    (above-normal _ _ _ laws, above-infinity _ _ _ laws)
