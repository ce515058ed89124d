-- `pattern::format::Format::unit` meets its contract: the bias is one less than half of an exponent's numbers. Assumes nothing.
use Rattle.pattern.proofs.Numbers.{unit-worked, unit-small}
use Rattle.pattern.proofs.format.Format.unit.Goals as goal

pub returns-clause-value : goal.returns-clause-value
returns-clause-value g c = unit-worked _ _ _ g.met.Self.Format.laws _ _ _ c.PLACE.ensures c.FRACTION.ensures c.FRACTION-2.ensures

pub returns-clause-range : goal.returns-clause-range
returns-clause-range g c =
    let laws = g.met.Self.Format.laws in
    rw (unit-worked _ _ _ laws _ _ _ c.PLACE.ensures c.FRACTION.ensures c.FRACTION-2.ensures) (unit-small _ _ _ laws)
