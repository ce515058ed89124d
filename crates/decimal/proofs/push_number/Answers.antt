-- `decimal::push_number` meets its contract: the text of a number has the length that was asked for. Assumes nothing.
use Rattle.std.proofs.Common.{rules, arith, ap, length}
use Rattle.decimal.proofs.Standard.{written}
use Rattle.decimal.proofs.push_number.Goals as goal

pub push_str-requires : goal.push_str-requires
push_str-requires g c =
    let e = written _ _ c.ranges.x c.format-digits.ensures.text in
    (search rules, omega (arith, ap length e))

pub push_str-requires-2 : goal.push_str-requires-2
push_str-requires-2 g c =
    let e = written _ _ c.ranges.x c.format-digits.ensures.text in
    (search rules, omega (arith, ap length e, c.push_str.ensures.len))

pub returns : goal.returns
returns g c = rw (c.push_str-2.ensures.bytes, c.push_str.ensures.bytes, written _ _ c.ranges.x c.format-digits.ensures.text)
