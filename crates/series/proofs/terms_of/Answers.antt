-- `series::terms_of` meets its contract at every width: its digits have 15 bits at most. Assumes nothing.
use Rattle.std.proofs.Common.{arith}
use Rattle.series.proofs.Digits.{one_shifted, first_small, upper_small, carry_small}
use Rattle.series.proofs.Steps.{terms-are}
use Rattle.series.proofs.terms_of.Goals as goal

pub product-square-requires : goal.product-square-requires
product-square-requires g c =
    let first = first_small g.W.Width.K c.args.a g.W.Width.laws.most c.requires in rw c.K-k.ensures (first, omega (arith, first))

pub product-requires : goal.product-requires
product-requires g c =
    let k = g.W.Width.K in
    let most = g.W.Width.laws.most in
    rw c.K-k.ensures (first_small k c.args.a most c.requires, upper_small k c.args.a most c.requires _)

pub product-requires-2 : goal.product-requires-2
product-requires-2 g c =
    let k = g.W.Width.K in
    let most = g.W.Width.laws.most in
    let square = rw c.K-k.ensures at c.product-square.ensures.0 in
    rw c.K-k.ensures (first_small k c.args.a most c.requires, omega (arith, carry_small k c.args.a most c.requires _ square))

pub returns : goal.returns
returns g c =
    let k = g.W.Width.K in
    let most = g.W.Width.laws.most in
    let square = rw c.K-k.ensures at c.product-square.ensures.0 in
    let cross = rw (c.K-k.ensures, one_shifted k most) at c.product.ensures.0 in
    let cube = rw c.K-k.ensures at c.product-2.ensures.0 in
    terms-are k most c.args.positive c.args.a _ _ _ _ c.requires square c.unit.ensures cross c.product.ensures.1 cube c.product-2.ensures.1
