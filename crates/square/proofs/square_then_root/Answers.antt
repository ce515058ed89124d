-- `square::square_then_root` meets its contract: the reply's bits are those of the nearest root, which a width's are. Assumes nothing.
use mathlib.Core.Path.{sym, subst}
use lib.Dec.{T}
use Rattle.square.proofs.Returned.{nan-returned, product-asked, root-asked, root-returned}
use Rattle.square.proofs.square_then_root.Goals as goal

pub returns-then-width-clause-value : goal.returns-then-width-clause-value
returns-then-width-clause-value c = (nan-returned _ c.if-width.true).0

pub float_to_bits-bits : goal.float_to_bits-bits
float_to_bits-bits c = search product-asked

pub float_from_bits-result : goal.float_from_bits-result
float_from_bits-result c = search root-asked

-- an `f32` is a number that the format holds
pub returns-clause-value : goal.returns-clause-value
returns-clause-value c = (root-returned _ _ _ _ c.binary32-reply.ensures.value c.unwrap.ensures (subst T (sym c.well_formed.0.1) tt)).0

pub returns-clause-comes_back : goal.returns-clause-comes_back
returns-clause-comes_back c = (root-returned _ _ _ _ c.binary32-reply.ensures.value c.unwrap.ensures (subst T (sym c.well_formed.0.1) tt)).1
