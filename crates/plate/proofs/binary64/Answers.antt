-- `plate::binary64` meets its contract: the reply is the published numbers. Assumes nothing.
use Rattle.ieee.specs.Format.{binary64}
use Rattle.plate.proofs.Numbers.{answered-is, refused-is, binary64-numbers, binary64-status}
use Rattle.plate.proofs.binary64.Goals as goal

pub returns-in-Ok : goal.returns-in-Ok
returns-in-Ok c =
    let value = answered-is binary64 _ _ _ c.binary64_rounded.ensures _ _ c.in-Ok.is c.answered.ensures in
    record { value = value; numbers = binary64-numbers _ _ _ _ _ _ value; status = binary64-status _ _ _ _ _ _ value }

pub returns-in-Err : goal.returns-in-Err
returns-in-Err c =
    let value = refused-is binary64 _ _ _ c.binary64_rounded.ensures _ _ c.in-Err.is c.refused.ensures in
    record { value = value; numbers = binary64-numbers _ _ _ _ _ _ value; status = binary64-status _ _ _ _ _ _ value }
