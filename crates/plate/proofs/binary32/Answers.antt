-- `plate::binary32` meets its contract: the reply is the published numbers. Assumes nothing.
use Rattle.ieee.specs.Format.{binary32}
use Rattle.plate.proofs.Numbers.{answered-is, refused-is, binary32-numbers, binary32-status}
use Rattle.plate.proofs.binary32.Goals as goal

pub returns-in-Ok : goal.returns-in-Ok
returns-in-Ok c =
    let value = answered-is binary32 _ _ _ c.binary32_rounded.ensures _ _ c.in-Ok.is c.answered.ensures in
    record { value = value; numbers = binary32-numbers _ _ _ _ _ value; status = binary32-status _ _ _ _ _ value }

pub returns-in-Err : goal.returns-in-Err
returns-in-Err c =
    let value = refused-is binary32 _ _ _ c.binary32_rounded.ensures _ _ c.in-Err.is c.refused.ensures in
    record { value = value; numbers = binary32-numbers _ _ _ _ _ value; status = binary32-status _ _ _ _ _ value }
