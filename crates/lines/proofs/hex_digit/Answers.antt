-- By the test of ten. Assumes nothing.
use Rattle.std.proofs.Common.{◌%◌, lt-ltb, le-ltb}
use Rattle.lines.specs.Hex.{hex_digit}
use Rattle.lines.proofs.hex_digit.Goals as goal

pub returns-then-d-lt10 : goal.returns-then-d-lt10
unfolding hex_digit
returns-then-d-lt10 c = rw (lt-ltb (c.args.x % 16) 10 c.if-d-lt10.true)

pub returns-else-d-lt10 : goal.returns-else-d-lt10
unfolding hex_digit
returns-else-d-lt10 c = rw (le-ltb (c.args.x % 16) 10 c.if-d-lt10.false)
