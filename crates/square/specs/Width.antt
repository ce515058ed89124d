-- The widths that come back, and what squaring and taking the root gives. Assumes nothing.
use Rattle.std.specs.Prelude.{Bool, false, ◌&&◌, pos, negsuc, Float}
use Rattle.std.specs.Float.Ieee as I
use Rattle.std.specs.Float.{fin}
use Rattle.std.specs.Float.Ieee.{le, lt, mul, of_bits, to_bits}
use Rattle.kinds.specs.declared.Op.TheVariants.{Root}
use Rattle.kinds.specs.declared.Mode.TheVariants.{Nearest}
use Rattle.ieee.specs.Format.{binary32}
use Rattle.ieee.specs.Answer.{answer_of}

-- 2^-63 and 2^64
abbrev pub least : Float
least = fin false 1 (negsuc 62)

abbrev pub limit : Float
limit = fin false 1 (pos 64)

-- a number from 2^-63 to below 2^64
abbrev pub is_width : Float → Bool
is_width x = le least x && lt x limit

-- the nearest root of the language's own product of a number with itself
unfoldable pub root_of_square : Float → Float
root_of_square x = of_bits I.binary32 (answer_of binary32 Root Nearest (to_bits I.binary32 (mul I.binary32 x x))).bits
