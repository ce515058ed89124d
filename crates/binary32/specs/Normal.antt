-- The test that an operand and its result are normal numbers, whatever the rounding. Assumes nothing.
use Rattle.std.specs.Prelude.{Bool, ◌&&◌, ℕ, leb, ltb}
use Rattle.kinds.specs.declared.Op.{Op}
use Rattle.kinds.specs.declared.Op.TheVariants.{Reciprocal, Root, InverseRoot}

-- by the pattern b and its exponent field e: for the reciprocal 1 ≤ e ≤ 252, for the roots every positive normal number
unfoldable pub is_plain : Op → ℕ → ℕ → Bool
is_plain Reciprocal b e = leb 1 e && leb e 252
is_plain Root b e = leb 8388608 b && ltb b 2139095040
is_plain InverseRoot b e = leb 8388608 b && ltb b 2139095040
