-- Operands whose results are normal numbers, whatever the rounding. Assumes nothing.
use Rattle.std.specs.Prelude.{◌≡◌, false, ◌+◌, ◌≤◌, ◌<◌}
use Rattle.kinds.specs.declared.Op.{Op}
use Rattle.kinds.specs.Operation.{is_reciprocal}
use Rattle.ieee.specs.Format.{binary32}
use Rattle.ieee.specs.Floor.{scale_of}
use Rattle.ieee.specs.Answer.{is_special}
use Rattle.pattern.specs.Parts.{FieldsOf}
use Rattle.pattern.specs.Operand.{Ordinary}
use Rattle.pattern.specs.declared.parts.Parts.{Parts}

-- by its parts: finite and normal, not negative for a root; at the scale of its result no bit is lost, and the last one ends
-- two exponents below infinity
pub record Plain (op : Op) (x : Parts) : Type 0 where
  pub ordinary : Ordinary binary32 x.unsigned
  pub fields : FieldsOf binary32 x
  pub one_bit : x.sign < 2
  pub some : 0 < x.exponent
  pub positive : is_reciprocal op ≡ false → x.sign ≡ 0
  pub not-special : is_special binary32 op x.sign x.unsigned ≡ false
  pub least : 2 ≤ scale_of binary32 op (x.exponent + 22)
  pub most : scale_of binary32 op (x.exponent + 22) ≤ 253
