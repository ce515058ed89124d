-- A signed number taken apart into its sign and its magnitude. Assumes nothing.
use Rattle.std.specs.Prelude.{ℤ, nat_abs}
use Rattle.words.specs.Signed.{is_negative}
use Rattle.words.specs.declared.Signed.{Signed}

unfoldable pub parts_of : ℤ → Signed
parts_of z = record { negative = is_negative z; magnitude = nat_abs z }
