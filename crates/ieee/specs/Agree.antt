-- Where the lower and the upper answer agree, asked of an operand's value. Assumes nothing.
use Rattle.std.specs.Prelude.{◌≡◌, ℕ, suc, ◌*◌, ◌^◌, ◌≤◌, ℤ, pos, negsuc, nat_abs}
use Rattle.kinds.specs.declared.Op.{Op}
use Rattle.kinds.specs.declared.Op.TheVariants.{Reciprocal, Root, InverseRoot}
use Rattle.ieee.specs.Format.{Format, bias_of, unit_of}

-- x is y × b^e, the exponent being any whole number
abbrev pub TimesPower : ℕ → ℤ → ℕ → ℕ → Type 0
TimesPower b (pos n) x y = x ≡ y * b ^ n
TimesPower b (negsuc n) x y = x * b ^ suc n ≡ y

-- A magnitude x counts units of 2^-u, so its value is x × 2^-u. The value is a power of two, 2^e with e from −n to n
pub record PowerOfTwo (u n x : ℕ) : Type 0 where
  pub exponent : ℤ
  pub within : nat_abs exponent ≤ n
  pub is : TimesPower 2 exponent x (2 ^ u)

-- the value is a whole square times a power of four, base² × 4^e
pub record SquareTimesPowerOfFour (u x : ℕ) : Type 0 where
  pub base : ℕ
  pub exponent : ℤ
  pub is : TimesPower 4 exponent x (base * base * 2 ^ u)

-- the value is a power of four, 4^e
pub record PowerOfFour (u x : ℕ) : Type 0 where
  pub exponent : ℤ
  pub is : TimesPower 4 exponent x (2 ^ u)

-- the condition of each operation on the magnitude of its operand
abbrev pub Agree : Format → Op → ℕ → Type 0
Agree f Reciprocal x = PowerOfTwo (unit_of f) (bias_of f) x
Agree f Root x = SquareTimesPowerOfFour (unit_of f) x
Agree f InverseRoot x = PowerOfFour (unit_of f) x
