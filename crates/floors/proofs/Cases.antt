-- The operation of a floor by its case, over the width. Assumes nothing.
use Rattle.std.proofs.Common.{◌≡◌, ap, ◌∙◌, ℕ, Bool, false}
use Rattle.kinds.specs.declared.Op.{Op}
use Rattle.kinds.specs.declared.Op.TheVariants.{Reciprocal}
use Rattle.significand.specs.Width.{Operand}
use Rattle.significand.specs.Distance.{Near, bound_of, Between}
use Rattle.ieee.specs.Floor.{target_of, Floored}
use Rattle.kinds.specs.declared.Mode.{Mode}
use Rattle.kinds.specs.Operation.{is_reciprocal}
use Rattle.kinds.specs.Guard.{rest_of}
use Rattle.floors.specs.Taken.{TakenOf}
use Rattle.floors.specs.declared.taken.Taken.{Taken}

module _ (op case : Op) (y p : ℕ) (o : op ≡ case) where
  pub near-case : (k t g : ℕ) → Near op k t y p (bound_of op) g → Near case k t y p (bound_of case) g
  near-case k t g n = rw (← o) n

  pub between-case : (k t g : ℕ) → Between op k t y p g → Between case k t y p g
  between-case k t g n = rw (← o) n

  pub taken-case : (rest : ℕ) (r : Taken) → TakenOf case y (target_of 23 case y p) rest r → TakenOf op y (target_of 23 op y p) rest r
  taken-case rest r h = rw o h

  -- a root is not negative
  pub root-case : (mode : Mode) (negative : Bool) (r : Taken) → is_reciprocal case ≡ false → (is_reciprocal op ≡ false → negative ≡ false)
      → TakenOf case y (target_of 23 case y p) (rest_of mode false) r → TakenOf op y (target_of 23 op y p) (rest_of mode negative) r
  root-case mode negative r root positive h = let none : negative ≡ false = positive (ap is_reciprocal o ∙ root) in rw none (taken-case (rest_of mode false) r h)

  pub floored-case : (m q : ℕ) (more : Bool) → Floored case y (target_of m case y p) q more → Floored op y (target_of m op y p) q more
  floored-case m q more f = rw o f

-- the reciprocal's parity is 0
module _ (op : Op) (k t y p g : ℕ) (o : op ≡ Reciprocal) (operand : Operand k t op y p) where
  pub near-reciprocal : Near op k t y p (bound_of op) g → Near Reciprocal k t y 0 (bound_of Reciprocal) g
  near-reciprocal n = rw (← operand.even o) (near-case op Reciprocal y p o k t g n)

  pub between-reciprocal : Between op k t y p g → Between Reciprocal k t y 0 g
  between-reciprocal n = rw (← operand.even o) (between-case op Reciprocal y p o k t g n)
