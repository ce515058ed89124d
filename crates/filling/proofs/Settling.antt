-- Steps down and up lead to g, where a test says which numbers are at most g. Assumes nothing.
use Rattle.std.proofs.Common.{◌≡◌, ℕ, ◌+◌, ◌-◌, ◌<◌, ◌≤◌, Bool, true, false, leb, sym, ◌∙◌, arith, leb-false, leb-true}

module _ (w g : ℕ) (b : Bool) (e : b ≡ leb w g) where
  -- a number that passes is at most g, and one that does not is above it, so that there is one below
  pub reached : b ≡ true → w ≤ g
  reached t = leb-true w g (sym e ∙ t)

  pub some_below : b ≡ false → 0 < w
  some_below f = omega (arith, leb-false w g (sym e ∙ f))

  pub one_less : b ≡ false → w - 1 < w
  one_less f = omega (arith, some_below f)

-- a number that passes while the next does not is g
pub settled : (w g : ℕ) (b : Bool) → w ≤ g → b ≡ leb (w + 1) g → b ≡ false → w ≡ g
settled w g b h e f = omega (arith, leb-false (w + 1) g (sym e ∙ f))
