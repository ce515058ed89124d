-- The least whole number that passes a test. Assumes nothing.
use Rattle.std.specs.Prelude.{ℕ, suc, ◌≤◌, Bool, not, cond, T}
use Rattle.numbers.specs.Greatest.{greatest}

-- the least number up to 2^n that passes a test: 0, or one more than the greatest that fails; the test passes every number above one that
-- it passes
unfoldable pub least : ℕ → (ℕ → Bool) → ℕ
least n test = cond (test 0) 0 (suc (greatest n (λ (t : ℕ). not (test t))))

-- r is the least number from z on that passes a test
pub record LeastFrom (test : ℕ → Bool) (z r : ℕ) : Type 0 where
  pub above : z ≤ r
  pub passes : T (test r)
  pub least : (y : ℕ) → z ≤ y → T (test y) → r ≤ y

-- r is at least z, and no number from z on that passes is below it
pub record NotPast (test : ℕ → Bool) (z r : ℕ) : Type 0 where
  pub above : z ≤ r
  pub least : (y : ℕ) → z ≤ y → T (test y) → r ≤ y
