-- The greatest whole number that passes a test. Assumes nothing.
use Rattle.std.specs.Prelude.{ℕ, zero, suc, ◌+◌, ◌^◌, Bool, true, false}

-- the first where the test holds, else the second
abbrev pub keep : Bool → ℕ → ℕ → ℕ
keep true x y = x
keep false x y = y

-- from w on, with the n lowest bits still to be found: a bit is kept where the test still passes
unfoldable pub greatest_from : (ℕ → Bool) → ℕ → ℕ → ℕ
greatest_from test zero w = w
greatest_from test (suc n) w = greatest_from test n (keep (test (w + 2 ^ n)) (w + 2 ^ n) w)

-- the greatest number below 2^n that passes a test; the test passes 0, and passes every number below one that it passes
unfoldable pub greatest : ℕ → (ℕ → Bool) → ℕ
greatest n test = greatest_from test n 0
