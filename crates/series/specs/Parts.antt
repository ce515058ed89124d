-- What the parts of the raw code hand to each other. Assumes nothing.
use Rattle.std.specs.Prelude.{◌≡◌, ℕ, ◌+◌, ◌*◌, ◌<◌, ◌^◌, Bool, pos}
use Rattle.significand.specs.Steps.{sign_of, unit, reduced_of, digit2, digit3, carry_of}
use Rattle.series.specs.declared.Reduction.{Reduction}
use Rattle.series.specs.declared.Terms.{Terms}

-- step 2 of u, which is y × R: s and a, which has three digits
pub record Reduced (k t u : ℕ) (d : Reduction) : Type 0 where
  pub sign : d.positive ≡ sign_of k t u
  pub magnitude : d.magnitude ≡ reduced_of k t u
  pub small : d.magnitude < 2 ^ (3 * k)

-- what the three sums are made of: s, a, 2^k·a2² + 2·a2·a3 and h·a2
pub record TermsOf (k : ℕ) (positive : Bool) (a : ℕ) (t : Terms) : Type 0 where
  pub sign : t.sign ≡ unit positive
  pub linear : t.linear ≡ pos a
  pub cross : t.cross ≡ pos (2 ^ k * (digit2 k a * digit2 k a) + 2 * (digit2 k a * digit3 k a))
  pub cube : t.cube ≡ pos (carry_of k (digit2 k a) * digit2 k a)
