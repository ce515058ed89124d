-- `least` gives the least number up to 2^n that passes. Assumes nothing.
use mathlib.Core.Path.{◌≡◌, refl, sym, subst}
use mathlib.Core.Bool.{Bool, true, false, not, cond, ◌&&◌}
use mathlib.Core.Logic.{by_cases}
use Prim.Native.Nat.{ℕ, suc, ◌^◌, ◌≤◌}
use native.Mathlib.Decide.{dec_lt}
use native.Mathlib.Omega.{arith}
use lib.Dec.{T}
use Rattle.numbers.specs.Greatest.{greatest}
use Rattle.numbers.specs.Least.{least, LeastFrom, NotPast}
use Rattle.numbers.proofs.Greatest.{greatest-found}

-- a test that holds above wherever it holds
abbrev pub Monotone : (ℕ → Bool) → Type 0
Monotone test = (a b : ℕ) → a ≤ b → T (test a) → T (test b)

fails-not : (b : Bool) → T (not b) → T b → ⊥
fails-not true n t = n
fails-not false n t = t

not-fails : (b : Bool) → (T (not b) → ⊥) → T b
not-fails true n = tt
not-fails false n = absurd (n tt)

module _ (n : ℕ) (test : ℕ → Bool) (mono : Monotone test) (x : ℕ) (passes : T (test x)) where
  abbrev failing : ℕ → Bool
  failing t = not (test t)

  -- no number that passes is below it
  pub least-below : least n test ≤ x
  unfolding least
  least-below = go (test 0) refl
    where
      go : (b : Bool) → test 0 ≡ b → cond b 0 (suc (greatest n failing)) ≤ x
      go true e = omega arith
      go false e =
          let f = greatest-found n failing (subst (λ (b : Bool). T (not b)) (sym e) tt) in
          by_cases (dec_lt (greatest n failing) x) (λ l. l)
          (λ l. absurd (fails-not (test (greatest n failing)) f.passes (mono x (greatest n failing) (omega arith) passes)))

  -- and it passes
  pub least-passes : x ≤ 2 ^ n → T (test (least n test))
  unfolding least
  least-passes h = go (test 0) refl
    where
      go : (b : Bool) → test 0 ≡ b → T (test (cond b 0 (suc (greatest n failing))))
      go true e = subst T (sym e) tt
      go false e =
          let g : ℕ = greatest n failing in
          let f = greatest-found n failing (subst (λ (b : Bool). T (not b)) (sym e) tt) in
          by_cases (dec_lt (suc g) (2 ^ n)) (λ l. not-fails (test (suc g)) (f.last l))
          (λ l. by_cases (dec_lt g x) (λ k. subst (λ (y : ℕ). T (test y)) (omega (arith, f.below)) passes)
          (λ k. absurd (fails-not (test g) f.passes (mono x g (omega arith) passes))))

  -- so it is the number that passes where none below does
  pub least-is : x ≤ 2 ^ n → ((y : ℕ) → T (test y) → x ≤ y) → least n test ≡ x
  least-is h low = omega (arith, least-below, low (least n test) (least-passes h))

-- ---- from a number on

pub both : (a b : Bool) → T a → T b → T (a && b)
both true b s t = t
both false b s t = absurd s

pub first : (a b : Bool) → T (a && b) → T a
first true b t = tt
first false b t = t

pub second : (a b : Bool) → T (a && b) → T b
second true b t = t
second false b t = absurd t

-- two tests, one after the other
pub least-then : (a b : ℕ → Bool) (x y z : ℕ) → Monotone a → LeastFrom a x y → LeastFrom b y z → LeastFrom (λ (n : ℕ). a n && b n) x z
least-then a b x y z mono f g =
    record {
      above = omega (arith, f.above, g.above);
      passes = both (a z) (b z) (mono y z g.above f.passes) g.passes;
      least = λ n h t. g.least n (f.least n h (first (a n) (b n) t)) (second (a n) (b n) t);
    }

-- a start that is not past a weaker test
pub least-from : (a b : ℕ → Bool) (x y z : ℕ) → ((n : ℕ) → T (b n) → T (a n)) → NotPast a x y → LeastFrom b y z → LeastFrom b x z
least-from a b x y z weaker f g =
    record {
      above = omega (arith, f.above, g.above);
      passes = g.passes;
      least = λ n h t. g.least n (f.least n h (weaker n t)) t;
    }

-- tests that say the same
pub least-same : (a b : ℕ → Bool) (x y : ℕ) → ((n : ℕ) → a n ≡ b n) → LeastFrom a x y → LeastFrom b x y
least-same a b x y same f =
    record {
      above = f.above;
      passes = subst T (same y) f.passes;
      least = λ n h t. f.least n h (subst T (sym (same n)) t);
    }
