-- Two numbers that are less than H apart, and what the first is above the second modulo 2 H. Assumes nothing.
use Rattle.std.proofs.Common.{◌≡◌, ℕ, suc, ◌+◌, ◌*◌, ◌<◌, ◌≤◌, not, ◌&&◌, eqb, ltb, leb, sym, ap, ◌∙◌, mul-le-mul_left, arith, le-ltb, lt-ltb, eq-eqb, ne_eqb, le-leb}
use mathlib.Core.Logic.{by_cases}
use native.Mathlib.Decide.{dec_lt, ℕ_discrete}
use borrow.Author.Tests.{lt-leb}

-- v is that remainder: below H it is their difference, and else it lacks 2 H
module _ (B H s x v i j : ℕ) (half : B ≡ H + H) (below : v < B) (is : v + x + B * i ≡ s + B * j) (low : s < x + H) (high : x < s + H) where
  step : {a b : ℕ} → a < b → B * a + B ≤ B * b
  step l = omega (arith, mul-le-mul_left B l)

  not_more : j < i → ⊥
  not_more l = omega (arith, step l)

  pub upper : v < H → v + x ≡ s
  upper h =
      by_cases (ℕ_discrete i j) (λ e. omega (arith, ap (λ (n : ℕ). B * n) e))
      (λ d. by_cases (dec_lt i j) (λ l. absurd (omega (arith, step l))) (λ l. absurd (not_more (omega (arith, d)))))

  pub lower : H ≤ v → v + x ≡ s + B
  lower h =
      by_cases (ℕ_discrete i j) (λ e. absurd (omega (arith, ap (λ (n : ℕ). B * n) e)))
      (λ d.
      by_cases (dec_lt i j)
      (λ l. by_cases (dec_lt (suc i) j) (λ n. absurd (omega (arith, step l, step n, step {a = i} {b = suc i} (omega arith)))) (λ n. next (omega arith)))
      (λ l. absurd (not_more (omega (arith, d)))))
    where
      next : j ≡ suc i → v + x ≡ s + B
      next e = omega (arith, ap (λ (n : ℕ). B * n) e)

  -- so it tells whether the first is above the second
  pub above-told : not (eqb v 0) && ltb v H ≡ ltb x s
  above-told =
      by_cases (ℕ_discrete v 0)
      (λ e. rw (eq-eqb v 0 e) (sym (le-ltb x s (omega (arith, upper (omega arith))))))
      (λ n.
      rw (ne_eqb v 0 n)
      (by_cases (dec_lt v H)
      (λ l. lt-ltb v H l ∙ sym (lt-ltb x s (omega (arith, upper l, n))))
      (λ l. le-ltb v H (omega arith) ∙ sym (le-ltb x s (omega (arith, lower (omega arith)))))))

  -- or below it
  pub below-told : leb H v ≡ ltb s x
  below-told =
      by_cases (dec_lt v H)
      (λ l. lt-leb H v l ∙ sym (le-ltb s x (omega (arith, upper l))))
      (λ l. le-leb H v (omega arith) ∙ sym (lt-ltb s x (omega (arith, lower (omega arith)))))
