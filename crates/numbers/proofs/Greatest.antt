-- `greatest` gives the greatest number below 2^n that passes, so that a test passes the numbers up to it; and the squares' test, which
-- roots and offsets use. Assumes nothing.
use mathlib.Core.Path.{◌≡◌, refl, subst, sym, ap, ◌∙◌}
use mathlib.Core.Bool.{Bool, true, false, not, ◌&&◌}
use mathlib.Core.Logic.{by_cases}
use Prim.Native.Nat.{ℕ, zero, suc, ◌+◌, ◌*◌, ◌^◌, ◌≤◌, ◌<◌, zero-le}
use native.Mathlib.Nat.{pow-suc, zero-add, le_trans, mul-le-mul, mul-le-mul_right}
use native.Mathlib.Decide.{dec_lt}
use native.Mathlib.Omega.{arith}
use borrow.Author.Tests.{le-leb, lt-leb, eq-eqb, ne_eqb}
use lib.Dec.{T, leb, eqb, leb→le, le→leb}
use Rattle.numbers.specs.Greatest.{keep, greatest_from, greatest}

-- g is at least w and below m, passes the test, and the next number, where it is below m, does not
pub record Found (test : ℕ → Bool) (w m g : ℕ) : Type 0 where
  pub above : w ≤ g
  pub below : g < m
  pub passes : T (test g)
  pub last : suc g < m → T (test (suc g)) → ⊥

found : (test : ℕ → Bool) (n w : ℕ) → T (test w) → Found test w (w + 2 ^ n) (greatest_from test n w)
unfolding greatest_from
found test zero w t = record { above = omega arith; below = omega arith; passes = t; last = λ h p. omega arith }
found test (suc n) w t = go (test (w + 2 ^ n)) refl (found test n w t) (found test n (w + 2 ^ n))
  where
    go : (b : Bool) → test (w + 2 ^ n) ≡ b → Found test w (w + 2 ^ n) (greatest_from test n w)
        → (T (test (w + 2 ^ n)) → Found test (w + 2 ^ n) (w + 2 ^ n + 2 ^ n) (greatest_from test n (w + 2 ^ n)))
        → Found test w (w + 2 ^ suc n) (greatest_from test n (keep b (w + 2 ^ n) w))
    go true e low high =
        let f = high (subst T (sym e) tt) in
        record { above = omega arith; below = omega (arith, pow-suc 2 n); passes = f.passes; last = λ h p. f.last (omega (arith, pow-suc 2 n)) p }
    go false e low high =
        record {
          above = low.above;
          below = omega (arith, pow-suc 2 n);
          passes = low.passes;
          last = λ h p.
              by_cases (dec_lt (suc (greatest_from test n w)) (w + 2 ^ n)) (λ l. low.last l p)
              (λ l. subst T (ap test (omega arith) ∙ e) p);
        }

-- a test that holds below wherever it holds
abbrev pub Antitone : (ℕ → Bool) → Type 0
Antitone test = (a b : ℕ) → a ≤ b → T (test b) → T (test a)

module _ (n : ℕ) (test : ℕ → Bool) where
  -- what `greatest` gives passes, and the next number, where it is below 2^n, does not
  pub greatest-found : T (test 0) → Found test 0 (2 ^ n) (greatest n test)
  unfolding greatest
  greatest-found t = subst (λ (m : ℕ). Found test 0 m (greatest_from test n 0)) (zero-add (2 ^ n)) (found test n 0 t)

  -- no number that passes is above it
  pub greatest-above : Antitone test → (x : ℕ) → T (test x) → x < 2 ^ n → x ≤ greatest n test
  greatest-above anti x t h =
      let f = greatest-found (anti 0 x zero-le t) in
      by_cases (dec_lt (greatest n test) x) (λ l. absurd (f.last (omega arith) (anti (suc (greatest n test)) x l t))) (λ l. omega arith)

  -- so it is the number that passes while the next does not
  pub greatest-is : Antitone test → (x : ℕ) → T (test x) → (T (test (suc x)) → ⊥) → x < 2 ^ n → greatest n test ≡ x
  greatest-is anti x t fails h =
      let f = greatest-found (anti 0 x zero-le t) in
      let low = greatest-above anti x t h in
      by_cases (dec_lt x (greatest n test)) (λ l. absurd (fails (anti (suc x) (greatest n test) l f.passes))) (λ l. omega arith)

  -- and the test passes exactly the numbers up to it, where it fails one below 2^n
  pub greatest-upto : Antitone test → T (test 0) → (x : ℕ) → (T (test x) → ⊥) → x < 2 ^ n → (w : ℕ) → test w ≡ leb w (greatest n test)
  greatest-upto anti t x fails h w = go (test w) refl
    where
      go : (b : Bool) → test w ≡ b → test w ≡ leb w (greatest n test)
      go true e =
          let passes : T (test w) = subst T (sym e) tt in
          let below : w < x = by_cases (dec_lt w x) (λ l. l) (λ l. absurd (fails (anti x w (omega arith) passes))) in
          e ∙ sym (le-leb w (greatest n test) (greatest-above anti w passes (omega arith)))
      go false e =
          let above : greatest n test < w =
          by_cases (dec_lt (greatest n test) w) (λ l. l) (λ l. absurd (subst T e (anti w (greatest n test) (omega arith) (greatest-found t).passes))) in
          e ∙ sym (lt-leb w (greatest n test) above)

-- a number is g where it is at most g while the next is not
pub last-upto : (m g : ℕ) → leb m g && not (leb (suc m) g) ≡ eqb m g
last-upto m g =
    by_cases (dec_lt m g)
    (λ l. rw (le-leb m g (omega arith), le-leb (suc m) g (omega arith), ne_eqb m g (λ e. omega arith)))
    (λ l.
    rw (lt-leb (suc m) g (omega arith))
    (by_cases (dec_lt g m) (λ k. rw (lt-leb m g k, ne_eqb m g (λ e. omega arith))) (λ k. rw (le-leb m g (omega arith), eq-eqb m g (omega arith)))))

-- the square of w, times a, is at most b
abbrev pub square_fits : ℕ → ℕ → ℕ → Bool
square_fits a b w = leb (w * w * a) b

pub square-antitone : (a b : ℕ) → Antitone (square_fits a b)
square-antitone a b v w h t =
    le→leb (v * v * a) b (le_trans (mul-le-mul_right a (mul-le-mul h h)) (leb→le (w * w * a) b t))
