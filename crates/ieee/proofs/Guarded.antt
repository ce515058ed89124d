-- A floor with a guard bit gives the pattern below the exact result, and the place of the exact result above it. Assumes nothing.
use mathlib.Core.Path.{◌≡◌, refl, sym, ap, subst, ◌∙◌}
use mathlib.Core.Bool.{Bool, true, false, true≢false, not, ◌||◌, or-true, or-false}
use mathlib.Core.Logic.{◌⊎◌, inl, inr, by_cases}
use Prim.Native.Nat.{ℕ, suc, ◌+◌, ◌*◌, ◌-◌, ◌/◌, ◌%◌, ◌^◌, ◌≤◌, ◌<◌, min}
use native.Mathlib.Nat.{pow-suc, pow-zero, one-le-pow, le_trans, le_of_lt, lt_of_lt_of_le, mul-le-mul_right, mul-lt-mul_of_pos_right, le_of_mul-le-mul_left, lt_of_mul-lt-mul_left, eq_of_mul-eq-mul_left, mul-le-mul_left, lt-div-mul-add, div-mul-le_self, div-one}
use native.Mathlib.Decide.{dec_lt}
use native.Mathlib.Omega.{arith}
use borrow.Author.Tests.{le-leb, lt-leb, eq-eqb, ne_eqb, eqb-true, eqb-false, not-true, not-false}
use lib.Dec.{eqb}
use lib.Pow.{pow_pos, shr_le}
use Rattle.kinds.specs.declared.Op.{Op}
use Rattle.kinds.specs.declared.Op.TheVariants.{Reciprocal, Root, InverseRoot}
use Rattle.kinds.specs.Rounding.{exact, below, half, above, place_by}
use Rattle.kinds.specs.Guard.{place_of}
use Rattle.kinds.proofs.Places.{says-place}
use Rattle.numbers.proofs.Powers.{power-of-four}
use Rattle.ieee.specs.Format.{Format, unit_of, infinity, magnitude_of}
use Rattle.ieee.specs.Rounded.{side, limit, twice, fits, lower_of, place_at}
use Rattle.ieee.specs.Guarded.{Guarded, kept, floor_pattern, guard_bit, sticky_bit, is_beyond, Below}
use Rattle.ieee.proofs.Neighbours.{magnitude-at, rising, rising≤, side-rising, side-rising<, lower-is, side-double}

-- a power of two times the number takes the side as often as the limit is taken
lifted : (op : Op) (x w a b : ℕ) → twice op ^ w * side op x (a * b) ≡ side op x (a * 2 ^ w * b)
lifted Reciprocal x w a b = omega arith
lifted Root x w a b = rw (power-of-four w) (omega arith)
lifted InverseRoot x w a b = rw (power-of-four w) (omega arith)

taken-pos : (op : Op) (w : ℕ) → 0 < twice op ^ w
taken-pos Reciprocal w = pow_pos w
taken-pos Root w = one-le-pow w 4 (omega arith)
taken-pos InverseRoot w = one-le-pow w 4 (omega arith)

module _ (f : Format) (op : Op) (x q : ℕ) (more : Bool) (k : ℕ) (pos : 0 < x) (g : Guarded f op x q more k) where
  -- a number of the last places, against the limit of the exact result times 2^(3 − k − w)
  module _ (w l : ℕ) (e : twice op ^ w * l ≡ twice op ^ suc (2 - k) * limit (unit_of f) op x) (a : ℕ) where
    under : a * 2 ^ w ≤ q → side op x (a * 2 ^ (k - 2)) ≤ l
    under h =
        le_of_mul-le-mul_left {k = twice op ^ w}
        (rw (e, lifted op x w a (2 ^ (k - 2))) (le_trans (side-rising op x (mul-le-mul_right (2 ^ (k - 2)) h)) g.low))
        (taken-pos op w)

    over : q < a * 2 ^ w → l < side op x (a * 2 ^ (k - 2))
    over h =
        lt_of_mul-lt-mul_left (twice op ^ w)
        (rw (e, lifted op x w a (2 ^ (k - 2))) (lt_of_lt_of_le g.high (side-rising op x (mul-le-mul_right (2 ^ (k - 2)) h))))

    -- where it is q itself, `more` tells whether the limit is met
    same : a * 2 ^ w ≡ q → more ≡ false → side op x (a * 2 ^ (k - 2)) ≡ l
    same h m =
        eq_of_mul-eq-mul_left (twice op ^ w) (taken-pos op w) (side op x (a * 2 ^ (k - 2))) l
        (lifted op x w a (2 ^ (k - 2)) ∙ ap (λ (n : ℕ). side op x (n * 2 ^ (k - 2))) h
        ∙ eqb-true (side op x (q * 2 ^ (k - 2))) (twice op ^ suc (2 - k) * limit (unit_of f) op x)
        (not-false (eqb (side op x (q * 2 ^ (k - 2))) (twice op ^ suc (2 - k) * limit (unit_of f) op x)) (sym g.rest ∙ m))
        ∙ sym e)

    strictly : a * 2 ^ w < q → side op x (a * 2 ^ (k - 2)) < l
    strictly h =
        lt_of_mul-lt-mul_left (twice op ^ w)
        (rw (e, lifted op x w a (2 ^ (k - 2)))
        (lt_of_lt_of_le (side-rising< op x pos (mul-lt-mul_of_pos_right h (pow_pos (k - 2)))) g.low))

    not_same : a * 2 ^ w ≡ q → more ≡ true → side op x (a * 2 ^ (k - 2)) ≡ l → ⊥
    not_same h m s =
        eqb-false (side op x (q * 2 ^ (k - 2))) (twice op ^ suc (2 - k) * limit (unit_of f) op x)
        (not-true (eqb (side op x (q * 2 ^ (k - 2))) (twice op ^ suc (2 - k) * limit (unit_of f) op x)) (sym g.rest ∙ m))
        (ap (λ (n : ℕ). side op x (n * 2 ^ (k - 2))) (sym h) ∙ sym (lifted op x w a (2 ^ (k - 2))) ∙ ap (λ (n : ℕ). twice op ^ w * n) s ∙ e)

    less : a * 2 ^ w ≤ q → (a * 2 ^ w ≡ q → more ≡ true) → side op x (a * 2 ^ (k - 2)) < l
    less h m =
        by_cases (dec_lt (a * 2 ^ w) q) strictly
        (λ n. let s : a * 2 ^ w ≡ q = omega arith in
        by_cases (dec_lt (side op x (a * 2 ^ (k - 2))) l) (λ p. p) (λ p. absurd (not_same s (m s) (omega (arith, under h)))))

  -- the level of the midpoint
  half-level : twice op ^ (2 - k) * (twice op * limit (unit_of f) op x) ≡ twice op ^ suc (2 - k) * limit (unit_of f) op x
  half-level = rw (pow-suc (twice op) (2 - k)) (omega arith)

  -- the significand of the pattern
  n : ℕ
  n = kept k q / 2

  halved : n * 2 ^ suc (2 - k) ≡ 2 * n * 2 ^ (2 - k)
  halved = rw (pow-suc 2 (2 - k)) (omega arith)

  kept_low : kept k q * 2 ^ (2 - k) ≤ q
  kept_low = div-mul-le_self q (2 ^ (2 - k))

  kept_high : q < kept k q * 2 ^ (2 - k) + 2 ^ (2 - k)
  kept_high = lt-div-mul-add (pow_pos (2 - k))

  even_is : guard_bit k q ≡ false → kept k q ≡ 2 * n
  unfolding n
  even_is e = let h = eqb-false (kept k q % 2) 1 e in by_cases (dec_lt (kept k q % 2) 1) (λ l. omega arith) (λ l. absurd (h (omega arith)))

  odd_is : guard_bit k q ≡ true → kept k q ≡ 2 * n + 1
  unfolding n
  odd_is e = omega (arith, eqb-true (kept k q % 2) 1 e)

  -- without a sticky bit q is what was kept, and nothing lies above it; with one, something does
  not-sticky : sticky_bit k q more ≡ false → (kept k q * 2 ^ (2 - k) ≡ q) × (more ≡ false)
  not-sticky e = go more e
    where
      go : (b : Bool) → b || not (eqb (kept k q * 2 ^ (2 - k)) q) ≡ false → (kept k q * 2 ^ (2 - k) ≡ q) × (b ≡ false)
      go false p = (eqb-true (kept k q * 2 ^ (2 - k)) q (not-false (eqb (kept k q * 2 ^ (2 - k)) q) p), refl)
      go true p = absurd (true≢false p)

  sticky : sticky_bit k q more ≡ true → kept k q * 2 ^ (2 - k) ≡ q → more ≡ true
  sticky e s = go more e
    where
      go : (b : Bool) → b || not (eqb (kept k q * 2 ^ (2 - k)) q) ≡ true → b ≡ true
      go false p = absurd (eqb-false (kept k q * 2 ^ (2 - k)) q (not-true (eqb (kept k q * 2 ^ (2 - k)) q) p) s)
      go true p = refl

  odd-under : guard_bit k q ≡ true → n * 2 ^ suc (2 - k) < q
  odd-under p = omega (arith, halved, kept_low, ap (λ (v : ℕ). v * 2 ^ (2 - k)) (odd_is p), pow_pos (2 - k))

  place_is : (h s : Bool) → guard_bit k q ≡ h → sticky_bit k q more ≡ s
      → place_by (side op x (n * 2 ^ (k - 2))) (limit (unit_of f) op x)
      (side op x ((2 * n + 1) * 2 ^ (k - 2))) (twice op * limit (unit_of f) op x)
      ≡ place_of h s
  place_is false false p r =
      let s = not-sticky r in
      says-place _ _ _ _ exact (same (suc (2 - k)) (limit (unit_of f) op x) refl n (halved ∙ rw (← even_is p) s.0) s.1)
  place_is false true p r =
      says-place _ _ _ _ below (
        less (suc (2 - k)) (limit (unit_of f) op x) refl n (rw (halved, ← even_is p) kept_low)
            (λ e. sticky r (rw (even_is p) (sym halved ∙ e))),
        over (2 - k) (twice op * limit (unit_of f) op x) half-level (2 * n + 1) (rw (← even_is p) (omega (arith, kept_high))),
      )
  place_is true false p r =
      let s = not-sticky r in
      says-place _ _ _ _ half (
        strictly (suc (2 - k)) (limit (unit_of f) op x) refl n (odd-under p),
        same (2 - k) (twice op * limit (unit_of f) op x) half-level (2 * n + 1) (rw (← odd_is p) s.0) s.1,
      )
  place_is true true p r =
      says-place _ _ _ _ above (
        strictly (suc (2 - k)) (limit (unit_of f) op x) refl n (odd-under p),
        less (2 - k) (twice op * limit (unit_of f) op x) half-level (2 * n + 1) (rw (← odd_is p) kept_low) (λ e. sticky r (rw (odd_is p) e)),
      )

  -- the pattern is at or below the exact result, and the next significand above it
  n-bounds : (2 * n ≤ kept k q) × (kept k q ≤ 2 * n + 1)
  unfolding n
  n-bounds = omega arith

  reached : side op x (n * 2 ^ (k - 2)) ≤ limit (unit_of f) op x
  reached =
      under (suc (2 - k)) (limit (unit_of f) op x) refl n
      (omega (arith, halved, kept_low, mul-le-mul_right (2 ^ (2 - k)) n-bounds.0))

  passed : limit (unit_of f) op x < side op x (suc n * 2 ^ (k - 2))
  passed =
      over (suc (2 - k)) (limit (unit_of f) op x) refl (suc n)
      (omega (arith, halved, pow-suc 2 (2 - k), kept_high, mul-le-mul_right (2 ^ (2 - k)) n-bounds.1))

  -- the pattern
  t : ℕ
  t = floor_pattern f k q

  n-most : n ≤ 2 ^ suc f.fraction_bits
  unfolding n
  n-most = omega (arith, shr_le q (2 - k), g.most, pow-suc 2 (suc f.fraction_bits))

  n-least : (k - 2 ≡ 0) ⊎ (2 ^ f.fraction_bits ≤ n)
  unfolding n
  n-least =
      by_cases (dec_lt 2 k)
      (λ l. let e : 2 - k ≡ 0 = omega arith in inr (rw (e, pow-zero 2, div-one) (omega (arith, g.least, pow-suc 2 f.fraction_bits))))
      (λ l. inl (omega arith))

  magnitude-is : magnitude_of f t ≡ n * 2 ^ (k - 2)
  unfolding n t
  magnitude-is = magnitude-at f (k - 2) n n-least n-most

  next-least : (k - 2 ≡ 0) ⊎ (2 ^ f.fraction_bits ≤ suc n)
  next-least = go n-least
    where
      go : (k - 2 ≡ 0) ⊎ (2 ^ f.fraction_bits ≤ n) → (k - 2 ≡ 0) ⊎ (2 ^ f.fraction_bits ≤ suc n)
      go (inl e) = inl e
      go (inr h) = inr (omega arith)

  next-is : n < 2 ^ suc f.fraction_bits → magnitude_of f (suc t) ≡ suc n * 2 ^ (k - 2)
  unfolding n t
  next-is h = ap (magnitude_of f) (omega arith) ∙ magnitude-at f (k - 2) (suc n) next-least h

  -- the top of the significands is reached by an exact result alone
  top_kept : (n < 2 ^ suc f.fraction_bits → ⊥) → (q ≡ 2 ^ suc (suc f.fraction_bits)) × (kept k q * 2 ^ (2 - k) ≡ q) × (kept k q ≡ 2 * n)
  top_kept h =
      let l : 2 ^ suc f.fraction_bits ≤ n = by_cases (dec_lt n (2 ^ suc f.fraction_bits)) (λ b. absurd (h b)) (λ b. omega arith) in
      let m = mul-le-mul_left (kept k q) (pow_pos (2 - k)) in
      let b = n-bounds in
      omega (arith, l, m, b, kept_low, g.most, pow-suc 2 (suc f.fraction_bits))

  top-guard : (n < 2 ^ suc f.fraction_bits → ⊥) → guard_bit k q ≡ false
  top-guard h = let e = top_kept h in ne_eqb (kept k q % 2) 1 (λ p. omega arith)

  top-sticky : (n < 2 ^ suc f.fraction_bits → ⊥) → sticky_bit k q more ≡ false
  top-sticky h = let e = top_kept h in rw (g.top e.0, eq-eqb (kept k q * 2 ^ (2 - k)) q e.1)

  top-meets : (n < 2 ^ suc f.fraction_bits → ⊥) → side op x (n * 2 ^ (k - 2)) ≡ limit (unit_of f) op x
  top-meets h =
      let e = top_kept h in
      same (suc (2 - k)) (limit (unit_of f) op x) refl n (halved ∙ rw (← e.2) e.1) (g.top e.0)

  -- so the next pattern is above the exact result
  passed-next : limit (unit_of f) op x < side op x (magnitude_of f (suc t))
  passed-next =
      by_cases (dec_lt n (2 ^ suc f.fraction_bits)) (λ h. rw (next-is h) passed)
      (λ h. subst (λ (l : ℕ). l < side op x (magnitude_of f (suc t))) (ap (side op x) magnitude-is ∙ top-meets h)
      (side-rising< op x pos (rising f {s = t} {t = suc t} (omega arith))))

  reached-this : side op x (magnitude_of f t) ≤ limit (unit_of f) op x
  reached-this = rw magnitude-is reached

  -- where the pattern is finite, it is the lower neighbour,
  within-lower : t < infinity f → lower_of f op x ≡ t
  within-lower h = lower-is f op x t (record { finite = h; reached = reached-this; passed = λ _. passed-next })

  -- and the two bits say the place
  within-place : place_at f op x t ≡ place_of (guard_bit k q) (sticky_bit k q more)
  unfolding place_at
  within-place =
      by_cases (dec_lt n (2 ^ suc f.fraction_bits))
      (λ h.
      let sum : n * 2 ^ (k - 2) + suc n * 2 ^ (k - 2) ≡ (2 * n + 1) * 2 ^ (k - 2) = omega arith in
      rw (magnitude-is, next-is h, sum) (place_is (guard_bit k q) (sticky_bit k q more) refl refl))
      (λ h. rw (top-guard h, top-sticky h) (says-place _ _ _ _ exact (ap (side op x) magnitude-is ∙ top-meets h)))

  -- where it is not, infinity's number is reached,
  module _ (some : 0 < infinity f) (h : infinity f ≤ t) where
    suc-last : suc (infinity f - 1) ≡ infinity f
    suc-last = omega arith

    reached-infinity : side op x (magnitude_of f (infinity f)) ≤ limit (unit_of f) op x
    reached-infinity = le_trans (side-rising op x (rising≤ f h)) reached-this

    last-rising : magnitude_of f (infinity f - 1) < magnitude_of f (infinity f)
    last-rising = rising f {s = infinity f - 1} {t = infinity f} (omega arith)

    -- the lower neighbour is the largest finite number,
    beyond-lower : lower_of f op x ≡ infinity f - 1
    beyond-lower =
        lower-is f op x (infinity f - 1)
        (record {
          finite = omega arith;
          reached = le_trans (side-rising op x (le_of_lt last-rising)) reached-infinity;
          passed = λ l. omega arith;
        })

    -- and the exact result is above the midpoint to infinity's number
    beyond-place : place_at f op x (infinity f - 1) ≡ above
    unfolding place_at
    beyond-place =
        rw suc-last
        (says-place _ _ _ _ above (
          lt_of_lt_of_le (side-rising< op x pos last-rising) reached-infinity,
          lt_of_lt_of_le
              (side-rising< op x {v = magnitude_of f (infinity f - 1) + magnitude_of f (infinity f)} {w = 2 * magnitude_of f (infinity f)} pos (omega (arith, last-rising)))
              (subst (λ (l : ℕ). l ≤ twice op * limit (unit_of f) op x) (sym (side-double op x (magnitude_of f (infinity f))))
              (mul-le-mul_left (twice op) reached-infinity)),
        ))

  -- the law: a floor with a guard bit gives the pattern below the exact result, its place, and whether infinity's number is reached
  pub guarded-below : 0 < infinity f
      → Below f op x (min (floor_pattern f k q) (infinity f - 1)) (guard_bit k q || is_beyond f k q) (sticky_bit k q more || is_beyond f k q) (is_beyond f k q)
  unfolding t fits
  guarded-below some =
      by_cases (dec_lt t (infinity f))
      (λ h.
      let b : is_beyond f k q ≡ false = lt-leb (infinity f) t h in
      let m : min (floor_pattern f k q) (infinity f - 1) ≡ t = omega arith in
      rw (b, m, or-false (guard_bit k q), or-false (sticky_bit k q more))
      (record {
        finite = h;
        lower = within-lower h;
        place = within-place;
        reaches = lt-leb (side op x (magnitude_of f (infinity f))) (limit (unit_of f) op x) (lt_of_lt_of_le passed-next (side-rising op x (rising≤ f h)));
      }))
      (λ h.
      let l : infinity f ≤ t = omega arith in
      let b : is_beyond f k q ≡ true = le-leb (infinity f) t l in
      let m : min (floor_pattern f k q) (infinity f - 1) ≡ infinity f - 1 = omega arith in
      rw (b, m, or-true (guard_bit k q), or-true (sticky_bit k q more))
      (record {
        finite = omega arith;
        lower = beyond-lower some l;
        place = beyond-place some l;
        reaches = le-leb (side op x (magnitude_of f (infinity f))) (limit (unit_of f) op x) (reached-infinity some l);
      }))
