-- The magnitudes of a format's patterns rise with the pattern; and what makes a pattern the lower neighbour of an exact result.
-- Assumes nothing.
use mathlib.Core.Path.{◌≡◌, refl, sym, ap, ap₂, ◌∙◌}
use mathlib.Core.Bool.{Bool, ◌&&◌}
use mathlib.Core.Logic.{◌⊎◌, inl, inr, by_cases}
use Prim.Native.Nat.{ℕ, zero, suc, ◌+◌, ◌*◌, ◌-◌, ◌/◌, ◌%◌, ◌^◌, ◌≤◌, ◌<◌, zero-le}
use native.Mathlib.Nat.{pow-zero, pow-succ', mod-lt, mul-lt-mul_of_pos_left, mul-lt-mul_of_pos_right, mul-pos, mul-le-mul, mul-le-mul_left, mul-le-mul_right, le_trans}
use native.Mathlib.Decide.{dec_lt, le_ind}
use native.Mathlib.Omega.{arith}
use mir.Facts.{and_yes, yes_and}
use lib.Dec.{T, ltb, ltb→lt, lt→ltb, leb→le, le→leb}
use lib.Pow.{pow_pos, pow-add, pow_mono, high, low, split, ones_lt}
use Rattle.kinds.specs.declared.Op.{Op}
use Rattle.kinds.specs.declared.Op.TheVariants.{Reciprocal, Root, InverseRoot}
use Rattle.numbers.proofs.Greatest.{Antitone, greatest-found, greatest-is}
use Rattle.numbers.proofs.Squares.{square-rising}
use Rattle.ieee.specs.Format.{Format, unit_of, sign_bit, infinity, scaled, magnitude_of}
use Rattle.ieee.specs.Rounded.{side, limit, twice, fits, lower_of}

module _ (f : Format) where
  -- the magnitude of the exponent field e and the fraction x
  pub magnitude-fields : (e x : ℕ) → x < 2 ^ f.fraction_bits → magnitude_of f (e * 2 ^ f.fraction_bits + x) ≡ scaled f.fraction_bits e x
  unfolding magnitude_of
  magnitude-fields e x h = ap₂ (scaled f.fraction_bits) (high e f.fraction_bits h) (low e f.fraction_bits h)

  -- a significand n from 2^m to 2^(m+1) counts under the exponent c, a carry into the exponent included
  pub magnitude-normal : (c n : ℕ) → 2 ^ f.fraction_bits ≤ n → n ≤ 2 ^ suc f.fraction_bits
      → magnitude_of f (c * 2 ^ f.fraction_bits + n) ≡ n * 2 ^ c
  magnitude-normal c n h k =
      let P = 2 ^ f.fraction_bits in
      let twice = pow-succ' 2 f.fraction_bits in
      by_cases (dec_lt n (2 * P))
      (λ l. ap (magnitude_of f) (omega arith) ∙ magnitude-fields (suc c) (n - P) (omega arith) ∙ ap (λ (s : ℕ). s * 2 ^ c) (omega arith))
      (λ l.
      let full : n ≡ P + P = omega arith in
      ap (magnitude_of f) (omega arith) ∙ magnitude-fields (suc (suc c)) 0 (pow_pos f.fraction_bits)
      ∙ rw (pow-succ' 2 c, full) (omega arith))

  -- a significand up to 2^(m+1) is the magnitude of itself as a pattern
  pub magnitude-small : (n : ℕ) → n ≤ 2 ^ suc f.fraction_bits → magnitude_of f n ≡ n
  magnitude-small n k =
      by_cases (dec_lt n (2 ^ f.fraction_bits))
      (λ l. ap (magnitude_of f) (omega arith) ∙ magnitude-fields 0 n l)
      (λ l. ap (magnitude_of f) (omega arith) ∙ magnitude-normal 0 n (omega arith) k ∙ omega (arith, pow-zero 2))

  -- both in one
  pub magnitude-at : (c n : ℕ) → (c ≡ 0) ⊎ (2 ^ f.fraction_bits ≤ n) → n ≤ 2 ^ suc f.fraction_bits
      → magnitude_of f (c * 2 ^ f.fraction_bits + n) ≡ n * 2 ^ c
  magnitude-at c n (inl z) k = rw z (ap (magnitude_of f) (omega arith) ∙ magnitude-small n k ∙ omega (arith, pow-zero 2))
  magnitude-at c n (inr h) k = magnitude-normal c n h k

  -- the next pattern has a larger magnitude: one more in the fraction, or a carry into the exponent
  rises-by-fraction : (e x : ℕ) → scaled f.fraction_bits e x < scaled f.fraction_bits e (suc x)
  rises-by-fraction zero x = omega arith
  rises-by-fraction (suc e) x = mul-lt-mul_of_pos_right (omega arith) (pow_pos e)

  rises-by-carry : (e x : ℕ) → x < 2 ^ f.fraction_bits → scaled f.fraction_bits e x < scaled f.fraction_bits (suc e) 0
  rises-by-carry zero x h = omega (arith, pow-zero 2)
  rises-by-carry (suc e) x h =
      rw (pow-succ' 2 e) (omega (arith, mul-lt-mul_of_pos_right {m = 2 ^ f.fraction_bits + x} {n = 2 ^ f.fraction_bits + 2 ^ f.fraction_bits} (omega arith) (pow_pos e)))

  rises : (t : ℕ) → magnitude_of f t < magnitude_of f (suc t)
  rises t =
      let P = 2 ^ f.fraction_bits in
      let m = f.fraction_bits in
      let h : t % P < P = mod-lt t (pow_pos m) in
      let e : t ≡ t / P * P + t % P = sym (split t m) in
      let now : magnitude_of f t ≡ scaled m (t / P) (t % P) = ap (magnitude_of f) e ∙ magnitude-fields (t / P) (t % P) h in
      by_cases (dec_lt (suc (t % P)) P)
      (λ l.
      let next : magnitude_of f (suc t) ≡ scaled m (t / P) (suc (t % P)) =
      ap (magnitude_of f) (omega arith) ∙ magnitude-fields (t / P) (suc (t % P)) l in
      rw (now, next) (rises-by-fraction (t / P) (t % P)))
      (λ l.
      let next : magnitude_of f (suc t) ≡ scaled m (suc (t / P)) 0 =
      ap (magnitude_of f) (omega arith) ∙ magnitude-fields (suc (t / P)) 0 (pow_pos m) in
      rw (now, next) (rises-by-carry (t / P) (t % P) h))

  -- a larger pattern has a larger magnitude
  pub rising : {s t : ℕ} → s < t → magnitude_of f s < magnitude_of f t
  rising {s} {t} h = le_ind (λ (n : ℕ). magnitude_of f s < magnitude_of f n) (rises s) (λ n l p. omega (arith, rises n)) t h

  pub rising≤ : {s t : ℕ} → s ≤ t → magnitude_of f s ≤ magnitude_of f t
  rising≤ {s} {t} h = le_ind (λ (n : ℕ). magnitude_of f s ≤ magnitude_of f n) (omega arith) (λ n l p. omega (arith, rises n)) t h

  -- so magnitudes order the patterns
  pub rising-back : (s t : ℕ) → magnitude_of f s < magnitude_of f t → s < t
  rising-back s t h = by_cases (dec_lt s t) (λ l. l) (λ l. omega (arith, rising≤ {s = t} {t = s} (omega arith)))

  pub magnitude-zero : magnitude_of f 0 ≡ 0
  magnitude-zero = magnitude-small 0 (omega arith)

  pub magnitude-pos : {t : ℕ} → 0 < t → 0 < magnitude_of f t
  magnitude-pos {t} h = omega (arith, rising h, magnitude-zero)

  -- infinity's pattern is below the sign's place
  pub infinity-below : infinity f < sign_bit f
  infinity-below = rw (pow-add 2 f.exponent_bits f.fraction_bits) (mul-lt-mul_of_pos_right (ones_lt f.exponent_bits) (pow_pos f.fraction_bits))

  -- and is positive where the exponent has a bit
  pub infinity-pos : 0 < f.exponent_bits → 0 < infinity f
  infinity-pos h = mul-pos (omega (arith, pow_mono h)) (pow_pos f.fraction_bits)

-- the side rises with the number
pub side-rising : (op : Op) (x : ℕ) {v w : ℕ} → v ≤ w → side op x v ≤ side op x w
side-rising Reciprocal x h = mul-le-mul_left x h
side-rising Root x h = mul-le-mul h h
side-rising InverseRoot x h = mul-le-mul_right x (mul-le-mul h h)

pub side-rising< : (op : Op) (x : ℕ) {v w : ℕ} → 0 < x → v < w → side op x v < side op x w
side-rising< Reciprocal x p h = mul-lt-mul_of_pos_left h p
side-rising< Root x p h = square-rising h
side-rising< InverseRoot x p h = mul-lt-mul_of_pos_right (square-rising h) p

pub side-zero : (op : Op) (x : ℕ) → side op x 0 ≡ 0
side-zero Reciprocal x = omega arith
side-zero Root x = refl
side-zero InverseRoot x = omega arith

-- at twice a number it is that for twice the exact result
pub side-double : (op : Op) (x v : ℕ) → side op x (2 * v) ≡ twice op * side op x v
side-double Reciprocal x v = omega arith
side-double Root x v = omega arith
side-double InverseRoot x v = omega arith

module _ (f : Format) (op : Op) (x : ℕ) where
  -- a magnitude fits where its side is at most the limit
  pub fits_le : (v : ℕ) → T (fits f op x v) → side op x v ≤ limit (unit_of f) op x
  unfolding fits
  fits_le v t = leb→le (side op x v) (limit (unit_of f) op x) t

  pub le-fits : (v : ℕ) → side op x v ≤ limit (unit_of f) op x → T (fits f op x v)
  unfolding fits
  le-fits v h = le→leb (side op x v) (limit (unit_of f) op x) h

  -- t is the lower neighbour of the exact result: finite, not above it, and the next pattern is above it or infinity
  pub record Lower (t : ℕ) : Type 0 where
    pub finite : t < infinity f
    pub reached : side op x (magnitude_of f t) ≤ limit (unit_of f) op x
    pub passed : suc t < infinity f → limit (unit_of f) op x < side op x (magnitude_of f (suc t))

  abbrev passes : ℕ → Bool
  passes t = ltb t (infinity f) && fits f op x (magnitude_of f t)

  passes-both : (t : ℕ) → T (passes t) → (t < infinity f) × (side op x (magnitude_of f t) ≤ limit (unit_of f) op x)
  passes-both t p =
      let b = and_yes (ltb t (infinity f)) (fits f op x (magnitude_of f t)) p in
      (ltb→lt t (infinity f) b.0, fits_le (magnitude_of f t) b.1)

  both-pass : (t : ℕ) → t < infinity f → side op x (magnitude_of f t) ≤ limit (unit_of f) op x → T (passes t)
  both-pass t l h = yes_and (ltb t (infinity f)) (fits f op x (magnitude_of f t)) (lt→ltb t (infinity f) l) (le-fits (magnitude_of f t) h)

  passes-antitone : Antitone passes
  passes-antitone s t h p =
      let b = passes-both t p in
      both-pass s (omega (arith, b)) (le_trans (side-rising op x (rising≤ f h)) b.1)

  -- a pattern with these three properties is what `lower_of` gives,
  pub lower-is : (t : ℕ) → Lower t → lower_of f op x ≡ t
  unfolding lower_of
  lower-is t l =
      greatest-is (f.exponent_bits + f.fraction_bits) passes passes-antitone t (both-pass t l.finite l.reached)
      (λ p. let b = passes-both (suc t) p in omega (arith, l.passed b.0, b))
      (omega (arith, l.finite, infinity-below f))

  -- and what it gives always has them
  pub lower-found : 0 < f.exponent_bits → Lower (lower_of f op x)
  unfolding lower_of
  lower-found h =
      let zero-passes = both-pass 0 (infinity-pos f h) (rw (magnitude-zero f, side-zero op x) zero-le) in
      let g = greatest-found (f.exponent_bits + f.fraction_bits) passes zero-passes in
      let b = passes-both (lower_of f op x) g.passes in
      record {
        finite = b.0;
        reached = b.1;
        passed = λ l.
            by_cases (dec_lt (limit (unit_of f) op x) (side op x (magnitude_of f (suc (lower_of f op x))))) (λ k. k)
            (λ k. absurd (g.last (omega (arith, infinity-below f)) (both-pass (suc (lower_of f op x)) l (omega arith))));
      }
