-- Step 3: the digits of a, and the sums: each is what it adds less what it takes away, and is not negative; those of both signs add up to
-- twice the terms without s. Assumes nothing.
use mathlib.Core.Path.{◌≡◌, ap, ◌∙◌}
use mathlib.Core.Bool.{Bool, true, false, cond}
use mathlib.Core.List.{[]}
use Prim.Native.Nat.{ℕ, ◌+◌, ◌*◌, ◌-◌, ◌/◌, ◌^◌, ◌≤◌, ◌<◌, zero-le}
use native.Mathlib.Nat.{mul-div-le, lt-mul-div-succ, div-add-mod', mod-lt}
use native.Mathlib.Omega.{arith}
use lib.IntN.{pos, nat_abs, sub_ℕ, ◌+ℤ◌, ◌*ℤ◌}
use lib.Signed.{◌≤ℤ◌, le_z_yes}
use lib.Dec.{le→leb}
use lib.Pow.{pow_pos, pow_mono, shr_lt, shr-shr}
use Rattle.kinds.specs.declared.Op.{Op}
use Rattle.kinds.specs.declared.Op.TheVariants.{Reciprocal, Root, InverseRoot}
use Rattle.numbers.proofs.Differences.{diff-le, diff-eq, diff-pos, neg-pos, diff-add, diff-sub, diff-more, diff-less, more-diff, less-diff, diff-times, pos-less}
use Rattle.numbers.proofs.Ring.{#, ◌⊕◌, ◌⊗◌, ev}
use Rattle.significand.specs.Steps.{digit2, digit3, digit4, carry_of, unit, sum_over, sum_of, divisor_of, series_of}
use Rattle.significand.specs.Printed.{Sums, unsigned_over}
use Rattle.significand.proofs.Series.{Point, env, q, w, n, gains, losses, divisor, rise, fall, Digits, Summed, Passes, by-tops}
use Rattle.significand.proofs.Scale.{radix-big, whole_is}
use Rattle.significand.proofs.Reduction.{scaled_of}

-- what step 3 works out from a number a of three digits and its sign
abbrev pub point_of : ℕ → Op → Bool → ℕ → Point
point_of k op sign a =
    record {
      Z = 2 ^ k;
      a2 = digit2 k a;
      a3 = digit3 k a;
      a4 = digit4 k a;
      h = carry_of k (digit2 k a);
      b = series_of k op sign a;
      W = scaled_of sign (2 ^ (4 * k)) a;
      S = nat_abs (sum_of k op (unit sign) a);
    }

-- a is its three digits
module _ (k a : ℕ) where
  pub digits_are : a ≡ digit2 k a * 2 ^ k * 2 ^ k + digit3 k a * 2 ^ k + digit4 k a
  digits_are =
      let top : a / 2 ^ k / 2 ^ k ≡ a / 2 ^ (2 * k) = shr-shr a k k ∙ ap (λ (e : ℕ). a / 2 ^ e) (omega arith) in
      let upper : a / 2 ^ k ≡ digit2 k a * 2 ^ k + digit3 k a =
      omega (arith, div-add-mod' (a / 2 ^ k) (2 ^ k), ap (λ (m : ℕ). m * 2 ^ k) top) in
      omega (arith, div-add-mod' a (2 ^ k), ap (λ (m : ℕ). m * 2 ^ k) upper)

  three : k + 2 * k ≡ 3 * k
  three = omega arith

  pub digits-below : 7 ≤ k → a < 2 ^ (3 * k) → (op : Op) (sign : Bool) → Digits (point_of k op sign a)
  digits-below h below op sign =
      record {
        big = radix-big k h;
        below2 = shr_lt k (2 * k) (omega (arith, below, ap (λ (e : ℕ). 2 ^ e) three));
        below3 = mod-lt (a / 2 ^ k) (pow_pos k);
        below4 = mod-lt a (pow_pos k);
        carry-low = mul-div-le (digit2 k a * digit2 k a) (2 ^ k);
        carry-high = omega (arith, lt-mul-div-succ (digit2 k a * digit2 k a) (pow_pos k));
      }

-- s times a number
pub times-unit : (positive : Bool) (n : ℕ) → unit positive *ℤ pos n ≡ sub_ℕ (cond positive n 0) (cond positive 0 n)
times-unit true n = diff-pos (1 * n) ∙ diff-eq (1 * n) 0 n 0 (omega arith)
times-unit false n = neg-pos (1 * n) ∙ diff-eq 0 (1 * n) 0 n (omega arith)

zero-least : (n : ℕ) → pos 0 ≤ℤ pos n
zero-least n = le_z_yes (le→leb 0 n zero-le)

-- each sum as the difference of what it adds and what it takes away
module _ (k a a2 a3 h : ℕ) where
  module _ (sign : Bool) where
    abbrev up : ℕ → ℕ
    up n = cond sign n 0

    abbrev down : ℕ → ℕ
    down n = cond sign 0 n

    unfoldable pub added : Op → ℕ
    added Reciprocal = 2 ^ k * (2 ^ (4 * k) + down a + a2 * a2) + 2 * a2 * a3 + down (h * a2)
    added Root = 16 * 2 ^ k * 2 ^ (4 * k) + 8 * 2 ^ k * up a + up (h * a2)
    added InverseRoot = 16 * 2 ^ k * 2 ^ (4 * k) + 8 * 2 ^ k * down a + 6 * 2 ^ k * a2 * a2 + 12 * a2 * a3 + 5 * down (h * a2)

    unfoldable pub taken : Op → ℕ
    taken Reciprocal = 2 ^ k * up a + up (h * a2)
    taken Root = 8 * 2 ^ k * down a + 2 * 2 ^ k * a2 * a2 + 4 * a2 * a3 + down (h * a2)
    taken InverseRoot = 8 * 2 ^ k * up a + 5 * up (h * a2)

    pub difference : (op : Op) → sum_over k op (unit sign) a a2 a3 h ≡ sub_ℕ (added op) (taken op)
    unfolding added taken
    difference Reciprocal = rw (times-unit sign a, times-unit sign (h * a2), less-diff, diff-more, diff-times, diff-more, diff-sub)
    difference Root = rw (times-unit sign a, times-unit sign (h * a2), diff-times, more-diff, diff-less, diff-less, diff-add)
    difference InverseRoot =
        rw (times-unit sign a, times-unit sign (h * a2), diff-times (8 * 2 ^ k), diff-times 5, less-diff, diff-more, diff-more, diff-sub)

-- what a sum takes away is no more than what it adds
covered : (op : Op) (sign : Bool) → Passes (# 1) [] (losses op sign) (gains op sign)
covered Reciprocal true = tt
covered Reciprocal false = tt
covered Root true = tt
covered Root false = tt
covered InverseRoot true = tt
covered InverseRoot false = tt

module _ (k a a2 a3 a4 h b W S : ℕ) where
  abbrev P : Point
  P = record { Z = 2 ^ k; a2 = a2; a3 = a3; a4 = a4; h = h; b = b; W = W; S = S }

  module _ (D : Digits P) (is : a ≡ a2 * 2 ^ k * 2 ^ k + a3 * 2 ^ k + a4) where
    fits : (op : Op) (sign : Bool) → ev (env P) (losses op sign) ≤ ev (env P) (gains op sign)
    fits op sign = by-tops P D (# 1) [] (losses op sign) (gains op sign) (covered op sign) (omega arith) tt

    -- Z a and Z N
    scaled-a : 2 ^ k * a ≡ 2 ^ k * (a2 * 2 ^ k * 2 ^ k + a3 * 2 ^ k + a4)
    scaled-a = ap (λ (m : ℕ). 2 ^ k * m) is

    scaled-n : 2 ^ k * 2 ^ (4 * k) ≡ 2 ^ k * (2 ^ k * 2 ^ k * 2 ^ k * 2 ^ k)
    scaled-n = ap (λ (m : ℕ). 2 ^ k * m) (whole_is k)

    -- it adds and takes away what the polynomials say
    balanced : (op : Op) (sign : Bool)
        → added k a a2 a3 h sign op + ev (env P) (losses op sign) ≡ ev (env P) (gains op sign) + taken k a a2 a3 h sign op
    unfolding added taken
    balanced Reciprocal true = omega (arith, scaled-a, scaled-n)
    balanced Reciprocal false = omega (arith, scaled-a, scaled-n)
    balanced Root true = omega (arith, scaled-a, scaled-n)
    balanced Root false = omega (arith, scaled-a, scaled-n)
    balanced InverseRoot true = omega (arith, scaled-a, scaled-n)
    balanced InverseRoot false = omega (arith, scaled-a, scaled-n)

    whole_sum : (op : Op) (sign : Bool) → sum_over k op (unit sign) a a2 a3 h ≡ pos (ev (env P) (gains op sign) - ev (env P) (losses op sign))
    whole_sum op sign =
        difference k a a2 a3 h sign op
        ∙ diff-eq (added k a a2 a3 h sign op) (taken k a a2 a3 h sign op) (ev (env P) (gains op sign)) (ev (env P) (losses op sign)) (balanced op sign)
        ∙ diff-le (ev (env P) (gains op sign)) (ev (env P) (losses op sign)) (fits op sign)

-- the terms without s, as such a difference, and the sums of both signs
module _ (k a2 a3 : ℕ) where
  kept : Op → ℕ
  kept Reciprocal = 2 ^ k * (2 ^ (4 * k) + a2 * a2) + 2 * a2 * a3
  kept Root = 16 * 2 ^ k * 2 ^ (4 * k)
  kept InverseRoot = 16 * 2 ^ k * 2 ^ (4 * k) + 6 * 2 ^ k * a2 * a2 + 12 * a2 * a3

  left_out : Op → ℕ
  left_out Reciprocal = 0
  left_out Root = 2 * 2 ^ k * a2 * a2 + 4 * a2 * a3
  left_out InverseRoot = 0

  unsigned-difference : (op : Op) → unsigned_over k op a2 a3 ≡ sub_ℕ (kept op) (left_out op)
  unfolding kept left_out
  unsigned-difference Reciprocal = diff-pos (kept Reciprocal)
  unsigned-difference Root = rw (pos-less, diff-less)
  unsigned-difference InverseRoot = diff-pos (kept InverseRoot)

  module _ (a h : ℕ) where
    twice : (op : Op)
        → added k a a2 a3 h true op + added k a a2 a3 h false op + 2 * left_out op
        ≡ 2 * kept op + (taken k a a2 a3 h true op + taken k a a2 a3 h false op)
    unfolding added taken kept left_out
    twice Reciprocal = omega arith
    twice Root = omega arith
    twice InverseRoot = omega arith

    both : (op : Op) → sum_over k op (unit true) a a2 a3 h +ℤ sum_over k op (unit false) a a2 a3 h ≡ pos 2 *ℤ unsigned_over k op a2 a3
    both op =
        rw (difference k a a2 a3 h true op, difference k a a2 a3 h false op, diff-add, unsigned-difference, diff-times)
        (diff-eq _ _ (2 * kept op) (2 * left_out op) (twice op))

-- b is the sum over its divisor, floored
module _ (k a2 a3 a4 h W S : ℕ) where
  abbrev at : Op → Point
  at op = record { Z = 2 ^ k; a2 = a2; a3 = a3; a4 = a4; h = h; b = S / divisor_of k op; W = W; S = S }

  floor-low : (op : Op) → ev (env (at op)) (divisor op ⊗ q) ≤ S
  floor-low Reciprocal = mul-div-le S (2 ^ k)
  floor-low Root = mul-div-le S (16 * 2 ^ k)
  floor-low InverseRoot = mul-div-le S (16 * 2 ^ k)

  floor-high : (op : Op) → S < ev (env (at op)) (divisor op ⊗ q ⊕ divisor op)
  floor-high Reciprocal = omega (arith, lt-mul-div-succ S {b = 2 ^ k} (pow_pos k))
  floor-high Root = omega (arith, lt-mul-div-succ S {b = 16 * 2 ^ k} (omega (arith, pow_pos k)))
  floor-high InverseRoot = omega (arith, lt-mul-div-succ S {b = 16 * 2 ^ k} (omega (arith, pow_pos k)))

module _ (k a : ℕ) (h : 7 ≤ k) (below : a < 2 ^ (3 * k)) (op : Op) where
  module _ (sign : Bool) where
    abbrev Q : Point
    Q = point_of k op sign a

    -- what a sum takes away is no more than what it adds, and the sum is the rest
    fit : ev (env Q) (losses op sign) ≤ ev (env Q) (gains op sign)
    fit =
        fits k a (digit2 k a) (digit3 k a) (digit4 k a) (carry_of k (digit2 k a)) Q.b Q.W Q.S (digits-below k a h below op sign) (digits_are k a) op
        sign

    rest : sum_of k op (unit sign) a ≡ pos (ev (env Q) (gains op sign) - ev (env Q) (losses op sign))
    unfolding sum_of
    rest =
        whole_sum k a (digit2 k a) (digit3 k a) (digit4 k a) (carry_of k (digit2 k a)) Q.b Q.W Q.S (digits-below k a h below op sign)
        (digits_are k a) op sign

    -- so it is not negative
    not_negative : pos 0 ≤ℤ sum_of k op (unit sign) a
    not_negative = rw rest (zero-least (ev (env Q) (gains op sign) - ev (env Q) (losses op sign)))

    uncut : nat_abs (sum_of k op (unit sign) a) + ev (env Q) (losses op sign) ≡ ev (env Q) (gains op sign)
    uncut = omega (arith, ap nat_abs rest, fit)

  -- what is promised of the sums
  pub sums : Sums k op a
  unfolding sum_of
  sums = record { not_negative = not_negative; both-signs = both k (digit2 k a) (digit3 k a) a (carry_of k (digit2 k a)) op }

  -- W is N + a or N − a − 1
  scaled-is : (sign : Bool) → let P : Point = point_of k op sign a in ev (env P) (w ⊕ fall sign) ≡ ev (env P) (n ⊕ rise sign)
  scaled-is true = omega (arith, digits_are k a, whole_is k)
  scaled-is false = omega (arith, digits_are k a, whole_is k, pow_mono {i = 3 * k} {j = 4 * k} (omega arith))

  pub summed : (sign : Bool) → Summed op sign (point_of k op sign a)
  summed sign =
      let W : ℕ = scaled_of sign (2 ^ (4 * k)) a in
      let S : ℕ = nat_abs (sum_of k op (unit sign) a) in
      record {
        digits = digits-below k a h below op sign;
        sum = uncut sign;
        floor-low = floor-low k (digit2 k a) (digit3 k a) (digit4 k a) (carry_of k (digit2 k a)) W S op;
        floor-high = floor-high k (digit2 k a) (digit3 k a) (digit4 k a) (carry_of k (digit2 k a)) W S op;
        at = scaled-is sign;
      }
