-- Signed numbers and words: a number's sign and magnitude; its word, and the word of a sum; and the word of a number near 0 with a bias.
-- Assumes nothing.
use mathlib.Core.Path.{◌≡◌, refl, sym, ap, ◌∙◌}
use mathlib.Core.Bool.{Bool, true, false}
use Prim.Native.Nat.{ℕ, zero, suc, ◌+◌, ◌-◌, ◌*◌, ◌%◌, ◌≤◌, ◌<◌}
use native.Mathlib.Omega.{arith}
use borrow.Author.Tests.{lt-ltb, le-ltb}
use lib.IntN.{ℤ, pos, negsuc, nat_abs, sub_ℕ, ◌+ℤ◌}
pub use Rattle.numbers.proofs.Differences.{either, diff-le, diff-lt, diff-eq, diff-pos, neg-pos, diff-add, diff-sub, diff-abs, abs_neg, neg-sub, abs-add, leb-same}
use Rattle.words.specs.Signed.{signed, word_of, with_sign, is_negative}
use Rattle.words.specs.Parts.{parts_of}
use Rattle.words.specs.declared.Signed.{Signed}

-- ---- sign and magnitude

pub parts-pos : (n : ℕ) → record { negative = false; magnitude = n } ≡ parts_of (pos n)
unfolding parts_of
parts-pos n = refl

pub magnitude-is : (s : Signed) (z : ℤ) → s ≡ parts_of z → s.magnitude ≡ nat_abs z
unfolding parts_of
magnitude-is s z e = cc

pub negative-is : (s : Signed) (z : ℤ) → s ≡ parts_of z → s.negative ≡ is_negative z
unfolding parts_of
negative-is s z e = cc

-- and the number again
pub sign-back : (s : Signed) (z : ℤ) → s ≡ parts_of z → with_sign s.negative s.magnitude ≡ z
unfolding parts_of with_sign
sign-back s z e = ap (λ (s : Signed). with_sign s.negative s.magnitude) e ∙ go z
  where
    go : (z : ℤ) → with_sign (is_negative z) (nat_abs z) ≡ z
    go (pos n) = refl
    go (negsuc n) = refl

-- the magnitude, whatever the sign
pub abs-sign : (t : Bool) (g : ℕ) → nat_abs (with_sign t g) ≡ g
unfolding with_sign
abs-sign false g = refl
abs-sign true zero = refl
abs-sign true (suc g) = refl

-- ---- words

-- the word of a difference
pub diff-word : (a b : ℕ) → a < 4294967296 → b ≤ a + 4294967296 → word_of (sub_ℕ a b) ≡ (a + 4294967296 - b) % 4294967296
unfolding word_of
diff-word a b ha hb =
    either a b
    (λ h. ap word_of (diff-le a b h) ∙ omega arith)
    (λ h. ap word_of (diff-lt a b h) ∙ omega arith)

-- a signed number, written as a word and read again
pub word_small : (z : ℤ) → nat_abs z < 2147483648 → word_of z < 4294967296
unfolding word_of
word_small (pos n) h = omega arith
word_small (negsuc n) h = omega arith

pub signed_word : (z : ℤ) → nat_abs z < 2147483648 → signed (word_of z) ≡ z
unfolding signed word_of
signed_word (pos n) h = simp (lt-ltb n 2147483648 h)
signed_word (negsuc n) h =
    let k : 2147483648 ≤ 4294967296 - suc n = omega arith in
    let l : 4294967296 - suc n < 4294967296 = omega arith in
    simp (le-ltb (4294967296 - suc n) 2147483648 k)
    (diff-lt (4294967296 - suc n) 4294967296 l ∙ ap negsuc (omega arith))

-- and a word, read and written again
pub word-signed : (u : ℕ) → u < 4294967296 → word_of (signed u) ≡ u
unfolding signed
word-signed u h =
    either u 2147483648
    (λ k. ap word_of (simp (le-ltb u 2147483648 k)) ∙ diff-word u 4294967296 h (omega arith) ∙ omega arith)
    (λ k. ap word_of (simp (lt-ltb u 2147483648 k) (diff-pos u)) ∙ diff-word u 0 h (omega arith) ∙ omega arith)

-- a word below 2^31 is the number itself
pub signed-small : (u : ℕ) → u < 2147483648 → signed u ≡ pos u
unfolding signed
signed-small u h = simp (lt-ltb u 2147483648 h)

-- the words of a word's number with a difference added
wrapped-by : (u a b : ℕ) → u < 4294967296 → a < 2147483648 → b < 2147483648
    → word_of (signed u +ℤ sub_ℕ a b) ≡ (u + a + 4294967296 - b) % 4294967296
unfolding signed word_of
wrapped-by u a b hu ha hb =
    either u 2147483648
    (λ k.
    let e : signed u ≡ sub_ℕ u 4294967296 = simp (le-ltb u 2147483648 k) in
    ap (λ (z : ℤ). word_of (z +ℤ sub_ℕ a b)) e
    ∙ ap word_of (diff-add u 4294967296 a b)
    ∙ either (u + a) (4294967296 + b)
    (λ j. ap word_of (diff-le (u + a) (4294967296 + b) j) ∙ omega arith)
    (λ j. ap word_of (diff-lt (u + a) (4294967296 + b) j) ∙ omega arith))
    (λ k.
    let e : signed u ≡ sub_ℕ u 0 = simp (lt-ltb u 2147483648 k) (diff-pos u) in
    ap (λ (z : ℤ). word_of (z +ℤ sub_ℕ a b)) e
    ∙ ap word_of (diff-add u 0 a b)
    ∙ diff-word (u + a) (0 + b) (omega arith) (omega arith)
    ∙ omega arith)

pub wrapped-less : (t : Bool) (u m : ℕ) → u < 4294967296 → m < 2147483648 → t ≡ true
    → (u + (4294967296 - m)) % 4294967296 ≡ word_of (signed u +ℤ with_sign t m)
unfolding with_sign
wrapped-less t u m hu hm e =
    let f : (u + (4294967296 - m)) % 4294967296 ≡ (u + 0 + 4294967296 - m) % 4294967296 = omega arith in
    f
    ∙ sym (wrapped-by u 0 m hu (omega arith) hm)
    ∙ ap (λ (z : ℤ). word_of (signed u +ℤ z)) (sym (neg-pos m))
    ∙ ap (λ (t : Bool). word_of (signed u +ℤ with_sign t m)) (sym e)

pub wrapped-more : (t : Bool) (u m : ℕ) → u < 4294967296 → m < 2147483648 → t ≡ false
    → (u + m) % 4294967296 ≡ word_of (signed u +ℤ with_sign t m)
unfolding with_sign
wrapped-more t u m hu hm e =
    let f : (u + m) % 4294967296 ≡ (u + m + 4294967296 - 0) % 4294967296 = omega arith in
    f
    ∙ sym (wrapped-by u m 0 hu hm (omega arith))
    ∙ ap (λ (z : ℤ). word_of (signed u +ℤ z)) (sym (diff-pos m))
    ∙ ap (λ (t : Bool). word_of (signed u +ℤ with_sign t m)) (sym e)

-- ---- words of numbers from −h to h, with the bias h

abs-signed : (u : ℕ) → u < 4294967296
    → (u < 2147483648 → nat_abs (signed u) ≡ u) × (2147483648 ≤ u → nat_abs (signed u) ≡ 4294967296 - u)
unfolding signed
abs-signed u hu =
    (λ k. simp (lt-ltb u 2147483648 k), λ k. simp (le-ltb u 2147483648 k) (diff-abs u 4294967296 ∙ omega arith))

module _ (h u : ℕ) (small : h < 2147483648) (hu : u < 4294967296) where
  pub within-biased : nat_abs (signed u) ≤ h → (u + h) % 4294967296 ≤ 2 * h
  within-biased l =
      either u 2147483648 (λ k. omega (arith, (abs-signed u hu).1 k)) (λ k. omega (arith, (abs-signed u hu).0 k))

  -- a number from −h to h is its biased word less h
  pub signed-biased : (u + h) % 4294967296 ≤ 2 * h → signed u ≡ sub_ℕ ((u + h) % 4294967296) h
  unfolding signed
  signed-biased l =
      either u 2147483648
      (λ k. simp (le-ltb u 2147483648 k) (diff-eq u 4294967296 ((u + h) % 4294967296) h (omega arith)))
      (λ k. simp (lt-ltb u 2147483648 k) (diff-pos u ∙ diff-eq u 0 ((u + h) % 4294967296) h (omega arith)))
