-- Laws of decimal text: by its last digit; read back, it is the number; digits alone, with no zero in front; how long it is. Assumes nothing.
use mathlib.Core.Path.{◌≡◌, refl, sym, ap, ◌∙◌}
use mathlib.Core.List.{List, [], ◌∷◌, ◌++◌}
use Prim.Native.Nat.{ℕ, zero, suc, ◌+◌, ◌-◌, ◌*◌, ◌/◌, ◌%◌, ◌^◌, ◌≤◌, ◌<◌}
use native.Mathlib.Nat.{pow-suc, div-add-mod', div-lt_iff_lt-mul}
use native.Mathlib.Omega.{arith}
use borrow.Author.Tests.{lt-ltb, le-ltb, ne_eqb}
use lib.Dec.{lit<}
use lib.ListN.{length, get_or, length-append, get_or-append}
use lib.Seq.{get_or-append_seam}
use lib.IntN.{ℤ, pos, negsuc, neg_ℤ}
use Rattle.words.proofs.Differences.{either}
use Rattle.decimal.specs.Digits.{digit, minus, digits_within, decimal, signed_decimal, value_from, value_of, signed_value_of}

-- ---- by the last digit

few-within : (n x : ℕ) → x < 10 → digits_within n x ≡ digit x ∷ []
unfolding digits_within
few-within zero x h = refl
few-within (suc n) x h = simp (lt-ltb x 10 h)

more_within : (n x : ℕ) → 10 ≤ x → digits_within (suc n) x ≡ digits_within n (x / 10) ++ digit (x % 10) ∷ []
unfolding digits_within
more_within n x h = simp (le-ltb x 10 h)

-- a number has fewer digits than its value says
enough : (a b x : ℕ) → x ≤ a → x ≤ b → digits_within a x ≡ digits_within b x
enough zero b x h k = few-within zero x (omega arith) ∙ sym (few-within b x (omega arith))
enough (suc a) zero x h k = few-within (suc a) x (omega arith) ∙ sym (few-within zero x (omega arith))
enough (suc a) (suc b) x h k =
    either x 10
    (λ m.
    more_within a x m
    ∙ ap (λ (s : List ℕ). s ++ digit (x % 10) ∷ []) (enough a b (x / 10) (omega arith) (omega arith))
    ∙ sym (more_within b x m))
    (λ m. few-within (suc a) x m ∙ sym (few-within (suc b) x m))

pub decimal-few : (x : ℕ) → x < 10 → decimal x ≡ digit x ∷ []
unfolding decimal
decimal-few x h = few-within x x h

pub decimal-more : (x : ℕ) → 10 ≤ x → decimal x ≡ decimal (x / 10) ++ digit (x % 10) ∷ []
unfolding decimal
decimal-more zero h = absurd (omega arith)
decimal-more (suc n) h =
    more_within n (suc n) h
    ∙ ap (λ (s : List ℕ). s ++ digit (suc n % 10) ∷ []) (enough n (suc n / 10) (suc n / 10) (omega arith) (omega arith))

-- so what holds of one digit, and of a digit more, holds of every text
pub by_last : (P : ℕ → List ℕ → Type 0) → ((x : ℕ) → x < 10 → P x (digit x ∷ []))
    → ((x : ℕ) → 10 ≤ x → P (x / 10) (decimal (x / 10)) → P x (decimal (x / 10) ++ digit (x % 10) ∷ []))
    → (x : ℕ) → P x (decimal x)
by_last P few more x = below x x (omega arith)
  where
    below : (n x : ℕ) → x ≤ n → P x (decimal x)
    below zero x h = rw (decimal-few x (omega arith)) (few x (omega arith))
    below (suc n) x h =
        either x 10
        (λ k. rw (decimal-more x k) (more x k (below n (x / 10) (omega arith))))
        (λ k. rw (decimal-few x k) (few x k))

-- ---- read back

value-append : (v b : ℕ) (s : List ℕ) → value_from v (s ++ b ∷ []) ≡ 10 * value_from v s + (b - 48)
unfolding value_from
value-append v b [] = refl
value-append v b (a ∷ s) = value-append (10 * v + (a - 48)) b s

-- the digits of a number stand for the number
pub value-decimal : (x : ℕ) → value_of (decimal x) ≡ x
value-decimal =
    by_last (λ (x : ℕ) (s : List ℕ). value_of s ≡ x)
    (λ x h. unfold value_from in omega arith)
    (λ x h e. value-append 0 (digit (x % 10)) (decimal (x / 10)) ∙ omega (arith, div-add-mod' x 10))

-- ---- what it is made of

-- one more element at the end
at-end : (P : ℕ → Type 0) (s : List ℕ) (b : ℕ) → ((i : ℕ) → i < length s → P (get_or s i 0)) → P b
    → (i : ℕ) → i < length (s ++ b ∷ []) → P (get_or (s ++ b ∷ []) i 0)
at-end P s b each last i h =
    let n : length (s ++ b ∷ []) ≡ length s + 1 = length-append s (b ∷ []) in
    either i (length s)
    (λ k. let e : i ≡ length s = omega arith in rw (e, get_or-append_seam) last)
    (λ k. rw (get_or-append s (b ∷ []) 0 i k) (each i k))

abbrev is_digit : ℕ → Type 0
is_digit b = (48 ≤ b) × (b < 58)

-- digits alone
pub all_digits : (x i : ℕ) → i < length (decimal x) → (48 ≤ get_or (decimal x) i 0) × (get_or (decimal x) i 0 < 58)
all_digits =
    by_last (λ (x : ℕ) (s : List ℕ). (i : ℕ) → i < length s → is_digit (get_or s i 0))
    (λ x h i k. at-end is_digit [] (digit x) (λ j l. absurd (omega arith)) (omega arith, omega arith) i k)
    (λ x h before. at-end is_digit (decimal (x / 10)) (digit (x % 10)) before (omega arith, omega arith))

-- at least one of them
pub some-digit : (x : ℕ) → 0 < length (decimal x)
some-digit = by_last (λ (x : ℕ) (s : List ℕ). 0 < length s) (λ x h. omega arith) (λ x h k. rw length-append (omega arith))

-- the first is no zero, except of the number zero
pub no-zero-in-front : (x : ℕ) → 0 < x → 48 < get_or (decimal x) 0 0
no-zero-in-front =
    by_last (λ (x : ℕ) (s : List ℕ). 0 < x → 48 < get_or s 0 0)
    (λ x h k. omega arith)
    (λ x h before k. rw (get_or-append (decimal (x / 10)) (digit (x % 10) ∷ []) 0 0 (some-digit (x / 10))) (before (omega arith)))

-- ---- how long it is

pub length-decimal : (x k : ℕ) → x < 10 ^ suc k → length (decimal x) ≤ suc k
length-decimal x =
    by_last (λ (x : ℕ) (s : List ℕ). (k : ℕ) → x < 10 ^ suc k → length s ≤ suc k) (λ x h k l. omega arith) more x
  where
    more : (x : ℕ) → 10 ≤ x → ((k : ℕ) → x / 10 < 10 ^ suc k → length (decimal (x / 10)) ≤ suc k)
        → (k : ℕ) → x < 10 ^ suc k → length (decimal (x / 10) ++ digit (x % 10) ∷ []) ≤ suc k
    more x h before zero l = absurd (omega arith)
    more x h before (suc k) l =
        rw length-append (omega (arith, before k ((div-lt_iff_lt-mul (lit< tt)).1 (rw pow-suc at l))))

-- ---- with a sign

-- text that begins with no minus sign is read as its digits
unsigned : (s : List ℕ) → 0 < length s → 48 ≤ get_or s 0 0 → signed_value_of s ≡ pos (value_of s)
unsigned [] h k = absurd (omega arith)
unsigned (b ∷ s) h k = rw (ne_eqb b minus (λ e. omega arith))

-- a whole number is read back too
pub value-signed : (z : ℤ) → signed_value_of (signed_decimal z) ≡ z
unfolding signed_decimal
value-signed (pos n) =
    unsigned (decimal n) (some-digit n) (all_digits n 0 (some-digit n)).0 ∙ ap pos (value-decimal n)
value-signed (negsuc n) = ap (λ (v : ℕ). neg_ℤ (pos v)) (value-decimal (suc n))
