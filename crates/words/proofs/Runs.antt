-- Runs of k bytes, one after the other: how long they are, and what stands at a place of them. Assumes nothing.
use mathlib.Core.Path.{◌≡◌, refl, sym, ap, ◌∙◌}
use mathlib.Core.List.{List, [], ◌++◌, append-nil, append_assoc}
use Prim.Native.Nat.{ℕ, zero, suc, ◌+◌, ◌*◌, ◌≤◌, ◌<◌}
use native.Mathlib.Nat.{add-zero, add-suc, add_assoc, zero-mul, suc-mul, mul-le-mul_right, not-suc-le-zero}
use native.Mathlib.Numerals.{add-one}
use native.Mathlib.Omega.{arith}
use native.Mathlib.Decide.{dec_lt}
use lib.ListN.{length, get_or, length-append, get_or-append}
use lib.Seq.{get_or-append-add, ext_get_or}
use Rattle.words.specs.Joined.{joined}
use Rattle.words.specs.Word.{word_at}
use Rattle.words.specs.Splice.{splice}
use Rattle.words.proofs.Splicing.{splice-splice}

-- two sequences with the same first runs
pub joined_same : (f g : ℕ → List ℕ) (n : ℕ) → ((i : ℕ) → i < n → f i ≡ g i) → joined f n ≡ joined g n
unfolding joined
joined_same f g zero e = refl
joined_same f g (suc n) e = cc (joined_same f g n (λ i h. e i (omega arith)), e n (omega arith))

-- some runs, and the runs behind them
joined-split : (f : ℕ → List ℕ) (a b : ℕ) → joined f (a + b) ≡ joined f a ++ joined (λ (i : ℕ). f (a + i)) b
unfolding joined
joined-split f a zero = ap (joined f) (add-zero a) ∙ sym (append-nil (joined f a))
joined-split f a (suc b) =
    ap (joined f) (add-suc a b)
    ∙ ap (λ (l : List ℕ). l ++ f (a + b)) (joined-split f a b)
    ∙ append_assoc (joined f a) (joined (λ (i : ℕ). f (a + i)) b) (f (a + b))

-- n rows of k runs each
pub joined-rows : (f : ℕ → List ℕ) (k n : ℕ) → joined (λ (r : ℕ). joined (λ (i : ℕ). f (r * k + i)) k) n ≡ joined f (n * k)
unfolding joined
joined-rows f k zero = sym (ap (joined f) (zero-mul k))
joined-rows f k (suc n) =
    ap (λ (l : List ℕ). l ++ joined (λ (i : ℕ). f (n * k + i)) k) (joined-rows f k n)
    ∙ sym (joined-split f (n * k) k)
    ∙ ap (joined f) (sym (suc-mul n k))

module _ (f : ℕ → List ℕ) (k : ℕ) (each : (i : ℕ) → length (f i) ≡ k) where
  pub length-joined : (n : ℕ) → length (joined f n) ≡ n * k
  unfolding joined
  length-joined zero = sym (zero-mul k)
  length-joined (suc n) = length-append (joined f n) (f n) ∙ omega (arith, length-joined n, each n, suc-mul n k)

  -- byte j of run i
  pub joined-get_or : (n i j : ℕ) (t : List ℕ) → i < n → j < k → get_or (joined f n ++ t) (i * k + j) 0 ≡ get_or (f i) j 0
  unfolding joined
  joined-get_or zero i j t h g = absurd (not-suc-le-zero h)
  joined-get_or (suc n) i j t h g =
      let apart : joined f n ++ f n ++ t ≡ joined f n ++ (f n ++ t) = append_assoc (joined f n) (f n) t in
      ap (λ (l : List ℕ). get_or l (i * k + j) 0) apart
      ∙ elim (dec_lt i n) [
        | yes m ↦ joined-get_or n i j (f n ++ t) m g
        | no m ↦
            let q : n ≡ i = omega (arith, m) in
            let w : j < length (f n) = rw (each n) g in
            ap (λ (x : ℕ). get_or (joined f n ++ (f n ++ t)) (x * k + j) 0) (sym q)
            ∙ ap (λ (x : ℕ). get_or (joined f n ++ (f n ++ t)) (x + j) 0) (sym (length-joined n))
            ∙ get_or-append-add (joined f n) (f n ++ t) j 0
            ∙ get_or-append (f n) t 0 j w
            ∙ ap (λ (x : ℕ). get_or (f x) j 0) q
      ]

  -- the word from byte j of run i on
  pub joined_word : (n i j : ℕ) (t : List ℕ) → i < n → j + 4 ≤ k → word_at (joined f n ++ t) (i * k + j) ≡ word_at (f i) j
  joined_word n i j t h g =
      let b₀ : get_or (joined f n ++ t) (i * k + j) 0 ≡ get_or (f i) j 0 = joined-get_or n i j t h (omega arith) in
      let b₁ : get_or (joined f n ++ t) (i * k + j + 1) 0 ≡ get_or (f i) (j + 1) 0 = byte 1 (omega arith) in
      let b₂ : get_or (joined f n ++ t) (i * k + j + 2) 0 ≡ get_or (f i) (j + 2) 0 = byte 2 (omega arith) in
      let b₃ : get_or (joined f n ++ t) (i * k + j + 3) 0 ≡ get_or (f i) (j + 3) 0 = byte 3 (omega arith) in
      cc
    where
      byte : (s : ℕ) → j + s < k → get_or (joined f n ++ t) (i * k + j + s) 0 ≡ get_or (f i) (j + s) 0
      byte s l = ap (λ (x : ℕ). get_or (joined f n ++ t) x 0) (add_assoc (i * k) j s) ∙ joined-get_or n i (j + s) t h l

  -- one run more, right behind the runs put before
  pub joined-more : (at i : ℕ) (l l₁ l₂ : List ℕ) → at + (i * k + k) ≤ length l
      → l₁ ≡ splice at (joined f i) l → l₂ ≡ splice (at + i * k) (f i) l₁ → l₂ ≡ splice at (joined f (i + 1)) l
  unfolding joined
  joined-more at i l l₁ l₂ h p q =
      let n : length (joined f i) ≡ i * k = length-joined i in
      let m : length (f i) ≡ k = each i in
      q
      ∙ ap (splice (at + i * k) (f i)) p
      ∙ ap (λ (j : ℕ). splice (at + j) (f i) (splice at (joined f i) l)) (sym n)
      ∙ splice-splice at (joined f i) (f i) l (omega arith)
      ∙ ap (λ (j : ℕ). splice at (joined f j) l) (sym (add-one i))

-- runs of k bytes of two sequences that are the same together are the same one by one
pub joined-apart : (f g : ℕ → List ℕ) (k : ℕ) → ((i : ℕ) → length (f i) ≡ k) → ((i : ℕ) → length (g i) ≡ k)
    → (n : ℕ) → joined f n ≡ joined g n → (i : ℕ) → i < n → f i ≡ g i
joined-apart f g k a b n e i h =
    ext_get_or 0 (f i) (g i) (a i ∙ sym (b i))
    (λ j l.
    let m : j < k = rw (a i) at l in
    sym (joined-get_or f k a n i j [] h m) ∙ ap (λ (x : List ℕ). get_or (x ++ []) (i * k + j) 0) e ∙ joined-get_or g k b n i j [] h m)

-- what is left is enough for the next run
pub room-left : (k i n m : ℕ) → i < n → n * k ≤ m → i * k + k ≤ m
room-left k i n m h r = omega (arith, mul-le-mul_right k h, suc-mul i k)
