-- Bytes put into a buffer, one run behind the other. Assumes nothing.
use Rattle.std.proofs.Common.{◌≡◌, refl, sym, ap, ap₂, ◌∙◌, ℕ, ◌+◌, ◌-◌, ◌^◌, ◌≤◌, ◌<◌, List, [], ◌∷◌, ◌++◌, Bool, true, false, length, set, arith, le_refl, length-append, length-take, length-drop, add-zero, length-set}
use mir.Syntax.{w64}
use mir.Val.{Fits}
use lib.Seq.{sets-eq}
use borrow.Rule.Slice.PartMut.{put_mid}
use Rattle.words.specs.Splice.{splice}
use Rattle.words.proofs.Splicing.{spliced, splice-none, splice-splice}
use Rattle.decimal.specs.Digits.{minus, decimal, sign}
use Rattle.decimal.specs.Put.{PutAt}
use Rattle.decimal.proofs.Digits.{length-decimal}

length-splice : (at : ℕ) (b l : List ℕ) → at + length b ≤ length l → length (splice at b l) ≡ length l
unfolding splice
length-splice at b l h = simp (length-append, length-take, length-drop) (omega arith)

-- a write to the bytes from `at` to `at + length b`
pub text-put : (at : ℕ) (b l m : List ℕ) → m ≡ b → at + length b ≤ length l
    → PutAt at (length b) b l (at + length b) (put_mid at (at + length b - at) l m)
text-put at b l m e h =
    let is : put_mid at (at + length b - at) l m ≡ splice at b l = spliced at (length b) l m b e refl in
    record { is = is; behind = refl; most = le_refl _; same = ap length is ∙ length-splice at b l h }

-- one store
one : (l : List ℕ) (at b : ℕ) → at + 1 ≤ length l → set l at b ≡ splice at (b ∷ []) l
unfolding splice
one l at b h = sets-eq (b ∷ []) l at h

pub one-put : (l : List ℕ) (at b : ℕ) → at + 1 ≤ length l → PutAt at 1 (b ∷ []) l (at + 1) (set l at b)
one-put l at b h = record { is = one l at b h; behind = refl; most = omega arith; same = length-set l at b }

-- nothing put
pub none-put : (l : List ℕ) (at n : ℕ) → PutAt at n [] l at l
none-put l at n = record { is = sym (splice-none at l); behind = sym (add-zero at); most = omega arith; same = refl }

-- fewer bytes than allowed
pub put-within : (at m n : ℕ) (b l : List ℕ) (end : ℕ) (l₁ : List ℕ) → m ≤ n → PutAt at m b l end l₁ → PutAt at n b l end l₁
put-within at m n b l end l₁ h p = record { is = p.is; behind = p.behind; most = omega (arith, p.most); same = p.same }

-- a run right behind another
pub put-behind : (at m n end end₁ : ℕ) (a b l l₁ l₂ : List ℕ) → at + (m + n) ≤ length l
    → PutAt at m a l end l₁ → PutAt end n b l₁ end₁ l₂ → PutAt at (m + n) (a ++ b) l end₁ l₂
put-behind at m n end end₁ a b l l₁ l₂ h p q =
    let e : end ≡ at + length a = p.behind in
    let f : end₁ ≡ end + length b = q.behind in
    record {
      is =
          q.is
          ∙ ap₂ (λ (i : ℕ) (x : List ℕ). splice i b x) e p.is
          ∙ splice-splice at a b l (omega (arith, p.most, q.most));
      behind = rw length-append (omega arith);
      most = omega (arith, p.most, q.most);
      same = q.same ∙ p.same;
    }

-- ---- a number

pub sign-put : (at : ℕ) (l : List ℕ) (negative : Bool) → at + 1 ≤ length l → negative ≡ true → PutAt at 1 (sign negative) l (at + 1) (set l at minus)
sign-put at l negative h e = rw e (one-put l at minus h)

pub no_sign : (at : ℕ) (l : List ℕ) (negative : Bool) → negative ≡ false → PutAt at 1 (sign negative) l at l
no_sign at l negative e = rw e (none-put l at 1)

module _ (at x : ℕ) (s l : List ℕ) (h : at + 12 ≤ length l) (small : x < 10000000000) (first : ℕ) (l₁ : List ℕ) (p : PutAt at 1 s l first l₁) where
  ten : length (decimal x) ≤ 10
  ten = length-decimal x 9 small

  pub number-room : first + length (decimal x) ≤ length l₁
  number-room = omega (arith, ten, p.most, p.same)

  module _ (end : ℕ) (l₂ : List ℕ) (q : PutAt first (length (decimal x)) (decimal x) l₁ end l₂) where
    digits-behind : PutAt at (1 + length (decimal x)) (s ++ decimal x) l end l₂
    digits-behind = put-behind at 1 (length (decimal x)) first end s (decimal x) l l₁ l₂ (omega (arith, ten)) p q

    pub end-inside : end < length l₂
    end-inside = omega (arith, ten, digits-behind.most, digits-behind.same)

    pub end_fits : length l < 2 ^ 64 → Fits w64 (end + 1)
    end_fits f = omega (arith, end-inside, digits-behind.same)

    pub number_put : (b : ℕ) → PutAt at 12 (s ++ decimal x ++ b ∷ []) l (end + 1) (set l₂ end b)
    number_put b =
        put-within at (1 + length (decimal x) + 1) 12 (s ++ decimal x ++ b ∷ []) l (end + 1) (set l₂ end b) (omega (arith, ten))
        (put-behind at (1 + length (decimal x)) 1 end (end + 1) (s ++ decimal x) (b ∷ []) l l₂ (set l₂ end b) (omega (arith, ten))
        digits-behind (one-put l₂ end b (omega (arith, end-inside))))
