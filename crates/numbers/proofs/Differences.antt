-- A signed number as the difference of two naturals: an equation of such differences is one of naturals. Assumes nothing.
use mathlib.Core.Path.{◌≡◌, refl, sym, ap, ap₂, subst, ◌∙◌}
use Prim.Native.Nat.{ℕ, zero, suc, ◌+◌, ◌*◌, ◌-◌, ◌≤◌, ◌<◌}
use native.Mathlib.Nat.{lt_of_not-le}
use native.Mathlib.Decide.{dec_le}
use native.Mathlib.Omega.{arith}
use borrow.Author.Tests.{lt-ltb, le-ltb, le-leb, lt-leb}
use lib.Dec.{leb}
use lib.Signed.{non_neg, le_z}
use lib.IntN.{ℤ, pos, negsuc, neg_ℤ, nat_abs, sub_ℕ, ◌+ℤ◌, ◌-ℤ◌, ◌*ℤ◌, neg_ℤ-+ℤ, neg_ℤ-neg_ℤ, +ℤ_comm}

-- one order or the other
pub either {ℓ} : {X : Type ℓ} (a b : ℕ) → (b ≤ a → X) → (a < b → X) → X
either a b f g = elim (dec_le b a) [ yes h ↦ f h | no h ↦ g (lt_of_not-le h) ]

-- two tests that ask the same
pub leb-same : (a b c d : ℕ) → (a ≤ b → c ≤ d) → (c ≤ d → a ≤ b) → leb a b ≡ leb c d
leb-same a b c d f g =
    either b a
    (λ h. le-leb a b h ∙ sym (le-leb c d (f h)))
    (λ h. lt-leb a b h ∙ sym (lt-leb c d (either c (suc d) (λ k. k) (λ k. absurd (clash h (g (omega arith)))))))
  where
    clash : {m n : ℕ} → n < m → m ≤ n → ⊥
    clash h k = omega arith

pub diff-le : (a b : ℕ) → b ≤ a → sub_ℕ a b ≡ pos (a - b)
diff-le a b h = simp (le-ltb a b h)

pub diff-lt : (a b : ℕ) → a < b → sub_ℕ a b ≡ negsuc (b - suc a)
diff-lt a b h = simp (lt-ltb a b h)

pub diff-eq : (a b c d : ℕ) → a + d ≡ c + b → sub_ℕ a b ≡ sub_ℕ c d
diff-eq a b c d e =
    either a b
    (λ h. diff-le a b h ∙ ap pos (omega arith) ∙ sym (diff-le c d (omega arith)))
    (λ h. diff-lt a b h ∙ ap negsuc (omega arith) ∙ sym (diff-lt c d (omega arith)))

pub diff-pos : (a : ℕ) → pos a ≡ sub_ℕ a 0
diff-pos a = ap pos (omega arith) ∙ sym (diff-le a 0 (omega arith))

pub neg-pos : (n : ℕ) → neg_ℤ (pos n) ≡ sub_ℕ 0 n
neg-pos zero = refl
neg-pos (suc n) = ap negsuc (omega arith) ∙ sym (diff-lt 0 (suc n) (omega arith))

pub diff-neg : (a b : ℕ) → neg_ℤ (sub_ℕ a b) ≡ sub_ℕ b a
diff-neg a b =
    either a b
    (λ h. ap neg_ℤ (diff-le a b h) ∙ neg-pos (a - b) ∙ diff-eq 0 (a - b) b a (omega arith))
    (λ h. ap neg_ℤ (diff-lt a b h) ∙ diff-pos (suc (b - suc a)) ∙ diff-eq (suc (b - suc a)) 0 b a (omega arith))

-- a sum of two differences, by the signs of both
pub diff-add : (a b c d : ℕ) → sub_ℕ a b +ℤ sub_ℕ c d ≡ sub_ℕ (a + c) (b + d)
diff-add a b c d =
    either a b
    (λ h. either c d
    (λ k.
    ap₂ ◌+ℤ◌ (diff-le a b h) (diff-le c d k)
    ∙ diff-pos (a - b + (c - d))
    ∙ diff-eq (a - b + (c - d)) 0 (a + c) (b + d) (omega arith))
    (λ k. ap₂ ◌+ℤ◌ (diff-le a b h) (diff-lt c d k) ∙ diff-eq (a - b) (suc (d - suc c)) (a + c) (b + d) (omega arith)))
    (λ h. either c d
    (λ k. ap₂ ◌+ℤ◌ (diff-lt a b h) (diff-le c d k) ∙ diff-eq (c - d) (suc (b - suc a)) (a + c) (b + d) (omega arith))
    (λ k.
    ap₂ ◌+ℤ◌ (diff-lt a b h) (diff-lt c d k)
    ∙ ap negsuc (omega arith)
    ∙ sym (diff-lt (a + c) (b + d) (omega arith))))

pub diff-sub : (a b c d : ℕ) → sub_ℕ a b -ℤ sub_ℕ c d ≡ sub_ℕ (a + d) (b + c)
diff-sub a b c d = ap (λ (z : ℤ). sub_ℕ a b +ℤ z) (diff-neg c d) ∙ diff-add a b d c

pub diff-abs : (a b : ℕ) → nat_abs (sub_ℕ a b) ≡ (a - b) + (b - a)
diff-abs a b =
    either a b
    (λ h. ap nat_abs (diff-le a b h) ∙ omega arith)
    (λ h. ap nat_abs (diff-lt a b h) ∙ omega arith)

pub abs_neg : (z : ℤ) → nat_abs (neg_ℤ z) ≡ nat_abs z
abs_neg (pos zero) = refl
abs_neg (pos (suc n)) = refl
abs_neg (negsuc n) = refl

-- a difference the other way round
pub neg-sub : (a b : ℤ) → neg_ℤ (a -ℤ b) ≡ b -ℤ a
neg-sub a b = neg_ℤ-+ℤ a (neg_ℤ b) ∙ ap (λ (z : ℤ). neg_ℤ a +ℤ z) (neg_ℤ-neg_ℤ b) ∙ +ℤ_comm (neg_ℤ a) b

-- the magnitude of a sum is at most the sum of the magnitudes
pub abs-add : (a b : ℤ) → nat_abs (a +ℤ b) ≤ nat_abs a + nat_abs b
abs-add (pos a) (pos b) = omega arith
abs-add (pos a) (negsuc b) = omega (arith, diff-abs a (suc b))
abs-add (negsuc a) (pos b) = omega (arith, diff-abs b (suc a))
abs-add (negsuc a) (negsuc b) = omega arith

-- a difference with a number more, a number less, and as many times as large
pub diff-more : (a b n : ℕ) → sub_ℕ a b +ℤ pos n ≡ sub_ℕ (a + n) b
diff-more a b n = ap (λ (z : ℤ). sub_ℕ a b +ℤ z) (diff-pos n) ∙ diff-add a b n 0 ∙ diff-eq (a + n) (b + 0) (a + n) b (omega arith)

pub diff-less : (a b n : ℕ) → sub_ℕ a b -ℤ pos n ≡ sub_ℕ a (b + n)
diff-less a b n = ap (λ (z : ℤ). sub_ℕ a b -ℤ z) (diff-pos n) ∙ diff-sub a b n 0 ∙ diff-eq (a + 0) (b + n) a (b + n) (omega arith)

pub more-diff : (n a b : ℕ) → pos n +ℤ sub_ℕ a b ≡ sub_ℕ (n + a) b
more-diff n a b = ap (λ (z : ℤ). z +ℤ sub_ℕ a b) (diff-pos n) ∙ diff-add n 0 a b ∙ diff-eq (n + a) (0 + b) (n + a) b (omega arith)

pub less-diff : (n a b : ℕ) → pos n -ℤ sub_ℕ a b ≡ sub_ℕ (n + b) a
less-diff n a b = ap (λ (z : ℤ). z -ℤ sub_ℕ a b) (diff-pos n) ∙ diff-sub n 0 a b ∙ diff-eq (n + b) (0 + a) (n + b) a (omega arith)

pub diff-times : (m a b : ℕ) → pos m *ℤ sub_ℕ a b ≡ sub_ℕ (m * a) (m * b)
diff-times m a b =
    either a b
    (λ h.
    let e : a - b + b ≡ a = omega arith in
    ap (λ (z : ℤ). pos m *ℤ z) (diff-le a b h) ∙ diff-pos (m * (a - b)) ∙ diff-eq (m * (a - b)) 0 (m * a) (m * b) (omega (arith, ap (λ (n : ℕ). m * n) e)))
    (λ h.
    let e : suc (b - suc a) + a ≡ b = omega arith in
    ap (λ (z : ℤ). pos m *ℤ z) (diff-lt a b h)
    ∙ neg-pos (m * suc (b - suc a))
    ∙ diff-eq 0 (m * suc (b - suc a)) (m * a) (m * b) (omega (arith, ap (λ (n : ℕ). m * n) e)))

-- a difference of two naturals, and whether it is 0 or more
pub pos-less : (a b : ℕ) → pos a -ℤ pos b ≡ sub_ℕ a b
pos-less a b = ap (λ (z : ℤ). z -ℤ pos b) (diff-pos a) ∙ diff-less a 0 b ∙ diff-eq a (0 + b) a b (omega arith)

pub diff-sign : (a b : ℕ) → non_neg (sub_ℕ a b) ≡ leb b a
diff-sign a b =
    either a b
    (λ h. ap non_neg (diff-le a b h) ∙ sym (le-leb b a h))
    (λ h. ap non_neg (diff-lt a b h) ∙ sym (lt-leb b a h))

-- every signed number is one
abbrev pub over : ℤ → ℕ
over (pos n) = n
over (negsuc n) = 0

abbrev pub under : ℤ → ℕ
under (pos n) = 0
under (negsuc n) = suc n

pub as-diff : (z : ℤ) → z ≡ sub_ℕ (over z) (under z)
as-diff (pos n) = diff-pos n
as-diff (negsuc n) = neg-pos (suc n)

-- so that what holds of differences holds of all
pub each-diff {ℓ} : (P : ℤ → Type ℓ) → ((a b : ℕ) → P (sub_ℕ a b)) → (z : ℤ) → P z
each-diff P f z = subst P (sym (as-diff z)) (f (over z) (under z))

pub abs-parts : (z : ℤ) → nat_abs z ≡ over z + under z
abs-parts (pos n) = omega arith
abs-parts (negsuc n) = omega arith

-- their order is that of naturals
pub diff-order : (a b c d : ℕ) → le_z (sub_ℕ a b) (sub_ℕ c d) ≡ leb (a + d) (c + b)
diff-order a b c d =
    either a b
    (λ h. either c d
    (λ k. ap₂ le_z (diff-le a b h) (diff-le c d k) ∙ leb-same (a - b) (c - d) (a + d) (c + b) (λ l. omega arith) (λ l. omega arith))
    (λ k. ap₂ le_z (diff-le a b h) (diff-lt c d k) ∙ sym (lt-leb (a + d) (c + b) (omega arith))))
    (λ h. either c d
    (λ k. ap₂ le_z (diff-lt a b h) (diff-le c d k) ∙ sym (le-leb (a + d) (c + b) (omega arith)))
    (λ k. ap₂ le_z (diff-lt a b h) (diff-lt c d k) ∙ leb-same (d - suc c) (b - suc a) (a + d) (c + b) (λ l. omega arith) (λ l. omega arith)))
