-- A power of two whose exponent is a sum is the product of the powers. Assumes nothing.
use mathlib.Core.Path.{◌≡◌, refl, ap, ◌∙◌}
use mathlib.Core.List.{List, [], ◌∷◌}
use Prim.Native.Nat.{ℕ, ◌+◌, ◌*◌, ◌^◌}
use lib.Pow.{pow-add}

-- the sum of some exponents, and the product of their powers
abbrev pub total : List ℕ → ℕ
total [] = 0
total (x ∷ []) = x
total (x ∷ y ∷ l) = x + total (y ∷ l)

abbrev pub powers : List ℕ → ℕ
powers [] = 1
powers (x ∷ []) = 2 ^ x
powers (x ∷ y ∷ l) = 2 ^ x * powers (y ∷ l)

pub power-of : (e : ℕ) (l : List ℕ) → e ≡ total l → 2 ^ e ≡ powers l
power-of e l h = ap (λ (x : ℕ). 2 ^ x) h ∙ go l
  where
    go : (l : List ℕ) → 2 ^ total l ≡ powers l
    go [] = refl
    go (x ∷ []) = refl
    go (x ∷ y ∷ l) = pow-add 2 x (total (y ∷ l)) ∙ ap (λ (m : ℕ). 2 ^ x * m) (go (y ∷ l))
