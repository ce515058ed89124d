-- Lines of numbers, number by number. Assumes nothing.
use Rattle.std.proofs.Common.{◌≡◌, refl, sym, ap, ◌∙◌, ℕ, zero, suc, ◌+◌, ◌≤◌, ◌<◌, List, [], ◌∷◌, ◌++◌, length, take, arith, add-one, ℤ, pos, negsuc, slice_index_or, append_assoc, length-append, append-nil, FitsSigned, w32, w64, to_z, of_z}
use Rattle.std.proofs.lemmas.Int.{to_z-of_z}
use Rattle.std.proofs.lemmas.List.{take_all}
use Rattle.decimal.specs.Digits.{signed_decimal}
use Rattle.decimal.proofs.Digits.{length-decimal}
use Rattle.printing.specs.Line.{blank, newline, followed, line}

-- numbers with a blank behind each
abbrev pub blanks : List ℤ → List ℕ
blanks [] = []
blanks (x ∷ xs) = followed x blank ++ blanks xs

-- one number more
blanks_taken : (xs : List ℤ) (i : ℕ) → i < length xs → blanks (take (suc i) xs) ≡ blanks (take i xs) ++ followed (slice_index_or xs i (pos 0)) blank
blanks_taken [] i h = absurd (omega arith)
blanks_taken (x ∷ xs) zero h = append-nil (followed x blank)
blanks_taken (x ∷ xs) (suc i) h =
    ap (λ (l : List ℕ). followed x blank ++ l) (blanks_taken xs i (omega arith)) ∙ sym (append_assoc (followed x blank) (blanks (take i xs)) _)

pub blanks_more : (xs : List ℤ) (i : ℕ) (s : List ℕ) → i < length xs → s ≡ blanks (take i xs)
    → s ++ signed_decimal (slice_index_or xs i (pos 0)) ++ blank ∷ [] ≡ blanks (take (i + 1) xs)
blanks_more xs i s h e =
    append_assoc s (signed_decimal (slice_index_or xs i (pos 0))) (blank ∷ [])
    ∙ ap (λ (l : List ℕ). l ++ followed (slice_index_or xs i (pos 0)) blank) e
    ∙ sym (blanks_taken xs i h)
    ∙ ap (λ (n : ℕ). blanks (take n xs)) (sym (add-one i))

-- the last number
line-last : (xs : List ℤ) (z : ℤ) → blanks xs ++ followed z newline ≡ line (xs ++ z ∷ [])
unfolding line
line-last [] z = refl
line-last (x ∷ []) z = ap (λ (l : List ℕ). l ++ followed z newline) (append-nil (followed x blank))
line-last (x ∷ (y ∷ s)) z = append_assoc (followed x blank) (blanks (y ∷ s)) (followed z newline) ∙ ap (λ (l : List ℕ). followed x blank ++ l) (line-last (y ∷ s) z)

pub line_ended : (xs : List ℤ) (z : ℤ) (ns : List ℤ) (i : ℕ) (s : List ℕ) → length xs ≤ i → ns ≡ xs ++ z ∷ [] → s ≡ blanks (take i xs)
    → s ++ signed_decimal z ++ newline ∷ [] ≡ line ns
line_ended xs z ns i s h e f =
    append_assoc s (signed_decimal z) (newline ∷ [])
    ∙ ap (λ (l : List ℕ). l ++ followed z newline) (f ∙ ap blanks (take_all i xs h))
    ∙ line-last xs z
    ∙ ap line (sym e)

-- a number of 32 bits has at most 11 characters
length-word : (z : ℤ) → FitsSigned w32 z → length (signed_decimal z) ≤ 11
unfolding signed_decimal
length-word (pos n) h = omega (arith, length-decimal n 9 (omega (arith, h.sfits)))
length-word (negsuc n) h = omega (arith, length-decimal (suc n) 9 (omega (arith, h.sfits)))

-- one that is read, widened and pushed
module _ (r x : ℤ) (e : r ≡ to_z w32 (of_z w32 x)) (f : FitsSigned w32 x) where
  widened : to_z w64 (of_z w64 r) ≡ x
  widened =
      let wide : FitsSigned w64 x = record { sfits = omega (arith, f.sfits) } in
      ap (λ (z : ℤ). to_z w64 (of_z w64 z)) (e ∙ to_z-of_z w32 x f) ∙ to_z-of_z w64 x wide

  pub short : length (signed_decimal (to_z w64 (of_z w64 r))) ≤ 11
  short = rw widened (length-word x f)

  pub pushed : (s b t : List ℕ) → t ≡ s ++ signed_decimal (to_z w64 (of_z w64 r)) ++ b
      → (t ≡ s ++ signed_decimal x ++ b) × (length t ≤ length s + 11 + length b)
  pushed s b t h = (rw widened at h, omega (arith, simp length-append at (ap length h), short))
