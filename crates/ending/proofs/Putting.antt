-- A trailer is put by its parts, each right behind the one before. Assumes nothing.
use mathlib.Core.Path.{◌≡◌, sym, ap, ◌∙◌}
use mathlib.Core.Bool.{Bool, false}
use mathlib.Core.List.{List, ◌++◌}
use Prim.Native.Nat.{ℕ, ◌+◌, ◌≤◌}
use native.Mathlib.Omega.{arith}
use lib.ListN.{length, length-append}
use Rattle.words.specs.Word.{half_bytes, word_bytes}
use Rattle.words.specs.Splice.{splice}
use Rattle.words.proofs.Splicing.{splice-behind, splice-none}
use Rattle.trailer.specs.Kinds.{layout_of, letters_of, length_of, is_wide, is_rounded, radius_size, rounding_size}
use Rattle.trailer.specs.Bytes.{radius_bytes, rounding_bytes, front_bytes, trailer_bytes}
use Rattle.trailer.specs.declared.Kind.{Kind}
use Rattle.trailer.specs.declared.Fields.{Fields}
use Rattle.trailer.specs.declared.Layout.{Layout}
use Rattle.trailer.proofs.Layouts.{length-is, length-letters, length_front, length-radius, length-rounding}

-- the first 14 bytes: five runs
pub front-put : (at : ℕ) (letters : List ℕ) (f : Fields) (l l₁ l₂ l₃ l₄ l₅ : List ℕ) → length letters ≡ 4 → at + 14 ≤ length l
    → l₁ ≡ splice at letters l
    → l₂ ≡ splice (at + 4) (word_bytes f.distance) l₁
    → l₃ ≡ splice (at + 8) (half_bytes f.width) l₂
    → l₄ ≡ splice (at + 10) (half_bytes f.depth) l₃
    → l₅ ≡ splice (at + 12) (half_bytes f.step) l₄
    → l₅ ≡ splice at (front_bytes letters f) l
unfolding front_bytes word_bytes half_bytes
front-put at letters f l l₁ l₂ l₃ l₄ l₅ n h p q r s t =
    let w : List ℕ = word_bytes f.distance in
    let x : List ℕ = half_bytes f.width in
    let y : List ℕ = half_bytes f.depth in
    let z : List ℕ = half_bytes f.step in
    let e₂ : l₂ ≡ splice at (letters ++ w) l = q ∙ splice-behind at 4 letters w l l₁ n (omega arith) p in
    let e₃ : l₃ ≡ splice at (letters ++ w ++ x) l = r ∙ splice-behind at 8 (letters ++ w) x l l₂ (simp length-append (omega arith)) (omega arith) e₂ in
    let e₄ : l₄ ≡ splice at (letters ++ w ++ x ++ y) l =
    s ∙ splice-behind at 10 (letters ++ w ++ x) y l l₃ (simp length-append (omega arith)) (omega arith) e₃ in
    t ∙ splice-behind at 12 (letters ++ w ++ x ++ y) z l l₄ (simp length-append (omega arith)) (omega arith) e₄

-- no rounding is put where the kind has none
pub rounding-none : (rounded : Bool) (at x : ℕ) (l : List ℕ) → rounded ≡ false → l ≡ splice at (rounding_bytes rounded x) l
rounding-none rounded at x l e = rw e (sym (splice-none at l))

-- the whole trailer: its front, its radius and its rounding
pub trailer-put : (at s : ℕ) (k : Kind) (y : Layout) (f : Fields) (l l₁ l₂ l₃ : List ℕ) → at + length_of k ≤ length l
    → y ≡ layout_of k → s ≡ radius_size y.wide
    → l₁ ≡ splice at (front_bytes y.letters f) l
    → l₂ ≡ splice (at + 14) (radius_bytes y.wide f.radius) l₁
    → l₃ ≡ splice (at + (14 + s)) (rounding_bytes y.rounded f.rounding) l₂
    → l₃ ≡ splice at (trailer_bytes k f) l
unfolding trailer_bytes
trailer-put at s k y f l l₁ l₂ l₃ h e w p q r =
    let a : List ℕ = front_bytes (letters_of k) f in
    let b : List ℕ = radius_bytes (is_wide k) f.radius in
    let c : List ℕ = rounding_bytes (is_rounded k) f.rounding in
    let n : length a ≡ 14 = length_front (letters_of k) f (length-letters k) in
    let nb : length b ≡ radius_size (is_wide k) = length-radius (is_wide k) f.radius in
    let nc : length c ≡ rounding_size (is_rounded k) = length-rounding (is_rounded k) f.rounding in
    let d : length_of k ≡ 14 + (radius_size (is_wide k) + rounding_size (is_rounded k)) = length-is k in
    let s' : s ≡ radius_size (is_wide k) = w ∙ ap (λ (y : Layout). radius_size y.wide) e in
    let p' : l₁ ≡ splice at a l = p ∙ ap (λ (y : Layout). splice at (front_bytes y.letters f) l) e in
    let q' : l₂ ≡ splice (at + 14) b l₁ = q ∙ ap (λ (y : Layout). splice (at + 14) (radius_bytes y.wide f.radius) l₁) e in
    let r' : l₃ ≡ splice (at + (14 + s)) c l₂ = r ∙ ap (λ (y : Layout). splice (at + (14 + s)) (rounding_bytes y.rounded f.rounding) l₂) e in
    let e₂ : l₂ ≡ splice at (a ++ b) l = q' ∙ splice-behind at 14 a b l l₁ n (omega arith) p' in
    r' ∙ splice-behind at (14 + s) (a ++ b) c l l₂ (simp length-append (omega arith)) (omega arith) e₂
