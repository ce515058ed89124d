-- A byte changed before a trailer leaves what the bytes end in. Assumes nothing.
use mathlib.Core.Path.{◌≡◌, refl, ap, ◌∙◌}
use mathlib.Core.Bool.{Bool, true, false}
use mathlib.Core.List.{List}
use Prim.Native.Nat.{ℕ, ◌+◌, ◌-◌, ◌<◌}
use native.Mathlib.Omega.{arith}
use lib.ListN.{length, get_or, set, length-set}
use lib.Seq.{get_or-set_other}
use Rattle.words.specs.Word.{half_at, word_at}
use Rattle.trailer.specs.Kinds.{length_of, is_wide, is_rounded, radius_size}
use Rattle.trailer.specs.Bytes.{radius_at, rounding_at, fields_at, last_fields}
use Rattle.trailer.specs.declared.Kind.{Kind}

-- byte i is changed, and the trailer stands from `at` on
module _ (m : List ℕ) (i b at : ℕ) (before : i < at) where
  byte-kept : (j : ℕ) → get_or (set m i b) (at + j) 0 ≡ get_or m (at + j) 0
  byte-kept j = get_or-set_other m i (at + j) b 0 (λ e. omega arith)

  half-kept : (j : ℕ) → half_at (set m i b) (at + j) ≡ half_at m (at + j)
  half-kept j = let b₁ = get_or-set_other m i (at + j + 1) b 0 (λ e. omega arith) in cc (byte-kept j)

  word_kept : (j : ℕ) → word_at (set m i b) (at + j) ≡ word_at m (at + j)
  word_kept j =
      let b₁ = get_or-set_other m i (at + j + 1) b 0 (λ e. omega arith) in
      let b₂ = get_or-set_other m i (at + j + 2) b 0 (λ e. omega arith) in
      let b₃ = get_or-set_other m i (at + j + 3) b 0 (λ e. omega arith) in
      cc (byte-kept j)

  radius-kept : (wide : Bool) (j : ℕ) → radius_at wide (set m i b) (at + j) ≡ radius_at wide m (at + j)
  radius-kept true j = word_kept j
  radius-kept false j = half-kept j

  rounding-kept : (rounded : Bool) (j : ℕ) → rounding_at rounded (set m i b) (at + j) ≡ rounding_at rounded m (at + j)
  rounding-kept true j = half-kept j
  rounding-kept false j = refl

  fields-kept : (k : Kind) → fields_at k (set m i b) at ≡ fields_at k m at
  unfolding fields_at
  fields-kept k =
      cc (
        word_kept 4,
        half-kept 8,
        half-kept 10,
        half-kept 12,
        radius-kept (is_wide k) 14,
        rounding-kept (is_rounded k) (14 + radius_size (is_wide k)),
      )

pub last-kept : (k : Kind) (m : List ℕ) (i b : ℕ) → i + length_of k < length m → last_fields k (set m i b) ≡ last_fields k m
unfolding last_fields
last-kept k m i b h =
    ap (λ (n : ℕ). fields_at k (set m i b) (n - length_of k)) (length-set m i b)
    ∙ fields-kept m i b (length m - length_of k) (omega arith) k
