-- A height and its word with the bias. Assumes nothing.
use mathlib.Core.Path.{◌≡◌, sym, ap, ◌∙◌}
use mathlib.Core.List.{List}
use Prim.Native.Nat.{ℕ, ◌+◌, ◌*◌, ◌-◌, ◌%◌, ◌≤◌, ◌<◌}
use native.Mathlib.Omega.{arith}
use lib.Dec.{lit<}
use lib.IntN.{sub_ℕ, nat_abs}
use Rattle.words.specs.Word.{word_at}
use Rattle.words.specs.Signed.{signed, word_of}
use Rattle.words.proofs.Differences.{signed-biased, within-biased, diff-word}
use Rattle.cutter.specs.Limits.{height_most, difference_most}
use Rattle.cutter.specs.Accepted.{Heights}

module _ (m : List ℕ) (n i u a : ℕ) (hs : Heights m n) (hi : i < n) (eu : u ≡ word_at m (4 * i)) (hu : u < 4294967296) where
  pub biased-most : a ≡ (u + height_most) % 4294967296 → a ≤ difference_most
  biased-most ea =
      let h : nat_abs (signed u) ≤ height_most = rw eu (hs.small i hi) in
      omega (arith, within-biased height_most u (lit< tt) hu h)

  pub biased-is : a ≡ (u + height_most) % 4294967296 → sub_ℕ a height_most ≡ signed (word_at m (4 * i))
  biased-is ea =
      let h : nat_abs (signed u) ≤ height_most = rw eu (hs.small i hi) in
      sym (ap signed (sym eu) ∙ signed-biased height_most u (lit< tt) hu (within-biased height_most u (lit< tt) hu h) ∙ ap (λ (x : ℕ). sub_ℕ x height_most) (sym ea))

pub unbiased-is : (u : ℕ) → u < 4294967296 → (u + (4294967296 - height_most)) % 4294967296 ≡ word_of (sub_ℕ u height_most)
unbiased-is u h =
    let e : (u + (4294967296 - height_most)) % 4294967296 ≡ (u + 4294967296 - height_most) % 4294967296 = omega arith in
    e ∙ sym (diff-word u height_most h (omega arith))
