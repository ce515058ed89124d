-- A record taken apart, its z lifted, and put back. Assumes nothing.
use Prim.Native.Nat.{ℕ, ◌+◌, ◌-◌, ◌*◌, ◌%◌, ◌^◌, ◌≤◌, ◌<◌}
use mathlib.Core.Path.{◌≡◌, sym, ap, ◌∙◌}
use mathlib.Core.Bool.{true}
use mathlib.Core.List.{List}
use native.Mathlib.Omega.{arith}
use lib.ListN.{length}
use lib.IntN.{ℤ, pos, nat_abs, sub_ℕ, ◌+ℤ◌, ◌-ℤ◌, +ℤ_comm, -ℤ-+ℤ_cancel}
use Rattle.words.specs.Word.{word_at, word_bytes}
use Rattle.words.specs.Signed.{signed, word_of, with_sign}
use Rattle.words.specs.Parts.{parts_of}
use Rattle.words.specs.Splice.{splice}
use Rattle.words.specs.declared.Signed.{Signed}
use Rattle.words.proofs.Differences.{diff-word, word_small, signed_word, word-signed, magnitude-is, sign-back}
use Rattle.words.proofs.Splicing.{three-words}
use Rattle.cutter.specs.Limits.{radius_most, height_most}
use Rattle.cutter.specs.Centre.{record_bytes}
use Rattle.cutter.specs.Lift.{nine_at, lifted_over, lifted}
use Rattle.cutter.proofs.Lifts.{same-nine}
use Rattle.raising.specs.Biased.{lowered}
use Rattle.nine.specs.Offset.{centre_from}
use Rattle.lift.specs.Record.{centre_of_words, centre_read, Reaches}

-- ---- from a place

module _ (u p v : ℕ) (e : v ≡ word_of (signed u +ℤ with_sign true p)) (h : nat_abs (signed u -ℤ pos p) ≤ radius_most) where
  back_is : signed v ≡ signed u -ℤ pos p
  unfolding with_sign
  back_is = ap signed e ∙ signed_word (signed u -ℤ pos p) (omega arith)

  pub word_fits : v < 4294967296
  unfolding with_sign
  word_fits = rw e (word_small (signed u -ℤ pos p) (omega arith))

  pub away-is : (s : Signed) → s ≡ parts_of (signed v) → s ≡ parts_of (signed u -ℤ pos p)
  away-is s f = f ∙ ap parts_of back_is

  pub away-most : (s : Signed) → s ≡ parts_of (signed v) → s.magnitude ≤ radius_most
  away-most s f = omega (arith, magnitude-is s (signed u -ℤ pos p) (away-is s f))

-- ---- z

-- a word's number with the bias
module _ (z b : ℕ) (h : z < 4294967296) (e : signed z ≡ sub_ℕ b height_most) (small : b < 2 ^ 30) where
  word-is : z ≡ (b + 4294967296 - height_most) % 4294967296
  word-is = sym (word-signed z h) ∙ ap word_of e ∙ diff-word b height_most (omega arith) (omega arith)

  biased-back : (z + height_most) % 4294967296 ≡ b
  biased-back = omega (arith, word-is)

module _ (step c q x y z : ℕ) (r : Reaches step c q (centre_of_words x y z)) where
  pub biased-small : (b : ℕ) → z < 4294967296 → b ≡ (z + height_most) % 4294967296 → b < 2 ^ 30
  biased-small b h e = omega (arith, biased-back z r.biased h r.z r.small, r.small)

  -- the centre is its offsets' from the point, and z is lifted from its own
  pub word-lifted : (m : List ℕ) (w radius b u v : ℕ) (s t : Signed) → z < 4294967296
      → b ≡ (z + height_most) % 4294967296 → s ≡ parts_of (signed x -ℤ pos (c * step)) → t ≡ parts_of (signed y -ℤ pos (q * step))
      → lowered u ≡ lifted_over radius (nine_at m w step (centre_from step c q s t) c q) (lowered b) → v ≡ word_of (lowered u)
      → v ≡ word_of (lifted m w step radius c q (centre_of_words x y z)).z
  unfolding lifted
  word-lifted m w radius b u v s t h eb es et eu ev =
      let there : (n : ℕ) (a : ℤ) (s : Signed) → s ≡ parts_of (a -ℤ pos n) → pos n +ℤ with_sign s.negative s.magnitude ≡ a =
      λ n a s e. ap (λ (k : ℤ). pos n +ℤ k) (sign-back s (a -ℤ pos n) e) ∙ +ℤ_comm (pos n) (a -ℤ pos n) ∙ -ℤ-+ℤ_cancel a (pos n) in
      let nine = same-nine m w step c q (centre_from step c q s t) (centre_of_words x y z) (there (c * step) (signed x) s es) (there (q * step) (signed y) t et) in
      let low : lowered b ≡ signed z = ap lowered (eb ∙ biased-back z r.biased h r.z r.small) ∙ sym r.z in
      cc

-- ---- the record

pub record-lifted : (m : List ℕ) (w step radius c q at x y z v : ℕ) (l l₁ l₂ l₃ : List ℕ) → at + 12 ≤ length l
    → x ≡ word_at l at → y ≡ word_at l (at + 4) → z ≡ word_at l (at + 8) → x < 4294967296 → y < 4294967296
    → v ≡ word_of (lifted m w step radius c q (centre_of_words x y z)).z
    → l₁ ≡ splice at (word_bytes x) l → l₂ ≡ splice (at + 4) (word_bytes y) l₁ → l₃ ≡ splice (at + 8) (word_bytes v) l₂
    → l₃ ≡ splice at (record_bytes (lifted m w step radius c q (centre_read l at))) l
unfolding record_bytes lifted
record-lifted m w step radius c q at x y z v l l₁ l₂ l₃ room ex ey ez hx hy ev p₁ p₂ p₃ =
    cc (three-words at x y v l l₁ l₂ l₃ room p₁ p₂ p₃, word-signed x hx, word-signed y hy)
