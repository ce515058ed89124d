-- A run of bytes that stands at a place of a list is read from there, wherever that is. Assumes nothing.
use mathlib.Core.Path.{◌≡◌, sym, ap, ◌∙◌}
use mathlib.Core.Bool.{true}
use mathlib.Core.List.{List, ◌++◌, append_assoc}
use Prim.Native.Nat.{ℕ, ◌+◌, ◌-◌, ◌≤◌, ◌<◌}
use native.Mathlib.Nat.{add_assoc, add-zero}
use native.Mathlib.Omega.{arith}
use borrow.Author.Tests.{eq-eqb}
use lib.Dec.{lit<}
use lib.ListN.{length, get_or, take, drop, length-append, length-take, get_or-append}
use lib.Seq.{get_or-append-add, get_or-drop}
use Rattle.words.specs.Word.{half_at, word_at, half_bytes, word_bytes, reads_at}
use Rattle.words.specs.Splice.{splice}
use Rattle.words.proofs.Splicing.{half_back, word_back}

-- the run b stands in m from `at` on
abbrev pub Stands : List ℕ → ℕ → List ℕ → Type 0
Stands m at b = (i : ℕ) → i < length b → get_or m (at + i) 0 ≡ get_or b i 0

-- where a run stands: behind a list, with more behind it; at the end; where it was put
stands-between : (p b q : List ℕ) → Stands (p ++ (b ++ q)) (length p) b
stands-between p b q i h = get_or-append-add p (b ++ q) i 0 ∙ get_or-append b q 0 i h

pub stands-end : (p b : List ℕ) → Stands (p ++ b) (length p) b
stands-end p b i h = get_or-append-add p b i 0

pub stands-splice : (at : ℕ) (b l : List ℕ) → at ≤ length l → Stands (splice at b l) at b
unfolding splice
stands-splice at b l h i g =
    let e : length (take at l) ≡ at = simp length-take (omega arith) in
    ap (λ (x : List ℕ). get_or x (at + i) 0) (append_assoc (take at l) b (drop (at + length b) l))
    ∙ ap (λ (n : ℕ). get_or (take at l ++ (b ++ drop (at + length b) l)) (n + i) 0) (sym e)
    ∙ stands-between (take at l) b (drop (at + length b) l) i g

-- the word from byte i of a run that stands
pub stands_at : (m : List ℕ) (at : ℕ) (b : List ℕ) (i : ℕ) → Stands m at b → i + 4 ≤ length b → word_at m (at + i) ≡ word_at b i
stands_at m at b i s h =
    cc (s i (omega arith), s (i + 1) (omega arith), s (i + 2) (omega arith), s (i + 3) (omega arith), add_assoc at i 1, add_assoc at i 2, add_assoc at i 3)

-- what stands behind a run that is put stays
behind-byte : (at : ℕ) (b l : List ℕ) (i : ℕ) → at ≤ length l → at + length b ≤ i → get_or (splice at b l) i 0 ≡ get_or l i 0
unfolding splice
behind-byte at b l i room h =
    let e : length (take at l ++ b) ≡ at + length b = simp (length-append, length-take) (omega arith) in
    let j : at + length b + (i - (at + length b)) ≡ i = omega arith in
    ap (λ (x : ℕ). get_or (take at l ++ b ++ drop (at + length b) l) x 0) (sym j)
    ∙ ap (λ (n : ℕ). get_or (take at l ++ b ++ drop (at + length b) l) (n + (i - (at + length b))) 0) (sym e)
    ∙ get_or-append-add (take at l ++ b) (drop (at + length b) l) (i - (at + length b)) 0
    ∙ get_or-drop (at + length b) l (i - (at + length b)) 0
    ∙ ap (λ (x : ℕ). get_or l x 0) j

pub behind-word : (at : ℕ) (b l : List ℕ) (i : ℕ) → at ≤ length l → at + length b ≤ i → word_at (splice at b l) i ≡ word_at l i
behind-word at b l i room h =
    cc (behind-byte at b l i room h, behind-byte at b l (i + 1) room (omega arith), behind-byte at b l (i + 2) room (omega arith), behind-byte at b l (i + 3) room (omega arith))

-- the two parts of a run that stands
pub stands-left : (m : List ℕ) (at : ℕ) (a b : List ℕ) → Stands m at (a ++ b) → Stands m at a
stands-left m at a b s i h = s i (simp length-append (omega arith)) ∙ get_or-append a b 0 i h

pub stands-right : (m : List ℕ) (at n : ℕ) (a b : List ℕ) → length a ≡ n → Stands m at (a ++ b) → Stands m (at + n) b
stands-right m at n a b e s i h =
    ap (λ (x : ℕ). get_or m x 0) (add_assoc at n i)
    ∙ s (n + i) (simp length-append (omega arith))
    ∙ ap (λ (x : ℕ). get_or (a ++ b) (x + i) 0) (sym e)
    ∙ get_or-append-add a b i 0

-- numbers and letters that stand are read
pub stands-half : (m : List ℕ) (at x : ℕ) → Stands m at (half_bytes x) → x < 65536 → half_at m at ≡ x
unfolding half_bytes
stands-half m at x s h = cc (s 0 (lit< tt), s 1 (lit< tt), add-zero at, half_back x h)

pub stands_word : (m : List ℕ) (at x : ℕ) → Stands m at (word_bytes x) → x < 4294967296 → word_at m at ≡ x
unfolding word_bytes
stands_word m at x s h =
    cc (s 0 (lit< tt), s 1 (lit< tt), s 2 (lit< tt), s 3 (lit< tt), add-zero at, word_back x h)

pub stands-reads : (m : List ℕ) (at : ℕ) (name : List ℕ) → length name ≡ 4 → Stands m at name → reads_at m at name ≡ true
stands-reads m at name n s =
    let a : get_or m at 0 ≡ get_or name 0 0 = ap (λ (x : ℕ). get_or m x 0) (sym (add-zero at)) ∙ s 0 (omega arith) in
    simp (
      eq-eqb (get_or m at 0) (get_or name 0 0) a,
      eq-eqb (get_or m (at + 1) 0) (get_or name 1 0) (s 1 (omega arith)),
      eq-eqb (get_or m (at + 2) 0) (get_or name 2 0) (s 2 (omega arith)),
      eq-eqb (get_or m (at + 3) 0) (get_or name 3 0) (s 3 (omega arith)),
    )
