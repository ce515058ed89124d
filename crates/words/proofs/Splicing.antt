-- Laws of bytes put over bytes: a write to a part is a splice, two splices that touch are one, and what was put is read again. Assumes nothing.
use mathlib.Core.Path.{◌≡◌, sym, ap, ap₂, ◌∙◌}
use mathlib.Core.List.{List, [], ◌++◌, append_assoc, append-nil}
use Prim.Native.Nat.{ℕ, ◌+◌, ◌-◌, ◌/◌, ◌%◌, ◌≤◌, ◌<◌}
use native.Mathlib.Nat.{add_assoc, add-zero, zero-add, div-div-eq-div-mul, div-add-mod', mod-eq_of_lt, div-lt_iff_lt-mul}
use native.Mathlib.Omega.{arith}
use lib.Dec.{lit<}
use lib.ListN.{length, take, drop, length-append, length-take, take-append-drop}
use lib.Seq.{drop-append-add, take-append_seam, drop-append_seam, drop-drop}
use Rattle.std.specs.Int.{w16, w32, to_le_bytes}
use Rattle.std.proofs.lemmas.List.Edits.{paste_all}
use Rattle.std.proofs.lemmas.Slice.{put_mid-paste}
use borrow.Rule.Slice.PartMut.{put_mid}
use Rattle.words.specs.Splice.{splice}
use Rattle.words.specs.Word.{half_at, word_at, half_bytes, word_bytes}

-- a write to the bytes from `at` to `at + n`
pub spliced : (at n : ℕ) (xs ys zs : List ℕ) → ys ≡ zs → length zs ≡ n → put_mid at (at + n - at) xs ys ≡ splice at zs xs
unfolding splice
spliced at n xs ys zs e h =
    put_mid-paste at (at + n - at) xs ys zs n e (omega arith) (sym h)
    ∙ paste_all xs at zs n (sym h)
    ∙ ap (λ (m : ℕ). take at xs ++ (zs ++ drop (at + m) xs)) (sym h)
    ∙ sym (append_assoc (take at xs) zs (drop (at + length zs) xs))

-- the bytes that std writes of a number's last 16 or 32 bits
pub half-low : (x : ℕ) → to_le_bytes w16 (x % 65536) ≡ half_bytes x
unfolding half_bytes
half-low x =
    let a : x % 65536 % 256 ≡ x % 256 = omega arith in
    let b : x % 65536 / 256 % 256 ≡ x / 256 % 256 = omega arith in
    cc

pub word-low : (x : ℕ) → to_le_bytes w32 (x % 4294967296) ≡ word_bytes x
unfolding word_bytes
word-low x =
    let a : x % 4294967296 % 256 ≡ x % 256 = omega arith in
    let b : x % 4294967296 / 256 % 256 ≡ x / 256 % 256 = omega arith in
    let c : x % 4294967296 / 65536 % 256 ≡ x / 65536 % 256 = omega arith in
    let d : x % 4294967296 / 16777216 % 256 ≡ x / 16777216 % 256 = omega arith in
    cc

-- bytes put at the end of a written front lengthen it
pub splice_front : (p b l : List ℕ) (at : ℕ) → at ≡ length p
    → splice at b (p ++ drop at l) ≡ (p ++ b) ++ drop (at + length b) l
unfolding splice
splice_front p b l at h = rw (h, take-append_seam, drop-append-add, drop-drop)

-- a second run right behind the first
pub splice-splice : (at : ℕ) (a b l : List ℕ) → at + length a + length b ≤ length l
    → splice (at + length a) b (splice at a l) ≡ splice at (a ++ b) l
unfolding splice
splice-splice at a b l h =
    let n : at + length a ≡ length (take at l ++ a) = simp (length-append, length-take) (omega arith) in
    splice_front (take at l ++ a) b l (at + length a) n ∙ simp (length-append, append_assoc, add_assoc)

-- a run right behind a run that was put, the first n bytes long
pub splice-behind : (at n : ℕ) (a b l l₁ : List ℕ) → length a ≡ n → at + n + length b ≤ length l → l₁ ≡ splice at a l
    → splice (at + n) b l₁ ≡ splice at (a ++ b) l
splice-behind at n a b l l₁ e h p =
    ap (splice (at + n) b) p
    ∙ ap (λ (k : ℕ). splice (at + k) b (splice at a l)) (sym e)
    ∙ splice-splice at a b l (omega arith)

-- a run over one that is as long
pub splice-again : (at : ℕ) (a b l : List ℕ) → at ≤ length l → length a ≡ length b → splice at b (splice at a l) ≡ splice at b l
unfolding splice
splice-again at a b l room e =
    let n : length (take at l) ≡ at = simp length-take (omega arith) in
    let front : take at (take at l ++ a ++ drop (at + length a) l) ≡ take at l =
    ap₂ take (sym n) (append_assoc (take at l) a (drop (at + length a) l)) ∙ take-append_seam (take at l) (a ++ drop (at + length a) l) in
    let m : length (take at l ++ a) ≡ at + length b = simp (length-append, length-take) (omega arith) in
    let back : drop (at + length b) (take at l ++ a ++ drop (at + length a) l) ≡ drop (at + length b) l =
    ap (λ (k : ℕ). drop k (take at l ++ a ++ drop (at + length a) l)) (sym m)
    ∙ drop-append_seam (take at l ++ a) (drop (at + length a) l)
    ∙ ap (λ (k : ℕ). drop (at + k) l) e in
    ap₂ (λ (f r : List ℕ). f ++ b ++ r) front back

-- nothing put
pub splice-none : (at : ℕ) (l : List ℕ) → splice at [] l ≡ l
unfolding splice
splice-none at l = simp (add-zero, append-nil, take-append-drop)

-- the bytes that stand at the front of a list, and those behind them
pub splice-take : (b l : List ℕ) → take (length b) (splice 0 b l) ≡ b
unfolding splice
splice-take b l = take-append_seam b (drop (0 + length b) l)

pub splice-drop : (b l : List ℕ) → drop (length b) (splice 0 b l) ≡ drop (length b) l
unfolding splice
splice-drop b l = drop-append_seam b (drop (0 + length b) l) ∙ ap (λ (n : ℕ). drop n l) (zero-add (length b))

-- three words, each right behind the one before
pub three-words : (at x y z : ℕ) (l l₁ l₂ l₃ : List ℕ) → at + 12 ≤ length l
    → l₁ ≡ splice at (word_bytes x) l → l₂ ≡ splice (at + 4) (word_bytes y) l₁ → l₃ ≡ splice (at + 8) (word_bytes z) l₂
    → l₃ ≡ splice at (word_bytes x ++ word_bytes y ++ word_bytes z) l
unfolding word_bytes
three-words at x y z l l₁ l₂ l₃ h e₁ e₂ e₃ =
    e₃
    ∙ ap (splice (at + 8) (word_bytes z))
    (e₂ ∙ ap (splice (at + 4) (word_bytes y)) e₁ ∙ splice-splice at (word_bytes x) (word_bytes y) l (omega arith))
    ∙ splice-splice at (word_bytes x ++ word_bytes y) (word_bytes z) l (omega arith)

-- a number that was put is read again
pub half_back : (x : ℕ) → x < 65536 → half_at (half_bytes x) 0 ≡ x
unfolding half_bytes
half_back x h =
    let c : x / 256 < 256 = (div-lt_iff_lt-mul (lit< tt)).1 h in
    let d : x / 256 % 256 ≡ x / 256 = mod-eq_of_lt c in
    omega (arith, div-add-mod' x 256)

pub word_back : (x : ℕ) → x < 4294967296 → word_at (word_bytes x) 0 ≡ x
unfolding word_bytes
word_back x h =
    let a : x / 256 / 256 ≡ x / 65536 = div-div-eq-div-mul x 256 256 in
    let b : x / 65536 / 256 ≡ x / 16777216 = div-div-eq-div-mul x 65536 256 in
    let c : x / 16777216 < 256 = (div-lt_iff_lt-mul (lit< tt)).1 h in
    let d : x / 16777216 % 256 ≡ x / 16777216 = mod-eq_of_lt c in
    omega (arith, div-add-mod' x 256, div-add-mod' (x / 256) 256, div-add-mod' (x / 65536) 256)

-- the words of a run of three
pub three_back : (x y z : ℕ) → x < 4294967296 → y < 4294967296 → z < 4294967296
    → (word_at (word_bytes x ++ word_bytes y ++ word_bytes z) 0 ≡ x)
    × (word_at (word_bytes x ++ word_bytes y ++ word_bytes z) 4 ≡ y)
    × (word_at (word_bytes x ++ word_bytes y ++ word_bytes z) 8 ≡ z)
unfolding word_bytes
three_back x y z hx hy hz = (word_back x hx, word_back y hy, word_back z hz)
