-- The heights of a map by fours of its bytes. Assumes nothing.
use Rattle.std.proofs.Common.{◌≡◌, ap, ◌∙◌, ℕ, zero, suc, ◌+◌, ◌*◌, ◌<◌, ◌≤◌, List, [], length, take, drop, get_or, arith}
use Rattle.std.specs.Simd.{first_chunks}
use Rattle.std.proofs.lemmas.List.{get_or-drop, get_or-take, length-take}
use Rattle.words.specs.Word.{word_at}

-- the four bytes at place i are the word from byte 4·i on
pub four-is : (s : List ℕ) (k i : ℕ) → i < k → word_at (get_or (first_chunks 4 k s) i []) 0 ≡ word_at s (4 * i)
four-is s zero i l = absurd (omega arith)
four-is s (suc k) zero l = cc (get_or-take 4 s 0 0 (omega arith), get_or-take 4 s 1 0 (omega arith), get_or-take 4 s 2 0 (omega arith), get_or-take 4 s 3 0 (omega arith))
four-is s (suc k) (suc i) l =
    let b₀ : get_or (drop 4 s) (4 * i) 0 ≡ get_or s (4 * suc i) 0 = get_or-drop 4 s (4 * i) 0 ∙ ap (λ x. get_or s x 0) (omega arith) in
    let b₁ : get_or (drop 4 s) (4 * i + 1) 0 ≡ get_or s (4 * suc i + 1) 0 = get_or-drop 4 s (4 * i + 1) 0 ∙ ap (λ x. get_or s x 0) (omega arith) in
    let b₂ : get_or (drop 4 s) (4 * i + 2) 0 ≡ get_or s (4 * suc i + 2) 0 = get_or-drop 4 s (4 * i + 2) 0 ∙ ap (λ x. get_or s x 0) (omega arith) in
    let b₃ : get_or (drop 4 s) (4 * i + 3) 0 ≡ get_or s (4 * suc i + 3) 0 = get_or-drop 4 s (4 * i + 3) 0 ∙ ap (λ x. get_or s x 0) (omega arith) in
    cc (four-is (drop 4 s) k i (omega arith))

-- so it is of the first n of them
pub height-four : (s : List ℕ) (k : ℕ) (hs : List (List ℕ)) (n i : ℕ) → hs ≡ first_chunks 4 k s → i < length (take n hs) → n ≤ k
    → word_at (get_or (take n hs) i []) 0 ≡ word_at s (4 * i)
height-four s k hs n i e l h =
    let j : i < n = omega (arith, length-take n hs) in
    ap (λ (b : List ℕ). word_at b 0) (get_or-take n hs i [] j) ∙ ap (λ (hs : List (List ℕ)). word_at (get_or hs i []) 0) e ∙ four-is s k i (omega arith)
