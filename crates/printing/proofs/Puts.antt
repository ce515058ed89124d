-- Texts put into a buffer, one behind the other. Assumes nothing.
use Rattle.std.proofs.Common.{◌≡◌, ℕ, ◌+◌, ◌*◌, ◌≤◌, List, length, add-one}
use Rattle.std.proofs.Math.Nat.{mul-suc}
use Rattle.words.specs.Joined.{joined}
use Rattle.decimal.specs.Put.{PutAt}
use Rattle.decimal.proofs.Putting.{none-put, put-within, put-behind}

-- texts of at most k bytes, one behind the other
pub texts_none : (f : ℕ → List ℕ) (k at : ℕ) (l : List ℕ) → PutAt at (k * 0) (joined f 0) l at l
unfolding joined
texts_none f k at l = none-put l at (k * 0)

pub texts_more : (f : ℕ → List ℕ) (k at n : ℕ) (l : List ℕ) (p : ℕ) (l₁ : List ℕ) (b : List ℕ) (end : ℕ) (l₂ : List ℕ) → at + (k * n + k) ≤ length l
    → b ≡ f n → length b ≤ k
    → PutAt at (k * n) (joined f n) l p l₁ → PutAt p (length b) b l₁ end l₂ → PutAt at (k * (n + 1)) (joined f (n + 1)) l end l₂
unfolding joined
texts_more f k at n l p l₁ b end l₂ h e few s t =
    let u : PutAt p k (f n) l₁ end l₂ = rw e at (put-within p (length b) k b l₁ end l₂ few t) in
    rw (add-one, mul-suc) (put-behind at (k * n) k p end (joined f n) (f n) l l₁ l₂ h s u)
