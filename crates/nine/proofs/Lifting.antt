-- Row by row, from a start that is not past its own height's rule, the nine heights raise z to the lifted one. Assumes nothing.
use Prim.Native.Nat.{ℕ, ◌+◌, ◌-◌, ◌*◌, ◌^◌, ◌<◌}
use mathlib.Core.Path.{◌≡◌, sym, ap, subst, ◌∙◌}
use mathlib.Core.List.{List, ◌++◌}
use native.Mathlib.Omega.{arith}
use lib.Dec.{T}
use lib.IntN.{ℤ}
use Rattle.numbers.specs.Least.{LeastFrom, NotPast}
use Rattle.numbers.proofs.Least.{least-from, first, second}
use Rattle.words.specs.Word.{word_at}
use Rattle.words.specs.Signed.{signed}
use Rattle.words.specs.declared.Signed.{Signed}
use Rattle.cutter.specs.Limits.{height_most}
use Rattle.cutter.specs.Map.{Inner}
use Rattle.cutter.specs.Lift.{Contact, meets, meets_all, nine_at, lifted_over}
use Rattle.cutter.proofs.Lifts.{all_append, lifted-biased}
use Rattle.raising.specs.Biased.{lowered, contact_from, three_from, meets_one, meets_these}
use Rattle.raising.specs.declared.Squares.{Squares}
use Rattle.raising.proofs.Steps.{these-then}
use Rattle.nine.specs.Offset.{squares_of, nine_from, centre_from}
use Rattle.nine.proofs.Distances.{nine-is}

-- the nine round a point
pub nine-raised : (m : List ℕ) (w radius c q : ℕ) (x y : Squares) (z r₁ r₂ r₃ : ℕ)
    → LeastFrom (meets_these radius (three_from m ((q - 1) * w + c - 1) x y.before)) z r₁
    → LeastFrom (meets_these radius (three_from m (q * w + c - 1) x y.own)) r₁ r₂
    → LeastFrom (meets_these radius (three_from m ((q + 1) * w + c - 1) x y.behind)) r₂ r₃
    → LeastFrom (meets_these radius (nine_from m w c q x y)) z r₃
nine-raised m w radius c q x y z r₁ r₂ r₃ f₁ f₂ f₃ =
    let a = three_from m ((q - 1) * w + c - 1) x y.before in
    let b = three_from m (q * w + c - 1) x y.own in
    let e = three_from m ((q + 1) * w + c - 1) x y.behind in
    these-then radius a (b ++ e) z r₁ r₃ f₁ (these-then radius b e r₁ r₂ r₃ f₂ f₃)

-- what meets the rule for all meets it for the second of the middle row
middle : (radius : ℕ) (m : List ℕ) (i j : ℕ) (x : Squares) (v : ℕ) (ks ls : List Contact) (h : ℕ) (n : ℕ) → i + 1 ≡ j → lowered h ≡ signed (word_at m (4 * j))
    → T (meets_these radius (ks ++ (three_from m i x v ++ ls)) n) → T (meets_one radius h (x.own + v) n)
unfolding meets_all
middle radius m i j x v ks ls h n place e t =
    let all = subst T (all_append radius ks (three_from m i x v ++ ls) (lowered n)) t in
    let behind = second (meets_these radius ks n) (meets_these radius (three_from m i x v ++ ls) n) all in
    let own = second (meets radius (contact_from m i (x.before + v)) (lowered n)) _ behind in
    subst (λ (k : ℤ). T (meets radius (record { height = k; apart = x.own + v }) (lowered n))) (ap (λ (j : ℕ). signed (word_at m (4 * j))) place ∙ sym e)
    (first (meets radius (contact_from m (i + 1) (x.own + v)) (lowered n)) _ own)

-- so the nine raise z as far from such a start as from z itself
pub lifted-is : (m : List ℕ) (w d step radius c q : ℕ) (x y : Signed) (xs ys : Squares) (p h z n r : ℕ)
    → Inner w d c q → xs ≡ squares_of x step → ys ≡ squares_of y step → p ≡ q * w + c → lowered h ≡ signed (word_at m (4 * p))
    → NotPast (meets_one radius h (xs.own + ys.own)) z n
    → LeastFrom (meets_these radius (nine_from m w c q xs ys)) n r
    → r < 2 ^ 31 → lowered r ≡ lifted_over radius (nine_at m w step (centre_from step c q x y) c q) (lowered z)
lifted-is m w d step radius c q x y xs ys p h z n r i ex ey ep eh nudged all small =
    let a = three_from m ((q - 1) * w + c - 1) xs ys.before in
    let e = three_from m ((q + 1) * w + c - 1) xs ys.behind in
    let ks = nine_from m w c q xs ys in
    let whole : LeastFrom (meets_these radius ks) z r =
    least-from (meets_one radius h (xs.own + ys.own)) (meets_these radius ks) z n r
    (λ n t. middle radius m (q * w + c - 1) p xs ys.own a e h n (omega (arith, i.left)) eh t) nudged all in
    let nine : nine_at m w step (centre_from step c q x y) c q ≡ ks = cc (nine-is m w step c q x y i.left i.above) in
    lifted-biased radius ks height_most z r whole (omega arith) ∙ ap (λ (ks : List Contact). lifted_over radius ks (lowered z)) (sym nine)
