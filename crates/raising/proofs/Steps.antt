-- One test of squares tells whether a height lifts z; and steps over several heights, one after the other. Assumes nothing.
use Prim.Native.Nat.{ℕ, ◌+◌, ◌-◌, ◌*◌, ◌^◌, ◌≤◌, ◌<◌}
use mathlib.Core.Path.{◌≡◌, refl, sym, ap, subst, ◌∙◌}
use mathlib.Core.Bool.{Bool, true, false, ◌&&◌}
use mathlib.Core.List.{List, [], ◌∷◌, ◌++◌}
use native.Mathlib.Nat.{mul-le-mul}
use native.Mathlib.Omega.{arith}
use borrow.Author.Tests.{ltb-true, ltb-false}
use lib.Dec.{T, leb, ltb, leb→le, le→leb}
use lib.IntN.{ℤ}
use mir.Syntax.{w64}
use mir.Val.{Fits}
use Rattle.numbers.specs.Least.{LeastFrom, NotPast}
use Rattle.numbers.proofs.Least.{Monotone, least-then, least-same}
use Rattle.numbers.proofs.Differences.{diff-more}
use Rattle.numbers.proofs.Squares.{square-below}
use Rattle.words.specs.Word.{word_at}
use Rattle.words.specs.Signed.{signed}
use Rattle.cutter.specs.Limits.{height_most}
use Rattle.cutter.specs.Lift.{Contact, meets, meets_all}
use Rattle.cutter.proofs.Lifts.{meets-diff, all_up, all_append}
use Rattle.ceiling.specs.Root.{ceiling_root}
use Rattle.ceiling.proofs.Least.{ceiling-reaches, ceiling-least}
use Rattle.raising.specs.Biased.{lowered, contact_from, three_from, meets_one, meets_these}
use Rattle.raising.specs.declared.Squares.{Squares}

and-true : (b : Bool) → (b && true) ≡ b
and-true true = refl
and-true false = refl

-- ---- one height

module _ (radius h apart : ℕ) where
  same_test : (y : ℕ) → meets_one radius h apart y ≡ leb (radius * radius - apart) ((y - h) * (y - h))
  same_test y =
      let e : y + height_most - (h + height_most) ≡ y - h = omega arith in
      meets-diff radius h height_most y height_most apart ∙ ap (λ (d : ℕ). leb (radius * radius - apart) (d * d)) e

  keeps : (y : ℕ) → radius * radius - apart ≤ (y - h) * (y - h) → T (meets_one radius h apart y)
  keeps y l = subst T (sym (same_test y)) (le→leb (radius * radius - apart) ((y - h) * (y - h)) l)

  kept : (y : ℕ) → T (meets_one radius h apart y) → radius * radius - apart ≤ (y - h) * (y - h)
  kept y t = leb→le (radius * radius - apart) ((y - h) * (y - h)) (subst T (same_test y) t)

  module _ (z : ℕ) (b : Bool) (b-is : b ≡ ltb ((z - h) * (z - h)) (radius * radius - apart)) where
    near-is : b ≡ true → (z - h) * (z - h) < radius * radius - apart
    near-is t = ltb-true ((z - h) * (z - h)) (radius * radius - apart) (sym b-is ∙ t)

    far-is : b ≡ false → radius * radius - apart ≤ (z - h) * (z - h)
    far-is f = ltb-false ((z - h) * (z - h)) (radius * radius - apart) (sym b-is ∙ f)

    -- the ball touches it: the height plus the root rounded up
    pub raises : (r : ℕ) → r ≡ ceiling_root (radius * radius - apart) → radius < 2 ^ 22 → b ≡ true → LeastFrom (meets_one radius h apart) z (h + r)
    raises r r-is small t =
        let s : ℕ = radius * radius - apart in
        let near = near-is t in
        let top : radius * radius < 2 ^ 44 = omega (arith, mul-le-mul small small) in
        let reach : s ≤ r * r = rw r-is (ceiling-reaches s (omega arith)) in
        let e : h + r - h ≡ r = omega arith in
        record {
          above = omega (arith, square-below (z - h) r (omega arith));
          passes = keeps (h + r) (rw e reach);
          least = λ y l t.
              let far = kept y t in
              let low : r ≤ y - h = rw r-is (ceiling-least s (y - h) far) in
              omega (arith, square-below (z - h) (y - h) (omega arith));
        }

    -- it does not: z
    pub stays : b ≡ false → LeastFrom (meets_one radius h apart) z z
    stays f = record { above = omega arith; passes = keeps z (far-is f); least = λ y l t. l }

    -- a step by one, where it touches, is not too far
    pub nudges : b ≡ true → NotPast (meets_one radius h apart) z (z + 1)
    nudges t =
        record {
          above = omega arith;
          least = λ y l u.
              let near = near-is t in
              let far = kept y u in
              omega (arith, square-below (z - h) (y - h) (omega arith));
        }

  pub raised-small : (r : ℕ) → r ≡ ceiling_root (radius * radius - apart) → radius < 2 ^ 22 → h < 2 ^ 30 → h + r < 2 ^ 31
  raised-small r r-is small low = omega (arith, ceiling-least (radius * radius - apart) (2 ^ 22) (omega (arith, mul-le-mul small small)))

-- sizes
pub raised-fits : (radius apart a r : ℕ) → r ≡ ceiling_root (radius * radius - apart) → radius < 2 ^ 22 → a < 2 ^ 30 → Fits w64 (a + r)
raised-fits radius apart a r r-is small low = omega (arith, ceiling-least (radius * radius - apart) (2 ^ 22) (omega (arith, mul-le-mul small small)))

-- ---- several heights

module _ (radius : ℕ) where
  -- one, as the map has it
  one-is : (h apart : ℕ) (x : ℤ) (z r : ℕ) → lowered h ≡ x → LeastFrom (meets_one radius h apart) z r
      → LeastFrom (meets_these radius (record { height = x; apart = apart } ∷ [])) z r
  unfolding meets_all
  one-is h apart x z r e f =
      least-same (meets_one radius h apart) (meets_these radius (record { height = x; apart = apart } ∷ [])) z r
      (λ n. ap (λ (k : ℤ). meets radius (record { height = k; apart = apart }) (lowered n)) e ∙ sym (and-true (meets radius (record { height = x; apart = apart }) (lowered n))))
      f

  these-up : (ks : List Contact) → Monotone (meets_these radius ks)
  these-up ks a b h t =
      let e : a + (b - a) ≡ b = omega arith in
      subst (λ (z : ℤ). T (meets_all radius ks z)) (diff-more a height_most (b - a) ∙ ap lowered e) (all_up radius ks (lowered a) (b - a) t)

  -- one list after the other
  pub these-then : (ks ls : List Contact) (x y z : ℕ) → LeastFrom (meets_these radius ks) x y → LeastFrom (meets_these radius ls) y z
      → LeastFrom (meets_these radius (ks ++ ls)) x z
  these-then ks ls x y z f g =
      least-same (λ (n : ℕ). meets_these radius ks n && meets_these radius ls n) (meets_these radius (ks ++ ls)) x z
      (λ n. sym (all_append radius ks ls (lowered n)))
      (least-then (meets_these radius ks) (meets_these radius ls) x y z (these-up ks) f g)

  -- three heights of a row
  pub row-raised : (m : List ℕ) (i : ℕ) (x : Squares) (y h₀ h₁ h₂ z r₀ r₁ r₂ : ℕ)
      → lowered h₀ ≡ signed (word_at m (4 * i)) → lowered h₁ ≡ signed (word_at m (4 * (i + 1))) → lowered h₂ ≡ signed (word_at m (4 * (i + 2)))
      → LeastFrom (meets_one radius h₀ (x.before + y)) z r₀ → LeastFrom (meets_one radius h₁ (x.own + y)) r₀ r₁
      → LeastFrom (meets_one radius h₂ (x.behind + y)) r₁ r₂ → LeastFrom (meets_these radius (three_from m i x y)) z r₂
  row-raised m i x y h₀ h₁ h₂ z r₀ r₁ r₂ e₀ e₁ e₂ f₀ f₁ f₂ =
      let p = one-is h₀ (x.before + y) _ z r₀ e₀ f₀ in
      let o = one-is h₁ (x.own + y) _ r₀ r₁ e₁ f₁ in
      let n = one-is h₂ (x.behind + y) _ r₁ r₂ e₂ f₂ in
      these-then (contact_from m i (x.before + y) ∷ []) (contact_from m (i + 1) (x.own + y) ∷ contact_from m (i + 2) (x.behind + y) ∷ []) z r₀ r₂ p
      (these-then (contact_from m (i + 1) (x.own + y) ∷ []) (contact_from m (i + 2) (x.behind + y) ∷ []) r₀ r₁ r₂ o n)
