-- One centre, rounded down and up: both are equal exactly where the point is exact, and a coordinate that differs is larger by one
-- in the upper. Assumes nothing.
use mathlib.Core.Path.{◌≡◌, sym, ap, ◌∙◌}
use mathlib.Core.Logic.{inl, inr}
use Prim.Native.Nat.{ℕ, zero, suc, ◌*◌}
use native.Mathlib.Nat.{mul-pos}
use native.Mathlib.Omega.{arith}
use lib.IntN.{ℤ, pos, neg_ℤ, nat_abs, ◌+ℤ◌, +ℤ_assoc, +ℤ_invl, +ℤ_idl}
use Rattle.kinds.specs.declared.Mode.TheVariants.{Up, Down}
use Rattle.numbers.proofs.Squares.{square-same}
use Rattle.words.proofs.Differences.{abs_neg}
use Rattle.cutter.specs.Offset.{offset_of, MultipleOf}
use Rattle.cutter.specs.Centre.{Point, Centre, coordinate, centre_of}
use Rattle.cutter.specs.Agree.{ExactAt}
use Rattle.cutter.proofs.Points.{InRange, point_along, normal_along, length_at, coordinate-is, same-centre, length-pos, component-part}
use Rattle.bracket.specs.Bracket.{WholeOver, OffsetBracket, CentreBracket}
use Rattle.bracket.proofs.Offset.{offset-bracket}

-- a summand in front is cancelled
cancel : (a x y : ℤ) → a +ℤ x ≡ a +ℤ y → x ≡ y
cancel a x y e = sym (gone x) ∙ ap (λ (z : ℤ). neg_ℤ a +ℤ z) e ∙ gone y
  where
    gone : (z : ℤ) → neg_ℤ a +ℤ (a +ℤ z) ≡ z
    gone z = sym (+ℤ_assoc (neg_ℤ a) a z) ∙ ap (λ (k : ℤ). k +ℤ z) (+ℤ_invl a) ∙ +ℤ_idl z

-- where n / √q is whole, every root of q divides n
whole_multiple : (q n w : ℕ) → w * w ≡ q → WholeOver q n → MultipleOf w n
whole_multiple q n w s (inl z) = record { quotient = 0; is = omega arith }
whole_multiple q n w s (inr d) =
    let r : d.root ≡ w = square-same d.root w (d.square ∙ sym s) in
    record { quotient = d.multiple.quotient; is = ap (λ (x : ℕ). d.multiple.quotient * x) (sym r) ∙ d.multiple.is }

-- a root of q that divides n makes n / √q whole
multiple-whole : (q n w : ℕ) → w * w ≡ q → MultipleOf w n → WholeOver q n
multiple-whole q n w s d = inr (record { root = w; square = s; multiple = d })

module _ (step radius : ℕ) (p : Point) (h : InRange step radius p) where
  -- the lower and the upper coordinates
  abbrev low : ℕ → ℤ
  low j = coordinate (centre_of Down step radius p) j

  abbrev high : ℕ → ℤ
  high j = coordinate (centre_of Up step radius p) j

  -- a whole offset
  abbrev Along : ℕ → Type 0
  Along j = WholeOver (length_at step p) (nat_abs (normal_along step p j) * radius)

  -- the bracket of each offset
  along : (j : ℕ) → OffsetBracket (normal_along step p j) radius (length_at step p)
  along j =
      offset-bracket (normal_along step p j) radius (length_at step p) (length-pos step radius p h) (component-part step radius p h j)
      (omega (arith, h.steps.radius-most))

  -- coordinates are equal where the offsets are
  same-along : (j : ℕ)
      → offset_of Down (normal_along step p j) radius (length_at step p) ≡ offset_of Up (normal_along step p j) radius (length_at step p)
      → low j ≡ high j
  same-along j e =
      coordinate-is Down step radius p j ∙ ap (λ (z : ℤ). point_along step p j +ℤ z) e ∙ sym (coordinate-is Up step radius p j)

  -- a coordinate that differs is one more
  next-along : (j : ℕ) → (low j ≡ high j → ⊥) → high j ≡ low j +ℤ pos 1
  next-along j n =
      coordinate-is Up step radius p j
      ∙ ap (λ (z : ℤ). point_along step p j +ℤ z) ((along j).next (λ e. n (same-along j e)))
      ∙ sym (+ℤ_assoc (point_along step p j) (offset_of Down (normal_along step p j) radius (length_at step p)) (pos 1))
      ∙ ap (λ (z : ℤ). z +ℤ pos 1) (sym (coordinate-is Down step radius p j))

  -- equal coordinates have a whole offset
  whole-along : (j : ℕ) → low j ≡ high j → Along j
  whole-along j e =
      (along j).equal.0
      (cancel (point_along step p j) _ _ (sym (coordinate-is Down step radius p j) ∙ e ∙ coordinate-is Up step radius p j))

  -- the z component is positive, so it gives the root
  exact-of : ((j : ℕ) → low j ≡ high j) → ExactAt step radius p
  exact-of e = by-z (whole-along 2 (e 2))
    where
      by-z : Along 2 → ExactAt step radius p
      by-z (inl z) = absurd (omega (arith, mul-pos h.steps.step-least h.steps.radius-least))
      by-z (inr d) =
          record {
            root = d.root;
            square = d.square;
            along-x = rw (abs_neg p.dx) at (whole_multiple _ _ d.root d.square (whole-along 0 (e 0)));
            along-y = rw (abs_neg p.dy) at (whole_multiple _ _ d.root d.square (whole-along 1 (e 1)));
            along-z = d.multiple;
          }

  -- at an exact point each offset is whole
  exact-along : ExactAt step radius p → (j : ℕ) → Along j
  exact-along x zero = multiple-whole _ _ x.root x.square (rw (abs_neg p.dx) x.along-x)
  exact-along x (suc zero) = multiple-whole _ _ x.root x.square (rw (abs_neg p.dy) x.along-y)
  exact-along x (suc (suc j)) = multiple-whole _ _ x.root x.square x.along-z

  -- down and up of one centre
  pub centre-bracket : CentreBracket step radius p
  centre-bracket =
      record {
        equal = (λ e. exact-of (λ j. ap (λ (k : Centre). coordinate k j) e), λ x. same-centre _ _ (λ j l. same-along j ((along j).equal.1 (exact-along x j))));
        next = next-along;
      }
