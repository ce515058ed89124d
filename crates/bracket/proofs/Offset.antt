-- One offset, rounded down and up: where both are equal, and that the upper is otherwise the next whole number. Assumes nothing.
use mathlib.Core.Path.{◌≡◌, sym, ap, ◌∙◌}
use mathlib.Core.Logic.{◌⊎◌, inl, inr, by_cases}
use Prim.Native.Nat.{ℕ, zero, suc, ◌*◌, ◌^◌, ◌≤◌, ◌<◌}
use native.Mathlib.Nat.{mul-le-mul, mul-le-mul_right, mul-pos, eq-zero-or-pos}
use native.Mathlib.Decide.{ℕ_discrete}
use native.Mathlib.Omega.{arith}
use lib.IntN.{ℤ, pos, negsuc, nat_abs, suc_ℤ, ◌+ℤ◌, +ℤ_one}
use Rattle.kinds.specs.declared.Mode.TheVariants.{Down}
use Rattle.numbers.proofs.Squares.{square-same, square-part}
use Rattle.cutter.specs.Offset.{floor_over, offset_of}
use Rattle.cutter.proofs.Offsets.{Reached, floor-low, floor-most, quotient-most, offsets-same, offsets-apart}
use Rattle.bracket.specs.Bracket.{WholeOver, OffsetBracket}

-- an exact floor makes n / √q whole
reached-whole : (q n : ℕ) → Reached n q → WholeOver q n
reached-whole q n e = by_product (eq-zero-or-pos n) (eq-zero-or-pos (floor_over n q))
  where
    by_product : (n ≡ 0) ⊎ (0 < n) → (floor_over n q ≡ 0) ⊎ (0 < floor_over n q) → WholeOver q n
    by_product (inl z) f = inl z
    by_product (inr p) (inl z) = let s : floor_over n q * floor_over n q * q ≡ 0 = rw z (omega arith) in absurd (omega (arith, mul-pos p p))
    by_product (inr p) (inr f) =
        let r = square-part (floor_over n q) n q f (sym e) in
        inr
        (record {
          root = r.root;
          square = r.is;
          multiple = record {
            quotient = floor_over n q;
            is = square-same (floor_over n q * r.root) n (omega (arith, ap (λ (x : ℕ). floor_over n q * floor_over n q * x) r.is));
          };
        })

-- a number is not the next one
pub not-next : (z : ℤ) → z ≡ z +ℤ pos 1 → ⊥
not-next z e = differ z (ap nat_abs (e ∙ +ℤ_one z))
  where
    differ : (z : ℤ) → nat_abs z ≡ nat_abs (suc_ℤ z) → ⊥
    differ (pos n) h = omega arith
    differ (negsuc zero) h = omega arith
    differ (negsuc (suc n)) h = omega arith

-- component × radius over √q, where the component is one of a vector of the squared length q
module _ (component : ℤ) (radius q : ℕ) (some : 0 < q) (part : nat_abs component * nat_abs component ≤ q) (short : radius < 2 ^ 32) where
  abbrev product : ℕ
  product = nat_abs component * radius

  -- a whole quotient is the floor
  whole-reached : WholeOver q product → Reached product q
  whole-reached (inl z) =
      let s : product * product ≡ 0 = rw z in
      omega (arith, floor-low product q)
  whole-reached (inr d) =
      let k = d.multiple.quotient in
      let s : k * k * q ≡ product * product = omega (arith, ap (λ (x : ℕ). x * x) d.multiple.is, ap (λ (x : ℕ). k * k * x) d.square) in
      let most : k ≤ floor_over product q =
      floor-most product q k (omega arith) (omega (arith, quotient-most (nat_abs component) radius q some part k (omega arith))) in
      omega (arith, floor-low product q, mul-le-mul_right q (mul-le-mul most most))

  -- down and up of one offset
  pub offset-bracket : OffsetBracket component radius q
  offset-bracket =
      by_cases (ℕ_discrete (floor_over product q * floor_over product q * q) (product * product))
      (λ e.
      record { equal = (λ s. reached-whole q product e, λ w. offsets-same component radius q e); next = λ h. absurd (h (offsets-same component radius q e)) })
      (λ h.
      let apart = offsets-apart component radius q h in
      record {
        equal = (λ s. absurd (not-next (offset_of Down component radius q) (s ∙ apart)), λ w. absurd (h (whole-reached w)));
        next = λ s. apart;
      })
