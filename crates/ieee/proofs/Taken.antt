-- The significand that a rounding takes, by one test of a number near the exact result: at m = 2t + rest, which is t, t + 1/2 or t + 1 in its
-- units, the next significand after t is taken where the exact result is above m, and toward zero where it is at m too. Assumes nothing.
use mathlib.Core.Path.{◌≡◌, refl, sym, ap, ap₂, subst, ◌∙◌}
use mathlib.Core.Bool.{Bool, true, false, cond}
use mathlib.Core.Logic.{by_cases}
use Prim.Native.Nat.{ℕ, zero, suc, ◌+◌, ◌*◌, ◌-◌, ◌/◌, ◌%◌, ◌≤◌, ◌<◌}
use native.Mathlib.Nat.{lt_of_lt_of_le}
use native.Mathlib.Decide.{dec_lt, ℕ_discrete}
use native.Mathlib.Omega.{arith}
use borrow.Author.Tests.{ltb-true, ltb-false, eqb-true, eqb-false, not-true, not-false}
use lib.Dec.{eqb, ltb}
use mir.Val.{bool_byte}
use Rattle.kinds.specs.declared.Op.{Op}
use Rattle.ieee.specs.Rounded.{side}
use Rattle.ieee.specs.Floor.{Floored, taken_by}
use Rattle.ieee.proofs.Neighbours.{side-rising, side-rising<}

module _ (op : Op) (y x q : ℕ) (more : Bool) (F : Floored op y x q more) (some : 0 < y) (odd : q % 2 ≡ 1 → more ≡ true) where
  -- a number whose side is at most the target is at most the floor, and the other way round
  at_most : (n : ℕ) → side op y n ≤ x → n ≤ q
  at_most n h = by_cases (dec_lt q n) (λ l. absurd (omega (arith, F.high, side-rising op y {v = suc q} {w = n} l))) (λ l. omega arith)

  not-below : (n : ℕ) → x < side op y n → q < n
  not-below n h = by_cases (dec_lt q n) (λ l. l) (λ l. absurd (omega (arith, F.low, side-rising op y {v = n} {w = q} (omega arith))))

  under : (n : ℕ) → n < q → side op y n < x
  under n h = lt_of_lt_of_le (side-rising< op y {v = n} {w = q} some h) F.low

  exact-at : more ≡ false → side op y q ≡ x
  exact-at e = eqb-true (side op y q) x (not-false (eqb (side op y q) x) (sym F.rest ∙ e))

  over-at : more ≡ true → side op y q < x
  over-at e =
      let n = eqb-false (side op y q) x (not-true (eqb (side op y q) x) (sym F.rest ∙ e)) in
      by_cases (dec_lt (side op y q) x) (λ l. l) (λ l. absurd (n (omega (arith, F.low))))

  -- toward zero, to the nearest and away from zero
  toward : (t : ℕ) (b : Bool) → side op y (2 * t) < x → x < side op y (2 * t + 4) → ltb (side op y (2 * t + 2)) (x + 1) ≡ b → t + bool_byte b ≡ q / 2
  toward t true low high e =
      let here = at_most (2 * t + 2) (omega (arith, ltb-true (side op y (2 * t + 2)) (x + 1) e)) in
      let top = not-below (2 * t + 4) high in
      omega arith
  toward t false low high e =
      let top = not-below (2 * t + 2) (omega (arith, ltb-false (side op y (2 * t + 2)) (x + 1) e)) in
      let here = at_most (2 * t) (omega (arith, low)) in
      omega arith

  nearest : (t : ℕ) (b : Bool) → 0 < t → side op y (2 * t - 1) < x → x < side op y (2 * t + 3) → ltb (side op y (2 * t + 1)) x ≡ b → t + bool_byte b ≡ (q + 1) / 2
  nearest t true some low high e =
      let here = at_most (2 * t + 1) (omega (arith, ltb-true (side op y (2 * t + 1)) x e)) in
      let top = not-below (2 * t + 3) high in
      omega arith
  nearest t false some low high e =
      let out = ltb-false (side op y (2 * t + 1)) x e in
      let here = at_most (2 * t - 1) (omega (arith, low)) in
      let top : q < 2 * t + 1 =
      by_cases (dec_lt q (2 * t + 1)) (λ l. l)
      (λ l.
      by_cases (ℕ_discrete q (2 * t + 1))
      (λ s. absurd (omega (arith, out, over-at (odd (omega arith)), ap (side op y) s)))
      (λ s. absurd (omega (arith, out, under (2 * t + 1) (omega (arith, s)))))) in
      omega arith

  -- away from zero where something lies above the floor, and where nothing does
  away-more : (t : ℕ) (b : Bool) → more ≡ true → 0 < t → side op y (2 * t - 2) < x → x < side op y (2 * t + 2) → ltb (side op y (2 * t)) x ≡ b
      → t + bool_byte b ≡ (q + 1 + 1) / 2
  away-more t true is some low high e =
      let here = at_most (2 * t) (omega (arith, ltb-true (side op y (2 * t)) x e)) in
      let top = not-below (2 * t + 2) high in
      omega arith
  away-more t false is some low high e =
      let out = ltb-false (side op y (2 * t)) x e in
      let here = at_most (2 * t - 2) (omega (arith, low)) in
      let top : q < 2 * t =
      by_cases (dec_lt q (2 * t)) (λ l. l)
      (λ l. absurd (omega (arith, out, over-at is, side-rising op y {v = 2 * t} {w = q} (omega arith)))) in
      omega arith

  away-none : (t : ℕ) (b : Bool) → more ≡ false → 0 < t → side op y (2 * t - 2) < x → x < side op y (2 * t + 2) → ltb (side op y (2 * t)) x ≡ b
      → t + bool_byte b ≡ (q + 1 + 0) / 2
  away-none t true is some low high e =
      let below = ltb-true (side op y (2 * t)) x e in
      let top = not-below (2 * t + 2) high in
      let here : 2 * t < q =
      by_cases (dec_lt (2 * t) q) (λ l. l)
      (λ l. absurd (omega (arith, below, exact-at is, side-rising op y {v = q} {w = 2 * t} (omega arith)))) in
      omega arith
  away-none t false is some low high e =
      let out = ltb-false (side op y (2 * t)) x e in
      let here : 2 * t - 2 < q =
      by_cases (dec_lt (2 * t - 2) q) (λ l. l)
      (λ l. absurd (omega (arith, low, exact-at is, side-rising op y {v = q} {w = 2 * t - 2} (omega arith)))) in
      let top : q < 2 * t + 1 = by_cases (dec_lt q (2 * t + 1)) (λ l. l) (λ l. absurd (omega (arith, out, under (2 * t) (omega arith)))) in
      omega arith

  -- THE TEST of each rounding
  pub taken-by : (rest t : ℕ) (b : Bool) → 0 < t → side op y (2 * t + rest - 2) < x → x < side op y (2 * t + rest + 2)
      → b ≡ ltb (side op y (2 * t + rest)) (x + rest / 2) → rest ≤ 2 → t + bool_byte b ≡ taken_by rest q more
  unfolding taken_by
  taken-by zero t b some low high e few = go more refl
    where
      test : ltb (side op y (2 * t)) x ≡ b
      test = sym (e ∙ ap₂ (λ (m n : ℕ). ltb (side op y m) n) (omega arith) (omega arith))

      before : side op y (2 * t - 2) < x
      before = subst (λ (n : ℕ). side op y n < x) (omega arith) low

      after : x < side op y (2 * t + 2)
      after = subst (λ (n : ℕ). x < side op y n) (omega arith) high

      go : (m : Bool) → more ≡ m → t + bool_byte b ≡ (q + 1 + cond m 1 0) / 2
      go true is = away-more t b is some before after test
      go false is = away-none t b is some before after test
  taken-by (suc zero) t b some low high e few =
      nearest t b some (subst (λ (n : ℕ). side op y n < x) (omega arith) low) (subst (λ (n : ℕ). x < side op y n) (omega arith) high)
      (sym (e ∙ ap₂ (λ (m n : ℕ). ltb (side op y m) n) {x = 2 * t + 1} refl (omega arith)))
  taken-by (suc (suc zero)) t b some low high e few =
      toward t b (subst (λ (n : ℕ). side op y n < x) (omega arith) low) (subst (λ (n : ℕ). x < side op y n) (omega arith) high) (sym e)
  taken-by (suc (suc (suc rest))) t b some low high e few = absurd (omega arith)
