-- Sums and products of the language's 64-bit signed numbers. The machine reads every operand back from its 64 bits; where all magnitudes
-- on the way are below 2^63, that changes nothing, and what it works out is the expression itself. Assumes nothing.
use mathlib.Core.Path.{◌≡◌, refl, ap, ap₂, ◌∙◌}
use mathlib.Core.Bool.{Bool, ◌&&◌}
use mathlib.Core.List.{List, [], ◌∷◌}
use Prim.Native.Nat.{ℕ, zero, suc, ◌+◌, ◌*◌, ◌≤◌, ◌<◌}
use native.Mathlib.Nat.{mul-le-mul}
use native.Mathlib.Omega.{arith}
use lib.Dec.{T, ltb}
use lib.IntN.{ℤ, pos, negsuc, neg_ℤ, nat_abs, ◌+ℤ◌, ◌-ℤ◌, ◌*ℤ◌}
use mir.Facts.{and_yes, ltb_yes}
use mir.Syntax.{w64}
use mir.Val.{SFits, to_z, of_z}
use mir.ValLaws.{to_z-of_z}
use Rattle.numbers.proofs.Differences.{abs-add, abs_neg}

-- an expression: a number of the list, a literal, a sum, a difference, a product
infixl 6 ◌⊞◌ ◌⊟◌
infixl 7 ◌⊠◌
pub data X : Type 0 where
  given : ℕ → X
  lit : ℤ → X
  ◌⊞◌ ◌⊟◌ ◌⊠◌ : X → X → X

abbrev pub at : List ℤ → ℕ → ℤ
at [] i = pos 0
at (z ∷ l) zero = z
at (z ∷ l) (suc i) = at l i

abbrev pub top_at : List ℕ → ℕ → ℕ
top_at [] i = 0
top_at (m ∷ l) zero = m
top_at (m ∷ l) (suc i) = top_at l i

-- its value
abbrev pub value : List ℤ → X → ℤ
value l (given i) = at l i
value l (lit z) = z
value l (x ⊞ y) = value l x +ℤ value l y
value l (x ⊟ y) = value l x -ℤ value l y
value l (x ⊠ y) = value l x *ℤ value l y

-- what the machine has of it as an operand, and what an operation works out before it is held in 64 bits
abbrev pub operand : List ℤ → X → ℤ
operand l (given i) = to_z w64 (of_z w64 (at l i))
operand l (lit z) = z
operand l (x ⊞ y) = to_z w64 (of_z w64 (operand l x +ℤ operand l y))
operand l (x ⊟ y) = to_z w64 (of_z w64 (operand l x -ℤ operand l y))
operand l (x ⊠ y) = to_z w64 (of_z w64 (operand l x *ℤ operand l y))

abbrev pub worked : List ℤ → X → ℤ
worked l (given i) = at l i
worked l (lit z) = z
worked l (x ⊞ y) = operand l x +ℤ operand l y
worked l (x ⊟ y) = operand l x -ℤ operand l y
worked l (x ⊠ y) = operand l x *ℤ operand l y

-- its magnitude at most, where those of the list are at most the tops, and whether that stays below 2^63 on the way
abbrev pub top : List ℕ → X → ℕ
top t (given i) = top_at t i
top t (lit z) = nat_abs z
top t (x ⊞ y) = top t x + top t y
top t (x ⊟ y) = top t x + top t y
top t (x ⊠ y) = top t x * top t y

abbrev small : ℕ → Bool
small m = ltb m 9223372036854775808

abbrev pub fine : List ℕ → X → Bool
fine t (given i) = small (top_at t i)
fine t (lit z) = small (nat_abs z)
fine t (x ⊞ y) = fine t x && fine t y && small (top t x + top t y)
fine t (x ⊟ y) = fine t x && fine t y && small (top t x + top t y)
fine t (x ⊠ y) = fine t x && fine t y && small (top t x * top t y)

-- the numbers of the list are at most the tops in magnitude
abbrev pub Within : List ℤ → List ℕ → Type 0
Within [] [] = Unit {0}
Within [] (m ∷ t) = ⊥
Within (z ∷ l) [] = ⊥
Within (z ∷ l) (m ∷ t) = (nat_abs z ≤ m) × Within l t

within-at : (l : List ℤ) (t : List ℕ) → Within l t → (i : ℕ) → nat_abs (at l i) ≤ top_at t i
within-at [] [] h i = omega arith
within-at [] (m ∷ t) h i = absurd h
within-at (z ∷ l) [] h i = absurd h
within-at (z ∷ l) (m ∷ t) h zero = h.0
within-at (z ∷ l) (m ∷ t) h (suc i) = within-at l t h.1 i

-- magnitudes
pub abs-times : (a b : ℤ) → nat_abs (a *ℤ b) ≡ nat_abs a * nat_abs b
abs-times (pos a) (pos b) = refl
abs-times (pos a) (negsuc b) = abs_neg (pos (a * suc b))
abs-times (negsuc a) (pos b) = abs_neg (pos (suc a * b))
abs-times (negsuc a) (negsuc b) = refl

abs-less : (a b : ℤ) → nat_abs (a -ℤ b) ≤ nat_abs a + nat_abs b
abs-less a b = omega (arith, abs-add a (neg_ℤ b), abs_neg b)

abs-most : (a b : ℤ) (m n : ℕ) → nat_abs a ≤ m → nat_abs b ≤ n → nat_abs (a *ℤ b) ≤ m * n
abs-most a b m n h k = omega (arith, abs-times a b, mul-le-mul h k)

small-fits : (z : ℤ) (m : ℕ) → nat_abs z ≤ m → T (small m) → SFits w64 z
small-fits (pos n) m h s = let k : m < 9223372036854775808 = ltb_yes s in record { sfits = omega arith }
small-fits (negsuc n) m h s = let k : m < 9223372036854775808 = ltb_yes s in record { sfits = omega arith }

back : (u z : ℤ) (m : ℕ) → u ≡ z → nat_abs z ≤ m → T (small m) → to_z w64 (of_z w64 u) ≡ z
back u z m e h s = ap (λ (x : ℤ). to_z w64 (of_z w64 x)) e ∙ to_z-of_z w64 z (small-fits z m h s)

-- what an operation works out is the value, and no larger than its top
record Exact (l : List ℤ) (t : List ℕ) (e : X) : Type 0 where
  is : worked l e ≡ value l e
  below : T (small (top t e))
  most : nat_abs (value l e) ≤ top t e
  held : operand l e ≡ value l e

module _ (l : List ℤ) (t : List ℕ) (h : Within l t) where
  node : (e : X) → worked l e ≡ value l e → nat_abs (value l e) ≤ top t e → T (small (top t e)) → operand l e ≡ to_z w64 (of_z w64 (worked l e)) → Exact l t e
  node e is most s o = record { is = is; below = s; most = most; held = o ∙ back (worked l e) (value l e) (top t e) is most s }

  parts : (x y : X) (s : Bool) → T (fine t x && fine t y && s) → T (fine t x) × T (fine t y) × T s
  parts x y s f =
      let a = and_yes (fine t x && fine t y) s f in
      let b = and_yes (fine t x) (fine t y) a.0 in
      (b.0, b.1, a.1)

  exact : (e : X) → T (fine t e) → Exact l t e
  exact (given i) f = node (given i) refl (within-at l t h i) f refl
  exact (lit z) f = record { is = refl; below = f; most = omega arith; held = refl }
  exact (x ⊞ y) f =
      let p = parts x y (small (top t x + top t y)) f in
      let a : Exact l t x = exact x p.0 in
      let b : Exact l t y = exact y p.1 in
      node (x ⊞ y) (ap₂ ◌+ℤ◌ a.held b.held) (omega (arith, abs-add (value l x) (value l y), a.most, b.most)) p.2 refl
  exact (x ⊟ y) f =
      let p = parts x y (small (top t x + top t y)) f in
      let a : Exact l t x = exact x p.0 in
      let b : Exact l t y = exact y p.1 in
      node (x ⊟ y) (ap₂ ◌-ℤ◌ a.held b.held) (omega (arith, abs-less (value l x) (value l y), a.most, b.most)) p.2 refl
  exact (x ⊠ y) f =
      let p = parts x y (small (top t x * top t y)) f in
      let a : Exact l t x = exact x p.0 in
      let b : Exact l t y = exact y p.1 in
      node (x ⊠ y) (ap₂ ◌*ℤ◌ a.held b.held) (abs-most (value l x) (value l y) (top t x) (top t y) a.most b.most) p.2 refl

  -- THE LAWS: an operation's result fits, and it is the value
  pub fits : (e : X) → T (fine t e) → SFits w64 (worked l e)
  fits e f = let x : Exact l t e = exact e f in rw x.is (small-fits (value l e) (top t e) x.most x.below)

  pub held : (e : X) → T (fine t e) → operand l e ≡ value l e
  held e f = (exact e f).held

  pub bounded : (e : X) → T (fine t e) → nat_abs (operand l e) ≤ top t e
  bounded e f = let x : Exact l t e = exact e f in rw x.held x.most
