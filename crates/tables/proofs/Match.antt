-- A match whose keys count up and whose arms are literals is a table: its rule is proved at all keys by one computed test. The entries are
-- read from the function's own code. Assumes nothing.
use mathlib.Core.Path.{◌≡◌, sym, subst}
use mathlib.Core.Bool.{Bool, true}
use mathlib.Core.List.{List, [], ◌∷◌}
use Prim.Native.Nat.{ℕ, suc, ◌+◌, ◌≤◌, ◌<◌}
use native.Mathlib.Omega.{arith}
use mir.Facts.{and_yes}
use mir.Syntax.{Body, Arms, Rv, Opd, arm, default, no_default, skip, seq, assign, block, loop, cond, switch, exit, return, call, unreachable, call_v, lend_static}
use mir.Syntax.{rv_opd, op2, op1, addr_of, aggregate, repeat, repeat_p, select}
use mir.Syntax.{int, int_big, int_neg, copy, float, opd_true, opd_false, opd_unit, ptr_const, size_of, align_of, num_of, fn_addr, vtable}
use lib.Dec.{T}
use lib.ListN.{length}
use types.Run.{OneOf}
use Rattle.tables.specs.Table.{every}

-- the number that an operand is; 0 where that is no literal
abbrev pub literal : Opd → ℕ
literal (int w n) = n
literal (int_big w n) = n
literal (copy p) = 0
literal (int_neg w n) = 0
literal (float f n) = 0
literal opd_true = 0
literal opd_false = 0
literal opd_unit = 0
literal (ptr_const n) = 0
literal (size_of t) = 0
literal (align_of t) = 0
literal (num_of t n) = 0
literal (fn_addr f t) = 0
literal (vtable f t) = 0

-- the operands of an assignment and of an arm that is one
abbrev parts : Rv → List Opd
parts (rv_opd o) = o ∷ []
parts (op2 f o q) = []
parts (op1 f o) = []
parts (addr_of p) = []
parts (aggregate os) = os
parts (repeat o n) = []
parts (repeat_p o n) = []
parts (select o p q) = []

abbrev given : Body → List Opd
given skip = []
given (seq a b) = []
given (assign p v) = parts v
given (block b) = []
given (loop b) = []
given (cond o a b) = []
given (switch o a) = []
given (exit n) = []
given return = []
given (call f os p) = []
given unreachable = []
given (call_v f a os p) = []
given (lend_static f a p) = []

-- the entries, where `of` makes an arm's operands one
abbrev entries : {A : Type 0} → (List Opd → A) → Arms → List A
entries of (arm ks b arms) = of (given b) ∷ entries of arms
entries of (default b) = of (given b) ∷ []
entries of no_default = []

-- those of the match with which a function begins
abbrev pub table : {A : Type 0} → (List Opd → A) → Body → List A
table of skip = []
table of (seq a b) = table of a
table of (assign p v) = []
table of (block b) = []
table of (loop b) = []
table of (cond o a b) = []
table of (switch o a) = entries of a
table of (exit n) = []
table of return = []
table of (call f os p) = []
table of unreachable = []
table of (call_v f a os p) = []
table of (lend_static f a p) = []

-- an entry that is one number
abbrev pub number : List Opd → ℕ
number [] = 0
number (o ∷ os) = literal o

-- what a match on i asks of its entries v, where its keys count up from k and its last arm takes the rest
abbrev pub Asked : {A : Type 0} → (A → Type 0) → ℕ → ℕ → List A → Type 0 → Type 0
Asked Q i k [] N = Unit {0}
Asked Q i k (v ∷ []) N = N → Q v
Asked Q i k (v ∷ w ∷ vs) N = (OneOf (k ∷ []) i → Q v) × Asked Q i (suc k) (w ∷ vs) (N × (OneOf (k ∷ []) i → ⊥))

module _ {A : Type 0} (Q : A → Type 0) (test : ℕ → A → Bool) (i : ℕ) (q : (v : A) → T (test i v) → Q v) where
  answered : (k : ℕ) (vs : List A) (N : Type 0) → (N → k ≤ i) → i < k + length vs → T (every test k vs) → Asked Q i k vs N
  answered k [] N low high t = tt
  answered k (v ∷ []) N low high t =
      λ n. let l = low n in let e : k ≡ i = omega arith in q v (subst (λ (j : ℕ). T (test j v)) e (and_yes (test k v) true t).0)
  answered k (v ∷ w ∷ vs) N low high t =
      let b = and_yes (test k v) (every test (suc k) (w ∷ vs)) t in (
        λ e. q v (subst (λ (j : ℕ). T (test j v)) (sym e) b.0),
        answered (suc k) (w ∷ vs) (N × (OneOf (k ∷ []) i → ⊥))
            (λ n. let l = low n.0 in let d : i ≡ k → ⊥ = n.1 in omega arith) (omega arith) b.1,
      )

-- what the match of a table function asks: its contract P of the entry at i, which the test there tells, the keys counting up from k
pub looked-up : {A : Type 0} (P : A → Type 0) (test : ℕ → A → Bool) (k i : ℕ) → ((v : A) → T (test i v) → P v) → (vs : List A)
    → k ≤ i
    → i < k + length vs
    → T (every test k vs)
    → Asked (λ (v : A). (Unit {0} × Unit {0}) × P v) i k vs (Unit {0})
looked-up {A} P test k i told vs low high t =
    answered (λ (v : A). (Unit {0} × Unit {0}) × P v) test i (λ v p. ((tt, tt), told v p)) k vs (Unit {0}) (λ l. low) high t
