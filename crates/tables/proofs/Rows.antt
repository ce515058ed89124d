-- The entries of the tables of R, and the rows of those of R and M: one test proves each table. Assumes nothing.
use mathlib.Core.Path.{◌≡◌, subst}
use mathlib.Core.Bool.{Bool, true, false, ◌&&◌}
use mathlib.Core.List.{List, [], ◌∷◌}
use Prim.Native.Nat.{ℕ, zero, suc, ◌+◌, ◌-◌, ◌≤◌, ◌<◌}
use native.Mathlib.Omega.{arith}
use lib.Dec.{T}
use Rattle.std.proofs.Common.{length, slice_index_or}
use Rattle.kinds.specs.declared.Op.{Op}
use Rattle.significand.specs.Width.{k32}
use Rattle.significand.specs.Steps.{factor_of, multiplier_of}
use Rattle.significand.proofs.Numerals.{factor_test, factor-entry}
use Rattle.tables.specs.declared.Row.{Row}
use Rattle.tables.specs.Row.{index_at, parity_at, RowOf}
use Rattle.tables.specs.Table.{every}
use Rattle.tables.proofs.Match.{Asked, looked-up}

both : (a b : Bool) → T (a && b) → T a × T b
both true b t = (tt, t)
both false b t = absurd t

-- a test that passes at every entry passes at place n, that of a key where the keys count up from i
pub entry : {A : Type 0} (f : ℕ → A → Bool) (i n key : ℕ) (xs : List A) (d : A) → T (every f i xs) → i + n ≡ key → n < length xs
    → T (f key (slice_index_or xs n d))
entry f i n key [] d t e h = absurd (omega (arith, h))
entry f i zero key (x ∷ xs) d t e h = let k : i ≡ key = omega (arith, e) in subst (λ (j : ℕ). T (f j x)) k (both _ _ t).0
entry f i (suc n) key (x ∷ xs) d t e h = entry f (suc i) n key xs d (both _ _ t).1 (omega (arith, e)) (omega (arith, h))

-- R of a key, by its test
abbrev pub factor_at : ℕ → ℕ → Bool
factor_at key r = factor_test (index_at k32 key) r

pub factor-looked-up : (key : ℕ) (rs : List ℕ) → T (every factor_at 0 rs) → key < length rs
    → slice_index_or rs key 0 ≡ factor_of k32 (index_at k32 key)
factor-looked-up key rs t high = factor-entry (index_at k32 key) _ (entry factor_at 0 key key rs 0 t (omega arith) high)

-- where a test tells M by the parity, the index and the entry
module _ (op : Op) (test : ℕ → ℕ → ℕ → Bool) (tells : (p i m : ℕ) → T (test p i m) → m ≡ multiplier_of k32 op (factor_of k32 i) p) where
  abbrev pub row_test : ℕ → Row → Bool
  row_test key r = factor_at key r.0 && test (parity_at k32 key) (index_at k32 key) r.1

  row_told : (key : ℕ) (r : Row) → T (row_test key r) → RowOf k32 op key r
  row_told key r t =
      let i = index_at k32 key in
      let u = both (factor_test i r.0) (test (parity_at k32 key) i r.1) t in
      record { factor = factor-entry i r.0 u.0; multiplier = tells (parity_at k32 key) i r.1 u.1 }

  pub row-looked-up : (key : ℕ) (rs : List Row) → T (every row_test 256 rs) → 256 ≤ key → key < 256 + length rs
      → RowOf k32 op key (slice_index_or rs (key - 256) (0, 0))
  row-looked-up key rs t low high =
      row_told key _ (entry row_test 256 (key - 256) key rs (0, 0) t (omega (arith, low)) (omega (arith, low, high)))

  -- the same of a table that is a match: what it asks
  pub row-asked : (key : ℕ) (vs : List Row) → 256 ≤ key → key < 256 + length vs → T (every row_test 256 vs)
      → Asked (λ (r : Row). (Unit {0} × Unit {0}) × RowOf k32 op key r) key 256 vs (Unit {0})
  row-asked key = looked-up (RowOf k32 op key) row_test 256 key (row_told key)
