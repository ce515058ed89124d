-- The rows of the raw unit at k = 15, from the lent tables. Assumes nothing.
use mathlib.Core.Path.{◌≡◌, refl, sym, ◌∙◌}
use mathlib.Core.Bool.{Bool, true, false, ◌||◌, true≢false}
use mathlib.Core.List.{List}
use Prim.Native.Nat.{ℕ, ◌+◌, ◌*◌, ◌-◌, ◌/◌, ◌^◌, ◌≤◌, ◌<◌}
use native.Mathlib.Omega.{arith}
use lib.Dec.{T, eqb, eqb→eq}
use lib.ListN.{get_or}
use Rattle.kinds.specs.declared.Op.{Op}
use Rattle.kinds.specs.declared.Op.TheVariants.{Reciprocal, Root, InverseRoot}
use Rattle.kinds.specs.Operation.{is_reciprocal}
use Rattle.kinds.specs.declared.Refusal.TheVariants.{Entry}
use Rattle.std.specs.Prelude.{Ok, Err}
use Rattle.significand.specs.Width.{k64, t64, Significand}
use Rattle.significand.specs.Steps.{index_of, factor_of, multiplier_of}
use Rattle.significand.specs.Tables.{tables_before, tables_length, entry_place}
use Rattle.significand.specs.Call.{is_lent, is_entry, entry_asked}
use Rattle.significand.proofs.Reduction.{index-least, index_below}
use Rattle.raw.specs.Given.{RowGiven}

pub lent_is : (op : Op) (entries : ℕ) (b : Bool) → b ≡ is_reciprocal op → b || eqb entries 131072 ≡ is_lent k64 op entries
lent_is op entries b e = rw e

-- a slice that a root was lent has the tables' length
pub lent_length : (op : Op) (entries : ℕ) (b : Bool) → b ≡ is_reciprocal op → b ≡ false → T (is_lent k64 op entries) → entries ≡ tables_length k64
lent_length op entries b e f h = eqb→eq entries (tables_length k64) (rw (← e, f) at h)

-- ---- where an entry stands

module _ (y : ℕ) (Y : Significand k64 t64 y) where
  pub index-from : 32768 ≤ y / 2 ^ 37
  unfolding index_of
  index-from = index-least k64 t64 y (omega arith) Y

  index-upto : y / 2 ^ 37 < 65536
  unfolding index_of
  index-upto = index_below k64 t64 y (omega arith) Y

  module _ (op : Op) (p before : ℕ) (parity : p ≤ 1) (few : before ≤ 2) where
    pub place-small : (before + p) * 32768 + (y / 2 ^ 37 - 32768) < tables_length k64
    place-small = omega (arith, index-upto)

    pub place_is : before ≡ tables_before op → (before + p) * 32768 + (y / 2 ^ 37 - 32768) ≡ entry_place k64 op p (y / 2 ^ 37)
    place_is e = rw e

pub entry_at : (table : List ℕ) (n m : ℕ) → n ≡ m → get_or table n 0 ≡ get_or table m 0
entry_at table n m e = rw e

-- ---- the rows

-- R of the index
pub index-factor : (y r : ℕ) → r ≡ factor_of k64 (index_of k64 t64 y) → r ≡ factor_of k64 (y / 2 ^ 37)
unfolding index_of
index-factor y r e = e

-- by the entry: M, or not, and then the refusal
module _ (op : Op) (y p r m : ℕ) (table : List ℕ) (er : r ≡ factor_of k64 (y / 2 ^ 37)) (em : m ≡ get_or table (entry_place k64 op p (y / 2 ^ 37)) 0)
    (root : is_reciprocal op ≡ false) (holds : Bool) (eh : holds ≡ eqb m (multiplier_of k64 op r p)) where
  entry-is : is_entry k64 t64 op y p table ≡ holds
  unfolding is_entry index_of
  entry-is = rw (root, eh, em, er)

  pub broken-given : holds ≡ false → RowGiven k64 t64 op y p (entry_asked k64 t64 op y p table) (Err Entry)
  broken-given e = rw (entry-is, e) refl

  -- a number that is M
  held-is : holds ≡ true → m ≡ multiplier_of k64 op r p
  held-is e = eqb→eq m (multiplier_of k64 op r p) (rw (← eh, e) tt)

  pub held-given : holds ≡ true → RowGiven k64 t64 op y p (entry_asked k64 t64 op y p table) (Ok (r, m))
  unfolding index_of
  held-given e = rw (entry-is, e) (er, held-is e, refl)

-- the reciprocal needs no entry, and its M is R × 2^44
pub reciprocal-given : (op : Op) (y p r : ℕ) (table : List ℕ) (b : Bool) → b ≡ is_reciprocal op → b ≡ true → r ≡ factor_of k64 (y / 2 ^ 37)
    → RowGiven k64 t64 op y p (entry_asked k64 t64 op y p table) (Ok (r, r * 17592186044416))
unfolding is_entry multiplier_of index_of
reciprocal-given Reciprocal y p r table b e f er = (er, refl, refl)
reciprocal-given Root y p r table b e f er = absurd (true≢false (sym f ∙ e))
reciprocal-given InverseRoot y p r table b e f er = absurd (true≢false (sym f ∙ e))
