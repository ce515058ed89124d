-- The raw answer by the steps of a width, and the rows of k = 7. Assumes nothing.
use mathlib.Core.Path.{◌≡◌, refl, sym, ap, ◌∙◌}
use Prim.Native.Nat.{ℕ, ◌+◌, ◌*◌, ◌/◌, ◌%◌, ◌^◌, ◌≤◌}
use native.Mathlib.Omega.{arith}
use mir.Syntax.{w64}
use mir.Val.{Fits}
use Rattle.std.specs.Prelude.{Result, Ok, Err}
use Rattle.kinds.specs.declared.Op.{Op}
use Rattle.kinds.specs.declared.Op.TheVariants.{Reciprocal}
use Rattle.significand.specs.Width.{k32, t32, Significand, Operand}
use Rattle.significand.specs.Steps.{index_of, factor_of, series_of, multiplier_of, raw_of}
use Rattle.significand.proofs.Numerals.{index_is, reciprocal-multiplier}
use Rattle.significand.proofs.Reduction.{least, most}
use Rattle.significand.proofs.Sizes.{factor-small, multiplier-upto}
use Rattle.tables.specs.declared.Row.{Row}
use Rattle.tables.specs.Row.{index_at, parity_at, RowOf}
use Rattle.series.specs.declared.Reduction.{Reduction}
use Rattle.series.specs.Parts.{Reduced}
use Rattle.raw.specs.Given.{RowGiven}

-- ---- at every width, where a row is given

module _ {E : Type 0} (k t : ℕ) (op : Op) (y p : ℕ) (x : Result ℕ E) (row : Row) (given : RowGiven k t op y p x (Ok row)) where
  -- R, M and the answer
  told : (row.0 ≡ factor_of k (index_of k t y)) × (row.1 ≡ multiplier_of k op row.0 p) × (x ≡ Ok (raw_of k t op y p))
  told = by x given
    where
      by : (z : Result ℕ E) → RowGiven k t op y p z (Ok row)
          → (row.0 ≡ factor_of k (index_of k t y)) × (row.1 ≡ multiplier_of k op row.0 p) × (z ≡ Ok (raw_of k t op y p))
      by (Ok g) h = (h.0, h.1, ap Ok h.2)
      by (Err e) h = absurd h

  -- M is at most 2^(4k + 1)
  pub multiplier_small : 7 ≤ k → Operand k t op y p → row.1 ≤ 2 ^ (4 * k + 1)
  multiplier_small big o =
      let low : 2 ^ k ≤ row.0 = rw told.0 (least k t y big o.significand) in
      let high : row.0 ≤ 2 ^ (k + 1) = rw told.0 (most k t y big o.significand) in
      rw told.1 (multiplier-upto k row.0 p big o.parity low high op)

  -- M times b of the reduced significand is the answer
  pub answer-is : (b g : ℕ) (d : Reduction) → Reduced k t (y * row.0) d → b ≡ series_of k op d.positive d.magnitude → g ≡ row.1 * b / 2 ^ (4 * k)
      → Ok g ≡ x
  unfolding raw_of
  answer-is b g d h eb eg = ap Ok (eg ∙ cc (told.0, told.1, h.sign, h.magnitude, eb)) ∙ sym told.2

-- ---- at k = 7

-- the table of R has that of a significand at its index's lower bits
module _ (y r : ℕ) (Y : Significand k32 t32 y) (f : r ≡ factor_of k32 (index_at k32 (y / 65536 % 128))) where
  factor-is : r ≡ factor_of k32 (y / 65536)
  factor-is =
      let i : index_at k32 (y / 65536 % 128) ≡ y / 65536 = omega (arith, Y.least, Y.below) in
      f ∙ ap (factor_of k32) i

  pub scaled_fits : Fits w64 (r * 1048576)
  scaled_fits = record { fits = omega (arith, factor-small y Y r factor-is) }

-- R of the index
pub index-factor : (y r : ℕ) → r ≡ factor_of k32 (index_of k32 t32 y) → r ≡ factor_of k32 (y / 65536)
index-factor y r e = e ∙ ap (factor_of k32) (index_is y)

-- the rows
pub reciprocal-given : (op : Op) (y p : ℕ) (row : Row) → op ≡ Reciprocal → row.0 ≡ factor_of k32 (y / 65536) → row.1 ≡ row.0 * 1048576
    → RowGiven {E = ⊥} k32 t32 op y p (Ok (raw_of k32 t32 op y p)) (Ok row)
reciprocal-given op y p row o e f = (e ∙ ap (factor_of k32) (sym (index_is y)), rw o (f ∙ sym (reciprocal-multiplier row.0 p)), refl)

pub root-given : (op case : Op) (y p key : ℕ) (row : Row) → op ≡ case → RowOf k32 case key row → index_at k32 key ≡ y / 65536
    → parity_at k32 key ≡ p
    → RowGiven {E = ⊥} k32 t32 op y p (Ok (raw_of k32 t32 op y p)) (Ok row)
root-given op case y p key row o h i q =
    let factor : row.0 ≡ factor_of k32 (index_at k32 key) = h.factor in (
      factor ∙ ap (factor_of k32) (i ∙ sym (index_is y)),
      rw (o, factor, ← q) h.multiplier,
      refl,
    )
