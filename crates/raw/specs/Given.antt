-- What a width's first steps hand on, and what the raw unit gives at k = 7. Assumes nothing.
use Rattle.std.specs.Prelude.{◌≡◌, ℕ, List, Result, Ok, Err}
use Rattle.std.specs.declared.convert.Infallible.{Infallible}
use Rattle.kinds.specs.declared.Op.{Op}
use Rattle.significand.specs.Width.{k32, t32}
use Rattle.significand.specs.Steps.{index_of, factor_of, multiplier_of, raw_of}
use Rattle.tables.specs.declared.Row.{Row}

-- a row of R and M where the unit gives its answer; what stands in its way, where that stands there
abbrev pub RowGiven : {E : Type 0} → ℕ → ℕ → Op → ℕ → ℕ → Result ℕ E → Result Row E → Type 0
RowGiven k t op y p (Ok g) (Ok row) =
    (row.0 ≡ factor_of k (index_of k t y)) × (row.1 ≡ multiplier_of k op row.0 p) × (g ≡ raw_of k t op y p)
RowGiven k t op y p (Err e) (Err f) = e ≡ f
RowGiven k t op y p (Ok g) (Err f) = ⊥
RowGiven k t op y p (Err e) (Ok row) = ⊥

-- at k = 7 the tables are in the code,
abbrev pub no_tables : Op → List ℕ → Type 0
no_tables op lent = Unit {0}

-- and every operand has its answer
abbrev pub raw_given : Op → ℕ → ℕ → List ℕ → Result ℕ Infallible
raw_given op y p lent = Ok (raw_of k32 t32 op y p)
