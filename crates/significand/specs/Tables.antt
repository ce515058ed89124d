-- The tables of M that a caller lends, over k: those of both roots. Assumes nothing.
use Rattle.std.specs.Prelude.{ℕ, zero, suc, ◌+◌, ◌*◌, ◌-◌, ◌^◌, List, [], ◌∷◌, ◌++◌}
use Rattle.kinds.specs.declared.Op.{Op}
use Rattle.kinds.specs.declared.Op.TheVariants.{Reciprocal, Root, InverseRoot}
use Rattle.significand.specs.Steps.{factor_of, multiplier_of}

-- M for n indices from i up
unfoldable pub entries_from : ℕ → Op → ℕ → ℕ → ℕ → List ℕ
entries_from k op p i zero = []
entries_from k op p i (suc n) = multiplier_of k op (factor_of k i) p ∷ entries_from k op p (suc i) n

-- a table: M for every i, from 2^k up
abbrev pub table_of : ℕ → Op → ℕ → List ℕ
table_of k op p = entries_from k op p (2 ^ k) (2 ^ k)

-- the four tables, in the document's order
unfoldable pub tables : ℕ → List ℕ
tables k = table_of k Root 0 ++ (table_of k Root 1 ++ (table_of k InverseRoot 0 ++ table_of k InverseRoot 1))

-- how many numbers they are [131,072 at k = 15]
abbrev pub tables_length : ℕ → ℕ
tables_length k = 4 * 2 ^ k

-- how many tables stand before an operation's; the reciprocal has none
abbrev pub tables_before : Op → ℕ
tables_before Reciprocal = 0
tables_before Root = 0
tables_before InverseRoot = 2

-- where the entry of an operation, a parity and an i stands
abbrev pub entry_place : ℕ → Op → ℕ → ℕ → ℕ
entry_place k op p i = (tables_before op + p) * 2 ^ k + (i - 2 ^ k)
