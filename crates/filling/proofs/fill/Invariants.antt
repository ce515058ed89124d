-- `filling::fill` meets its contract. Assumes nothing.
use Rattle.std.proofs.Common.{◌≡◌, length, take}
use Rattle.significand.specs.Width.{k64}
use Rattle.significand.specs.Tables.{tables, tables_length}
use Rattle.filling.proofs.fill.Given as goal

abbrev pub invariant-loop-n : goal.invariant-loop-n
invariant-loop-n l = (length l.table ≡ tables_length k64) × (take l.n l.table ≡ take l.n (tables k64))
