-- The three operations, whose cases are those of `kinds::Op`, and their numbers. Assumes nothing.
use Rattle.std.specs.Prelude.{ℕ, Bool, cond, true, false, ◌&&◌, eqb, leb}
use Rattle.kinds.specs.declared.Op.{Op}
use Rattle.kinds.specs.declared.Op.TheVariants.{Reciprocal, Root, InverseRoot}

-- question 1: is the operation 1, 2 or 3?
abbrev pub is_operation : ℕ → Bool
is_operation n = leb 1 n && leb n 3

-- 1 reciprocal, 2 root, 3 inverse root
abbrev pub op_of : ℕ → Op
op_of n = cond (eqb n 1) Reciprocal (cond (eqb n 2) Root InverseRoot)

-- whether an operation is the reciprocal
abbrev pub is_reciprocal : Op → Bool
is_reciprocal Reciprocal = true
is_reciprocal Root = false
is_reciprocal InverseRoot = false
