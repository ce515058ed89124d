-- Entry by entry the slice becomes the tables. Assumes nothing.
use Rattle.std.proofs.Common.{◌≡◌, ℕ, ◌+◌, ◌/◌, ◌%◌, ◌<◌, ◌≤◌, List, length, get_or, take, set, sym, refl, ap, ◌∙◌, add-one, arith, take_all, take-suc, take-suc-set}
use Rattle.kinds.specs.Operation.{op_of}
use Rattle.kinds.specs.declared.Op.{Op}
use Rattle.significand.specs.Width.{k64}
use Rattle.significand.specs.Steps.{factor_of, multiplier_of}
use Rattle.significand.specs.Tables.{tables, tables_length}
use Rattle.significand.proofs.Tables.{tables-length, entry-numbered}

-- the M that was found is the tables' entry
pub entry-is : (n x r : ℕ) (op : Op) (l : List ℕ) → n < tables_length k64 → op ≡ op_of (n / 32768 / 2 + 2) → r ≡ factor_of k64 (32768 + n % 32768)
    → x ≡ multiplier_of k64 op r (n / 32768 % 2)
    → set l n x ≡ set l n (get_or (tables k64) n 0)
entry-is n x r op l h e er ex = ap (set l n) (rw (ex, e, er) (sym (entry-numbered k64 n h)))

-- the first n numbers are the tables': none at first, one more with each entry, and at last all
pub filled_none : (l : List ℕ) → take 0 l ≡ take 0 (tables k64)
filled_none l = refl

pub filled_more : (n : ℕ) (l s : List ℕ) → n < tables_length k64 → length l ≡ tables_length k64 → take n l ≡ take n (tables k64)
    → s ≡ set l n (get_or (tables k64) n 0)
    → take (n + 1) s ≡ take (n + 1) (tables k64)
filled_more n l s h long e es =
    rw (es, add-one, take-suc-set l n (get_or (tables k64) n 0) (omega arith), take-suc (tables k64) n 0 (omega (arith, tables-length k64)), e)

pub filled : (n : ℕ) (l : List ℕ) → tables_length k64 ≤ n → length l ≡ tables_length k64 → take n l ≡ take n (tables k64) → l ≡ tables k64
filled n l h long e = sym (take_all n l (omega arith)) ∙ e ∙ take_all n (tables k64) (omega (arith, tables-length k64))
