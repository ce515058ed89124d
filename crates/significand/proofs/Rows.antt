-- The raw rows of document 01's table. Assumes nothing.
use mathlib.Core.Path.{◌≡◌, refl, sym, ◌∙◌}
use mathlib.Core.Bool.{true}
use Prim.Native.Nat.{ℕ}
use lib.Dec.{T}
use Rattle.kinds.specs.declared.Op.TheVariants.{Root, InverseRoot}
use Rattle.kinds.specs.Operation.{is_operation, op_of}
use Rattle.significand.specs.Width.{k32, t32}
use Rattle.significand.specs.Steps.{index_of, factor_of, sign_of, reduced_of, sum_of, multiplier_of, raw_of}
use Rattle.significand.specs.Call.{is_significand, is_parity, raw_answer}
use Rattle.significand.specs.Rows.{Worked}
use Rattle.significand.proofs.Accepted.{unrefused, accepted-answer}
use Rattle.significand.proofs.Numerals.{root-entry, inverse-root-entry, answer-is}

-- the rows marked P, with what the second works out
pub record RawRows : Type 0 where
  pub one : raw_answer 1 8388608 0 ≡ 268435456
  pub one-and-half : Worked k32 t32 12582912 170 1048576 269488144 178956970
  pub one-and-half-answer : raw_answer 1 12582912 0 ≡ 178956970
  pub last : raw_answer 1 16777215 0 ≡ 134217736
  pub root-of-two : raw_answer 2 8388608 1 ≡ 379625062
  pub inverse-root-of-two : raw_answer 3 8388608 1 ≡ 189812531

-- the answer of an accepted call
answered : (operation y p : ℕ) → T (is_operation operation) → T (is_significand k32 t32 y) → T (is_parity (op_of operation) p)
    → raw_answer operation y p ≡ raw_of k32 t32 (op_of operation) y p
answered operation y p a b c = accepted-answer operation y p (unrefused operation y p a b c)

pub raw-rows : RawRows
unfolding index_of factor_of sign_of reduced_of sum_of multiplier_of raw_of
raw-rows =
    record {
      one = answered 1 8388608 0 tt tt tt;
      one-and-half = record { factor = refl; sign = refl; reduced = refl; series = refl; answer = refl };
      one-and-half-answer = answered 1 12582912 0 tt tt tt;
      last = answered 1 16777215 0 tt tt tt;
      root-of-two =
          answered 2 8388608 1 tt tt tt
          ∙ sym (answer-is Root 8388608 1 256 0 379625062 268435456 379625062 true refl refl refl refl (root-entry 1 128 379625062 tt) refl);
      inverse-root-of-two =
          answered 3 8388608 1 tt tt tt
          ∙ sym (answer-is InverseRoot 8388608 1 256 0 189812531 268435456 189812531 true refl refl refl refl (inverse-root-entry 1 128 189812531 tt) refl);
    }
