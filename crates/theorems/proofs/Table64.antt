-- The rows of binary64 and of the raw unit at k = 15, together. Assumes nothing.
use mathlib.Core.Path.{◌≡◌, refl, ◌∙◌}
use Prim.Native.Nat.{ℕ}
use Rattle.kinds.specs.declared.Op.TheVariants.{Root, InverseRoot}
use Rattle.kinds.specs.Operation.{op_of}
use Rattle.kinds.specs.Rounding.{mode_of}
use Rattle.numbers.specs.Greatest.{greatest, greatest_from}
use Rattle.significand.specs.Width.{k64, t64}
use Rattle.significand.specs.Steps.{index_of, factor_of, sign_of, reduced_of, sum_of, multiplier_of, raw_of}
use Rattle.significand.specs.Rows.{Worked}
use Rattle.significand.proofs.Accepted.{accepted64-answer}
use Rattle.significand.proofs.Asked.{raw64-refusal, raw64-answer}
use Rattle.ieee.specs.Format.{binary64}
use Rattle.ieee.specs.Answer.{answer, answer_of}
use Rattle.ieee.specs.Rows64.{Row, rows64, Answers}
use Rattle.ieee.proofs.Rows.{every, rows64-answered}
use Rattle.plate.specs.Raw64.{raw64_call}
use Rattle.plate.proofs.Numbers.{accepted-is, binary64-accepted}
use Rattle.theorems.specs.Table64.{Raw64Gives, Gives64, RowGives, Table64}

raw-gives : (operation y p g : ℕ) → raw_of k64 t64 (op_of operation) y p ≡ g → Raw64Gives operation y p g
raw-gives operation y p g e tables a =
    accepted-is (raw64_call operation y p tables) g (raw64-refusal operation y p tables ∙ a) (raw64-answer operation y p tables ∙ accepted64-answer operation y p tables a ∙ e)

gives : (operation rounding operand bits flags : ℕ) → answer_of binary64 (op_of operation) (mode_of rounding) operand ≡ answer bits flags
    → Gives64 operation rounding operand bits flags
gives operation rounding operand bits flags e s tables a =
    binary64-accepted operation rounding operand s tables a ∙ rw e refl

row : (r : Row) → Answers r → RowGives r
row r a =
    record {
      to-nearest = gives r.operation 0 r.operand r.nearest r.flags a.to-nearest;
      to-up = gives r.operation 1 r.operand r.up r.flags a.to-up;
      to-down = gives r.operation 2 r.operand r.down r.flags a.to-down;
      to-zero = gives r.operation 3 r.operand r.zero r.flags a.to-zero;
    }

-- the raw rows, computed
one-and-half : Worked k64 t64 6755399441055744 43690 17592186044416 1152939097061330944 768614336404564650
unfolding index_of factor_of sign_of reduced_of sum_of multiplier_of raw_of
one-and-half = record { factor = refl; sign = refl; reduced = refl; series = refl; answer = refl }

root-of-two : raw_of k64 t64 Root 4503599627370496 1 ≡ 1630477228166597777
unfolding index_of factor_of sign_of reduced_of sum_of multiplier_of raw_of greatest greatest_from
root-of-two = refl

inverse-root-of-two : raw_of k64 t64 InverseRoot 4503599627370496 1 ≡ 815238614083298888
unfolding index_of factor_of sign_of reduced_of sum_of multiplier_of raw_of greatest greatest_from
inverse-root-of-two = refl

pub table64 : Table64
table64 =
    record {
      raw-1 = raw-gives 1 _ 0 _ one-and-half.answer;
      raw-1-worked = one-and-half;
      raw-2 = raw-gives 2 _ 1 _ root-of-two;
      raw-3 = raw-gives 3 _ 1 _ inverse-root-of-two;
      rounded = every Answers RowGives row rows64 rows64-answered;
    }
