-- The rows of document 01's table that are marked P, together. Assumes nothing.
use mathlib.Core.Path.{◌≡◌, refl, ◌∙◌}
use Prim.Native.Nat.{ℕ}
use lib.Dec.{T, le→leb}
use Rattle.kinds.specs.Operation.{is_operation, op_of}
use Rattle.kinds.specs.Rounding.{is_rounding, mode_of}
use Rattle.significand.specs.Call.{raw_refusal, raw_answer}
use Rattle.significand.proofs.Accepted.{unrefused as raw-unrefused}
use Rattle.significand.proofs.Asked.{raw-refusal, raw-answer}
use Rattle.significand.proofs.Rows.{raw-rows}
use Rattle.ieee.specs.Format.{binary32}
use Rattle.ieee.specs.Answer.{answer, answer_of}
use Rattle.ieee.proofs.Accepted.{unrefused}
use Rattle.ieee.proofs.Rows.{pattern-rows}
use Rattle.cutter.proofs.Rows.{offset-row}
use Rattle.plate.specs.Raw.{raw_call}
use Rattle.plate.proofs.Numbers.{accepted-is, binary32-accepted}
use Rattle.theorems.specs.Table.{RawGives, Gives, Table}

-- an accepted call gives the row's answer
raw-gives : (operation y p g : ℕ) → raw_refusal operation y p ≡ 0 → raw_answer operation y p ≡ g → RawGives operation y p g
raw-gives operation y p g e f = accepted-is (raw_call operation y p) g (raw-refusal operation y p ∙ e) (raw-answer operation y p ∙ f)

gives : (operation rounding operand bits flags : ℕ) → T (is_operation operation) → T (is_rounding rounding)
    → answer_of binary32 (op_of operation) (mode_of rounding) operand ≡ answer bits flags → Gives operation rounding operand bits flags
gives operation rounding operand bits flags o r e s =
    let a = unrefused operation rounding o r in
    binary32-accepted operation rounding operand s a ∙ rw e refl

pub table : Table
table =
    record {
      raw-1 = raw-gives 1 8388608 0 268435456 (raw-unrefused 1 8388608 0 tt tt tt) raw-rows.one;
      raw-2 = raw-gives 1 12582912 0 178956970 (raw-unrefused 1 12582912 0 tt tt tt) raw-rows.one-and-half-answer;
      raw-2-worked = raw-rows.one-and-half;
      raw-3 = raw-gives 1 16777215 0 134217736 (raw-unrefused 1 16777215 0 tt tt tt) raw-rows.last;
      raw-4 = raw-gives 2 8388608 1 379625062 (raw-unrefused 2 8388608 1 tt tt tt) raw-rows.root-of-two;
      raw-5 = raw-gives 3 8388608 1 189812531 (raw-unrefused 3 8388608 1 tt tt tt) raw-rows.inverse-root-of-two;
      third-down = gives 1 2 _ _ _ tt tt pattern-rows.third.down_is;
      third-up = gives 1 1 _ _ _ tt tt pattern-rows.third.up_is;
      minus-third-down = gives 1 2 _ _ _ tt tt pattern-rows.minus-third.down_is;
      minus-third-up = gives 1 1 _ _ _ tt tt pattern-rows.minus-third.up_is;
      root-of-two-down = gives 2 2 _ _ _ tt tt pattern-rows.root-of-two.down_is;
      root-of-two-up = gives 2 1 _ _ _ tt tt pattern-rows.root-of-two.up_is;
      inverse-root-of-four = λ r h. gives 3 r _ _ _ tt (le→leb r 3 h) (pattern-rows.inverse-root-of-four.each (mode_of r));
      overflow-down = gives 1 2 _ _ _ tt tt pattern-rows.overflowing.down_is;
      overflow-up = gives 1 1 _ _ _ tt tt pattern-rows.overflowing.up_is;
      offset = offset-row;
      subnormal = λ r h. gives 1 r _ _ _ tt (le→leb r 3 h) (pattern-rows.subnormal.each (mode_of r));
    }
