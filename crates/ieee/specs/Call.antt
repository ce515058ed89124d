-- What a rounded call answers and the new status, over the format; and the binary32 call with its questions. Assumes nothing.
use Rattle.std.specs.Prelude.{ℕ, ◌%◌, cond, eqb, Result, Ok}
use Rattle.std.specs.Int.Bits.{bit_or}
use Rattle.kinds.specs.declared.Op.{Op}
use Rattle.kinds.specs.declared.Mode.{Mode}
use Rattle.kinds.specs.Operation.{is_operation, op_of}
use Rattle.kinds.specs.Rounding.{is_rounding, mode_of}
use Rattle.kinds.specs.Question.{ask}
use Rattle.kinds.specs.declared.Refusal.{Refusal}
use Rattle.kinds.specs.Refusal.{then, operation_asked, rounding_asked}
use Rattle.ieee.specs.Format.{Format, binary32}
use Rattle.ieee.specs.Answer.{Answer, answer_of}

-- the answer's bits where the call's refusal is 0, and 0 after a "no"
unfoldable pub bits_of : Format → ℕ → Op → Mode → ℕ → ℕ
bits_of f refusal op mode b = cond (eqb refusal 0) (answer_of f op mode b).bits 0

-- the flags of the answer joined to those that stood, unknown bits read as zero; after a "no" the status as given
unfoldable pub status_of : Format → ℕ → Op → Mode → ℕ → ℕ → ℕ
status_of f refusal op mode b status = cond (eqb refusal 0) (bit_or (status % 32) (answer_of f op mode b).flags) status

-- the number of the first question that is answered "no", or 0
unfoldable pub binary32_refusal : ℕ → ℕ → ℕ
binary32_refusal operation rounding = ask (is_operation operation) 1 (ask (is_rounding rounding) 2 0)

-- the answer's bits, and the new status
abbrev pub binary32_bits : ℕ → ℕ → ℕ → ℕ
binary32_bits operation rounding b = bits_of binary32 (binary32_refusal operation rounding) (op_of operation) (mode_of rounding) b

abbrev pub binary32_status : ℕ → ℕ → ℕ → ℕ → ℕ
binary32_status operation rounding b status =
    status_of binary32 (binary32_refusal operation rounding) (op_of operation) (mode_of rounding) b status

-- the same by cases: the questions in their order, and the answer behind them
abbrev pub binary32_asked : ℕ → ℕ → ℕ → Result Answer Refusal
binary32_asked operation rounding b =
    then (operation_asked operation) (λ op.
    then (rounding_asked rounding) (λ mode.
    Ok (answer_of binary32 op mode b)))
