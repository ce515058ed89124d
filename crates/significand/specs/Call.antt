-- The raw calls: their questions, and what they answer. Assumes nothing.
use Rattle.std.specs.Prelude.{ℕ, ◌+◌, ◌*◌, ◌-◌, ◌^◌, Bool, cond, not, ◌&&◌, ◌||◌, List, leb, ltb, eqb, length, get_or, Result, Ok}
use Rattle.kinds.specs.declared.Op.{Op}
use Rattle.kinds.specs.Operation.{is_operation, op_of, is_reciprocal}
use Rattle.kinds.specs.Question.{ask, then_ask}
use Rattle.kinds.specs.declared.Refusal.{Refusal}
use Rattle.kinds.specs.declared.Refusal.TheVariants as R
use Rattle.kinds.specs.Refusal.{asked, then}
use Rattle.significand.specs.Width.{k32, t32, k64, t64}
use Rattle.significand.specs.Steps.{index_of, factor_of, multiplier_of, raw_of}
use Rattle.significand.specs.Tables.{tables, tables_length, entry_place}

-- question 3: has the significand 3k + t bits? [from 8,388,608 to 16,777,215, and from 2^52 to below 2^53]
abbrev pub is_significand : ℕ → ℕ → ℕ → Bool
is_significand k t y = leb (2 ^ (3 * k + t - 1)) y && ltb y (2 ^ (3 * k + t))

-- question 4: is the parity 0, or 1 with operation 2 or 3?
abbrev pub is_parity : Op → ℕ → Bool
is_parity op p = eqb p 0 || (eqb p 1 && not (is_reciprocal op))

-- the number of the first question that is answered "no", or 0
unfoldable pub raw_refusal : ℕ → ℕ → ℕ → ℕ
raw_refusal operation y p =
    ask (is_operation operation) 1
    (ask (is_significand k32 t32 y) 3
    (ask (is_parity (op_of operation) p) 4
    0))

-- the answer: g, and 0 after a "no"
unfoldable pub raw_answer : ℕ → ℕ → ℕ → ℕ
raw_answer operation y p = cond (eqb (raw_refusal operation y p) 0) (raw_of k32 t32 (op_of operation) y p) 0

-- question 15: has the lent slice, of so many entries, the length of the tables? The reciprocal looks at no slice
abbrev pub is_lent : ℕ → Op → ℕ → Bool
is_lent k op entries = is_reciprocal op || eqb entries (tables_length k)

-- question 16: is the entry that the operand uses M? No other entry is looked at
unfoldable pub is_entry : ℕ → ℕ → Op → ℕ → ℕ → List ℕ → Bool
is_entry k t op y p table =
    is_reciprocal op || eqb (get_or table (entry_place k op p (index_of k t y)) 0) (multiplier_of k op (factor_of k (index_of k t y)) p)

-- the raw call for significands of 53 bits: questions 1, 3, 4 and 15, for a slice of so many entries
unfoldable pub raw64_door : ℕ → ℕ → ℕ → ℕ → ℕ
raw64_door operation y p entries =
    ask (is_operation operation) 1
    (ask (is_significand k64 t64 y) 3
    (ask (is_parity (op_of operation) p) 4
    (ask (is_lent k64 (op_of operation) entries) 15
    0)))

-- and the last, 16
unfoldable pub raw64_refusal : ℕ → ℕ → ℕ → List ℕ → ℕ
raw64_refusal operation y p table =
    then_ask (raw64_door operation y p (length table)) (ask (is_entry k64 t64 (op_of operation) y p table) 16 0)

-- the answer: g, and 0 after a "no"
unfoldable pub raw64_answer : ℕ → ℕ → ℕ → List ℕ → ℕ
raw64_answer operation y p table = cond (eqb (raw64_refusal operation y p table) 0) (raw_of k64 t64 (op_of operation) y p) 0

-- the filling call: question 15 alone
unfoldable pub fill_refusal : ℕ → ℕ
fill_refusal entries = ask (eqb entries (tables_length k64)) 15 0

-- the lent slice after it: the tables; after a "no" what it held
unfoldable pub slice_after : List ℕ → List ℕ
slice_after before = cond (eqb (fill_refusal (length before)) 0) (tables k64) before

-- ---- the same by cases, once question 1 is asked: each question whose "yes" gives a value, and the answer behind them

-- question 3, and the significand
abbrev pub significand_asked : ℕ → ℕ → ℕ → Result ℕ Refusal
significand_asked k t y = asked (is_significand k t y) R.Significand y

-- question 4, and the parity
abbrev pub parity_asked : Op → ℕ → Result ℕ Refusal
parity_asked op p = asked (is_parity op p) R.Parity p

-- question 15, and nothing
abbrev pub slice_asked : ℕ → Op → ℕ → Result (Unit {0}) Refusal
slice_asked k op entries = asked (is_lent k op entries) R.Tables tt

-- question 16, and g
abbrev pub entry_asked : ℕ → ℕ → Op → ℕ → ℕ → List ℕ → Result ℕ Refusal
entry_asked k t op y p table = asked (is_entry k t op y p table) R.Entry (raw_of k t op y p)

-- the raw call
abbrev pub raw_asked : Op → ℕ → ℕ → Result ℕ Refusal
raw_asked op y p =
    then (significand_asked k32 t32 y) (λ s.
    then (parity_asked op p) (λ q.
    Ok (raw_of k32 t32 op s q)))

-- the raw call for significands of 53 bits
abbrev pub raw64_asked : Op → ℕ → ℕ → List ℕ → Result ℕ Refusal
raw64_asked op y p table =
    then (significand_asked k64 t64 y) (λ s.
    then (parity_asked op p) (λ q.
    then (slice_asked k64 op (length table)) (λ lent.
    entry_asked k64 t64 op s q table)))

-- the filling call
abbrev pub filling_asked : ℕ → Result (Unit {0}) Refusal
filling_asked entries = asked (eqb entries (tables_length k64)) R.Tables tt
