-- Calls that are lent what the filling call left, and calls that are lent anything else. Assumes nothing.
use mathlib.Core.Path.{◌≡◌, refl, sym, ◌∙◌}
use mathlib.Core.List.{List}
use Prim.Native.Nat.{ℕ}
use lib.Dec.{T}
use lib.ListN.{length, get_or}
use Rattle.kinds.specs.Operation.{is_operation, op_of}
use Rattle.kinds.specs.Rounding.{is_rounding}
use Rattle.kinds.specs.Refusal.{refusal_of}
use Rattle.significand.specs.Width.{k64, t64}
use Rattle.significand.specs.Steps.{index_of}
use Rattle.significand.specs.Tables.{tables, entry_place}
use Rattle.significand.specs.Call.{is_significand, is_parity, is_entry, raw64_door, raw64_refusal, raw64_answer, fill_refusal, slice_after}
use Rattle.significand.proofs.Accepted.{filled-accepted as raw-accepted}
use Rattle.significand.proofs.Asked.{raw64-refusal, raw64-answer}
use Rattle.ieee.specs.Format.{binary64}
use Rattle.ieee.specs.Normalized.{significand_of, exponent_parity}
use Rattle.binary64.specs.Call.{magnitude, is_served, binary64_door, binary64_refusal, binary64_bits, binary64_status}
use Rattle.binary64.proofs.Filled.{filled-accepted, same-refusal}
use Rattle.plate.specs.declared.Status.{Status}
use Rattle.plate.specs.Raw64.{raw64_call}
use Rattle.plate.proofs.Numbers.{same-answer, same-reply, binary64-refused, binary64-answered, binary64-raised}
use Rattle.plate.specs.Binary64.{binary64_call}

-- what an accepted filling call left
module _ (before after : List ℕ) (accepted : fill_refusal (length before) ≡ 0) (left : after ≡ slice_after before) where
  holds : after ≡ tables k64
  unfolding slice_after
  holds = left ∙ rw accepted

  -- lent to a raw call, only questions 1, 3 and 4 refuse it
  pub raw64-served : (operation y p : ℕ) → T (is_operation operation) → T (is_significand k64 t64 y) → T (is_parity (op_of operation) p)
      → refusal_of (raw64_call operation y p after) ≡ 0
  raw64-served operation y p a b c = raw64-refusal operation y p after ∙ rw holds (raw-accepted operation y p a b c)

  -- lent to a binary64 call, only 1 and 2
  pub binary64-served : (operation rounding b : ℕ) (s : Status) → T (is_operation operation) → T (is_rounding rounding)
      → refusal_of (binary64_call operation rounding b s after).answer ≡ 0
  binary64-served operation rounding b s o r =
      binary64-refused operation rounding b s after ∙ rw holds (filled-accepted b operation rounding o r)

-- of two slices of one length that hold the same where the operand's entry stands, no call tells one from the other
pub raw64-one-entry : (operation y p : ℕ) (m n : List ℕ) → length m ≡ length n
    → get_or m (entry_place k64 (op_of operation) p (index_of k64 t64 y)) 0 ≡ get_or n (entry_place k64 (op_of operation) p (index_of k64 t64 y)) 0
    → raw64_call operation y p m ≡ raw64_call operation y p n
unfolding raw64_answer raw64_refusal is_entry
raw64-one-entry operation y p m n long entry =
    let e : raw64_refusal operation y p m ≡ raw64_refusal operation y p n = rw (long, entry) in
    let f : raw64_answer operation y p m ≡ raw64_answer operation y p n = rw (long, entry) in
    same-answer (raw64_call operation y p m) (raw64_call operation y p n)
    (raw64-refusal operation y p m ∙ e ∙ sym (raw64-refusal operation y p n)) (raw64-answer operation y p m ∙ f ∙ sym (raw64-answer operation y p n))

pub one_entry : (operation rounding b : ℕ) (s : Status) (m n : List ℕ) → length m ≡ length n
    → get_or m (entry_place k64 (op_of operation) (exponent_parity binary64 (magnitude b)) (index_of k64 t64 (significand_of binary64 (magnitude b)))) 0
    ≡ get_or n (entry_place k64 (op_of operation) (exponent_parity binary64 (magnitude b)) (index_of k64 t64 (significand_of binary64 (magnitude b)))) 0
    → binary64_call operation rounding b s m ≡ binary64_call operation rounding b s n
one_entry operation rounding b s m n long entry =
    let e = same-refusal operation rounding b m n long entry in
    let bits : binary64_bits operation rounding b m ≡ binary64_bits operation rounding b n = rw e refl in
    let status : binary64_status operation rounding b s.flags m ≡ binary64_status operation rounding b s.flags n = rw e refl in
    same-reply (binary64_call operation rounding b s m) (binary64_call operation rounding b s n)
    (binary64-raised operation rounding b s m ∙ status ∙ sym (binary64-raised operation rounding b s n))
    (binary64-refused operation rounding b s m ∙ e ∙ sym (binary64-refused operation rounding b s n))
    (binary64-answered operation rounding b s m ∙ bits ∙ sym (binary64-answered operation rounding b s n))

-- operation 1 tells no two slices apart
pub raw64-reciprocal-alone : (y p : ℕ) (m n : List ℕ) → raw64_call 1 y p m ≡ raw64_call 1 y p n
unfolding raw64_answer raw64_refusal raw64_door is_entry
raw64-reciprocal-alone y p m n = refl

pub reciprocal-alone : (rounding b : ℕ) (s : Status) (m n : List ℕ) → binary64_call 1 rounding b s m ≡ binary64_call 1 rounding b s n
unfolding binary64_refusal binary64_door is_served is_entry
reciprocal-alone rounding b s m n = refl
