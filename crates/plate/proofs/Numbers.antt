-- The replies in numbers: each call gives the number of the first question that is answered "no", or 0, and the answer, 0 after a "no".
-- Assumes nothing.
use Rattle.std.specs.Prelude.{◌≡◌, ℕ, ◌%◌, ◌<◌, Bool, true, false, cond, eqb, List, Result, Ok, Err}
use Rattle.std.specs.Int.Bits.{bit_or}
use mathlib.Core.Path.{refl, ap, ◌∙◌}
use native.Mathlib.Nat.{mod-eq_of_lt}
use native.Mathlib.Omega.{arith}
use Rattle.kinds.specs.declared.Refusal.{Refusal}
use Rattle.kinds.specs.Operation.{op_of}
use Rattle.kinds.specs.Rounding.{mode_of}
use Rattle.kinds.specs.Question.{ask, then_ask}
use Rattle.kinds.specs.Refusal.{number_of, refusal_of, answer_of, asked, then}
use Rattle.kinds.proofs.Refusals.{refusal-then, number-positive, refused-by}
use Rattle.significand.specs.Call.{raw_refusal, raw_answer, raw64_refusal, raw64_answer}
use Rattle.significand.proofs.Asked.{raw-refusal, raw-answer, raw64-refusal, raw64-answer}
use Rattle.ieee.specs.Format.{Format, binary32, binary64}
use Rattle.ieee.specs.Answer.{Answer, answer_of as answer_to}
use Rattle.ieee.specs.Call.{bits_of as bits_over, status_of, binary32_refusal, binary32_bits, binary32_status, binary32_asked}
use Rattle.ieee.proofs.Accepted.{accepted-bits, accepted-status}
use Rattle.ieee.proofs.Flags.{flags-small}
use Rattle.binary64.specs.Call.{binary64_door, binary64_refusal, binary64_bits, binary64_status}
use Rattle.plate.specs.declared.Status.{Status}
use Rattle.plate.specs.declared.Reply.{Reply}
use Rattle.plate.specs.Status.{raised}
use Rattle.plate.specs.Raw.{raw_call}
use Rattle.plate.specs.Raw64.{raw64_call}
use Rattle.pattern.specs.Answer.{Replied}
use Rattle.pattern.specs.declared.answer.Rounded.{Rounded}
use Rattle.plate.specs.Rounded.{bits_of, status_after, replied}
use Rattle.plate.specs.Binary32.{binary32_call}
use Rattle.plate.specs.Binary64.{binary64_answer, binary64_call}

-- ---- the raw calls

pub raw-numbers : (operation y p : ℕ) (r : Result ℕ Refusal) → r ≡ raw_call operation y p
    → (refusal_of r ≡ raw_refusal operation y p) × (answer_of r ≡ raw_answer operation y p)
raw-numbers operation y p r e = rw e (raw-refusal operation y p, raw-answer operation y p)

pub raw64-numbers : (operation y p : ℕ) (table : List ℕ) (r : Result ℕ Refusal) → r ≡ raw64_call operation y p table
    → (refusal_of r ≡ raw64_refusal operation y p table) × (answer_of r ≡ raw64_answer operation y p table)
raw64-numbers operation y p table r e = rw e (raw64-refusal operation y p table, raw64-answer operation y p table)

-- ---- the rounded calls: what follows a question, in numbers

bits-refused : (r : Result Answer Refusal) → refusal_of (bits_of r) ≡ refusal_of r
bits-refused (Ok a) = refl
bits-refused (Err e) = refl

bits-then :
    {A : Type 0} (t : Bool) (e : Refusal) (x : A) (f : A → Result Answer Refusal) →
    answer_of (bits_of (then (asked t e x) f)) ≡ cond t (answer_of (bits_of (f x))) 0
bits-then true e x f = refl
bits-then false e x f = refl

status-then :
    {A : Type 0} (s : Status) (t : Bool) (e : Refusal) (x : A) (f : A → Result Answer Refusal) →
    (status_after s (then (asked t e x) f)).flags ≡ cond t (status_after s (f x)).flags s.flags
status-then s true e x f = refl
status-then s false e x f = refl

two : (a b : Bool) (x y : ℕ) → cond a (cond b x y) y ≡ cond (eqb (ask a 1 (ask b 2 0)) 0) x y
unfolding ask
two true true x y = refl
two true false x y = refl
two false b x y = refl

three-asked : (a b c : Bool) (later : ℕ) → ask a 1 (ask b 2 (ask c 15 later)) ≡ then_ask (ask a 1 (ask b 2 (ask c 15 0))) later
unfolding ask then_ask
three-asked true true true later = refl
three-asked true true false later = refl
three-asked true false c later = refl
three-asked false b c later = refl

four : (a b c d : Bool) (x y : ℕ)
    → cond a (cond b (cond c (cond d x y) y) y) y ≡ cond (eqb (then_ask (ask a 1 (ask b 2 (ask c 15 0))) (ask d 16 0)) 0) x y
unfolding ask then_ask
four true true true true x y = refl
four true true true false x y = refl
four true true false d x y = refl
four true false c d x y = refl
four false b c d x y = refl

-- the binary32 call

module _ (operation rounding b : ℕ) (s : Status) where
  pub binary32-refused : refusal_of (binary32_call operation rounding b s).answer ≡ binary32_refusal operation rounding
  unfolding binary32_refusal
  binary32-refused = bits-refused (binary32_asked operation rounding b) ∙ simp refusal-then

  pub binary32-answered : answer_of (binary32_call operation rounding b s).answer ≡ binary32_bits operation rounding b
  unfolding bits_over binary32_refusal
  binary32-answered = simp bits-then (two _ _ _ 0)

  pub binary32-raised : (binary32_call operation rounding b s).status.flags ≡ binary32_status operation rounding b s.flags
  unfolding status_of binary32_refusal
  binary32-raised =
      simp (status-then, mod-eq_of_lt (flags-small binary32 (op_of operation) (mode_of rounding) b)) (two _ _ _ _)

  pub binary32-numbers : (r : Reply ℕ) → r ≡ binary32_call operation rounding b s
      → (refusal_of r.answer ≡ binary32_refusal operation rounding) × (answer_of r.answer ≡ binary32_bits operation rounding b)
  binary32-numbers r e = rw e (binary32-refused, binary32-answered)

  pub binary32-status : (r : Reply ℕ) → r ≡ binary32_call operation rounding b s → r.status.flags ≡ binary32_status operation rounding b s.flags
  binary32-status r e = rw e binary32-raised

-- the binary64 call

module _ (operation rounding b : ℕ) (s : Status) (tables : List ℕ) where
  pub binary64-refused : refusal_of (binary64_call operation rounding b s tables).answer ≡ binary64_refusal operation rounding b tables
  unfolding binary64_refusal binary64_door
  binary64-refused = bits-refused (binary64_answer operation rounding b tables) ∙ simp refusal-then (three-asked _ _ _ _)

  pub binary64-answered : answer_of (binary64_call operation rounding b s tables).answer ≡ binary64_bits operation rounding b tables
  unfolding bits_over binary64_refusal binary64_door
  binary64-answered = simp bits-then (four _ _ _ _ _ 0)

  pub binary64-raised : (binary64_call operation rounding b s tables).status.flags ≡ binary64_status operation rounding b s.flags tables
  unfolding status_of binary64_refusal binary64_door
  binary64-raised =
      simp (status-then, mod-eq_of_lt (flags-small binary64 (op_of operation) (mode_of rounding) b)) (four _ _ _ _ _ _)

  pub binary64-numbers : (r : Reply ℕ) → r ≡ binary64_call operation rounding b s tables
      → (refusal_of r.answer ≡ binary64_refusal operation rounding b tables) × (answer_of r.answer ≡ binary64_bits operation rounding b tables)
  binary64-numbers r e = rw e (binary64-refused, binary64-answered)

  pub binary64-status : (r : Reply ℕ) → r ≡ binary64_call operation rounding b s tables → r.status.flags ≡ binary64_status operation rounding b s.flags tables
  binary64-status r e = rw e binary64-raised

-- ---- an answer as code has it, and a refusal

module _ (f : Format) (s : Status) (q : Result Answer Refusal) (x : Result Rounded Refusal) (h : Replied f q x) (y : Reply ℕ) where
  pub answered-is : (r : Rounded) → x ≡ Ok r → y ≡ record { status = raised s r.flags; answer = Ok r.bits } → y ≡ replied s q
  answered-is r e g = rw g (go q (rw e at h))
    where
      go : (q : Result Answer Refusal) → Replied f q (Ok r) → record { status = raised s r.flags; answer = Ok r.bits } ≡ replied s q
      go (Ok a) h = rw (h.bits_are, h.flags-are) refl
      go (Err d) h = absurd h

  pub refused-is : (e : Refusal) → x ≡ Err e → y ≡ record { status = s; answer = Err e } → y ≡ replied s q
  refused-is e k g = rw g (go q (rw k at h))
    where
      go : (q : Result Answer Refusal) → Replied f q (Err e) → record { status = s; answer = Err e } ≡ replied s q
      go (Ok a) h = absurd h
      go (Err d) h = rw h refl

-- ---- an accepted reply

whole : (r : Reply ℕ) (n : ℕ) (a : Result ℕ Refusal) → r.status.flags ≡ n → r.answer ≡ a → r ≡ record { status = record { flags = n }; answer = a }
whole r n a e f = rw (← e, ← f) refl

pub accepted-is : (r : Result ℕ Refusal) (x : ℕ) → refusal_of r ≡ 0 → answer_of r ≡ x → r ≡ Ok x
accepted-is (Ok y) x e f = ap (λ (n : ℕ). Ok n) f
accepted-is (Err d) x e f = absurd (let p : 0 < number_of d = number-positive d in omega arith)

pub binary32-accepted : (operation rounding b : ℕ) (s : Status) → binary32_refusal operation rounding ≡ 0
    → binary32_call operation rounding b s
    ≡ record {
      status = record { flags = bit_or (s.flags % 32) (answer_to binary32 (op_of operation) (mode_of rounding) b).flags };
      answer = Ok (answer_to binary32 (op_of operation) (mode_of rounding) b).bits;
    }
binary32-accepted operation rounding b s z =
    whole (binary32_call operation rounding b s) _ _
    (binary32-raised operation rounding b s ∙ accepted-status binary32 _ (op_of operation) (mode_of rounding) b z s.flags)
    (accepted-is _ _ (binary32-refused operation rounding b s ∙ z) (binary32-answered operation rounding b s ∙ accepted-bits binary32 _ (op_of operation) (mode_of rounding) b z))

pub binary64-accepted : (operation rounding b : ℕ) (s : Status) (tables : List ℕ) → binary64_refusal operation rounding b tables ≡ 0
    → binary64_call operation rounding b s tables
    ≡ record {
      status = record { flags = bit_or (s.flags % 32) (answer_to binary64 (op_of operation) (mode_of rounding) b).flags };
      answer = Ok (answer_to binary64 (op_of operation) (mode_of rounding) b).bits;
    }
binary64-accepted operation rounding b s tables z =
    whole (binary64_call operation rounding b s tables) _ _
    (binary64-raised operation rounding b s tables ∙ accepted-status binary64 _ (op_of operation) (mode_of rounding) b z s.flags)
    (accepted-is _ _ (binary64-refused operation rounding b s tables ∙ z) (binary64-answered operation rounding b s tables ∙ accepted-bits binary64 _ (op_of operation) (mode_of rounding) b z))

-- ---- replies with the same numbers are the same

pub same-answer : (r q : Result ℕ Refusal) → refusal_of r ≡ refusal_of q → answer_of r ≡ answer_of q → r ≡ q
same-answer r (Ok y) e f = accepted-is r y e f
same-answer r (Err d) e f = refused-by r d e

pub same-reply : (r q : Reply ℕ) → r.status.flags ≡ q.status.flags → refusal_of r.answer ≡ refusal_of q.answer → answer_of r.answer ≡ answer_of q.answer
    → r ≡ q
same-reply r q s e f = whole r _ _ s (same-answer r.answer q.answer e f)
