-- What the raw calls and the filling call give by cases says the published numbers. Assumes nothing.
use mathlib.Core.Path.{◌≡◌, refl, ap, ◌∙◌}
use mathlib.Core.Bool.{Bool, true, false, cond}
use mathlib.Core.List.{List}
use Prim.Native.Nat.{ℕ, suc}
use native.Mathlib.Omega.{arith}
use borrow.Author.Tests.{ne_eqb}
use lib.Dec.{eqb}
use lib.ListN.{length}
use Rattle.std.specs.Prelude.{Result, Ok, Err}
use Rattle.kinds.specs.declared.Op.{Op}
use Rattle.kinds.specs.declared.Refusal.{Refusal}
use Rattle.kinds.specs.declared.Refusal.TheVariants as R
use Rattle.kinds.specs.Operation.{is_operation, op_of}
use Rattle.kinds.specs.Question.{ask, then_ask}
use Rattle.kinds.specs.Refusal.{number_of, refusal_of, answer_of, asked, then, operation_asked}
use Rattle.kinds.proofs.Refusals.{refusal-then, answer-then, number-positive}
use Rattle.significand.specs.Width.{k32, t32, k64, t64}
use Rattle.significand.specs.Steps.{raw_of}
use Rattle.significand.specs.Tables.{tables_length}
use Rattle.significand.specs.Call.{is_significand, is_parity, is_lent, is_entry, raw_refusal, raw_answer, raw64_door, raw64_refusal, raw64_answer, fill_refusal}
use Rattle.significand.specs.Call.{parity_asked, slice_asked, entry_asked, raw_asked, raw64_asked, filling_asked}

-- the last question
refusal-last : {A : Type 0} (t : Bool) (e : Refusal) (x : A) → refusal_of (asked t e x) ≡ ask t (number_of e) 0
unfolding ask
refusal-last true e x = refl
refusal-last false e x = refl

answer-last : (t : Bool) (e : Refusal) (x : ℕ) → answer_of (asked t e x) ≡ cond t x 0
answer-last true e x = refl
answer-last false e x = refl

-- an answer that stands where no question gave its number, behind one more
unrefused : (t : Bool) (n rest g : ℕ) → cond t (cond (eqb rest 0) g 0) 0 ≡ cond (eqb (ask t (suc n) rest) 0) g 0
unfolding ask
unrefused true n rest g = refl
unrefused false n rest g = rw (ne_eqb (suc n) 0 (omega arith))

-- two groups of questions are one
one_group : (a b c d : Bool) (later : ℕ)
    → ask a 1 (ask b 3 (ask c 4 (ask d 15 later))) ≡ then_ask (ask a 1 (ask b 3 (ask c 4 (ask d 15 0)))) later
unfolding ask then_ask
one_group true true true true later = refl
one_group true true true false later = refl
one_group true true false d later = refl
one_group true false c d later = refl
one_group false b c d later = refl

-- the raw call at k = 7
module _ (operation y p : ℕ) where
  abbrev replied : Result ℕ Refusal
  replied = then (operation_asked operation) (λ op. raw_asked op y p)

  pub raw-refusal : refusal_of replied ≡ raw_refusal operation y p
  unfolding raw_refusal
  raw-refusal =
      refusal-then (is_operation operation) R.Operation (op_of operation) (λ op. raw_asked op y p)
      ∙ ap (ask (is_operation operation) 1)
      (refusal-then (is_significand k32 t32 y) R.Significand y (λ s. then (parity_asked (op_of operation) p) (λ q. Ok (raw_of k32 t32 (op_of operation) s q)))
      ∙ ap (ask (is_significand k32 t32 y) 3)
      (refusal-then (is_parity (op_of operation) p) R.Parity p (λ q. Ok (raw_of k32 t32 (op_of operation) y q))))

  pub raw-answer : answer_of replied ≡ raw_answer operation y p
  unfolding raw_answer raw_refusal
  raw-answer =
      let g : ℕ = raw_of k32 t32 (op_of operation) y p in
      let third : ℕ = ask (is_parity (op_of operation) p) 4 0 in
      answer-then (is_operation operation) R.Operation (op_of operation) (λ op. raw_asked op y p)
      ∙ ap (λ (x : ℕ). cond (is_operation operation) x 0)
      (answer-then (is_significand k32 t32 y) R.Significand y (λ s. then (parity_asked (op_of operation) p) (λ q. Ok (raw_of k32 t32 (op_of operation) s q)))
      ∙ ap (λ (x : ℕ). cond (is_significand k32 t32 y) x 0)
      (answer-then (is_parity (op_of operation) p) R.Parity p (λ q. Ok (raw_of k32 t32 (op_of operation) y q))
      ∙ unrefused (is_parity (op_of operation) p) 3 0 g)
      ∙ unrefused (is_significand k32 t32 y) 2 third g)
      ∙ unrefused (is_operation operation) 0 (ask (is_significand k32 t32 y) 3 third) g

-- the raw call at k = 15
module _ (operation y p : ℕ) (table : List ℕ) where
  abbrev replied64 : Result ℕ Refusal
  replied64 = then (operation_asked operation) (λ op. raw64_asked op y p table)

  abbrev after_parity : ℕ → ℕ → Result ℕ Refusal
  after_parity s q = then (slice_asked k64 (op_of operation) (length table)) (λ lent. entry_asked k64 t64 (op_of operation) s q table)

  abbrev after_significand : ℕ → Result ℕ Refusal
  after_significand s = then (parity_asked (op_of operation) p) (after_parity s)

  one-chain : ask (is_operation operation) 1
      (ask (is_significand k64 t64 y) 3
      (ask (is_parity (op_of operation) p) 4
      (ask (is_lent k64 (op_of operation) (length table)) 15
      (ask (is_entry k64 t64 (op_of operation) y p table) 16
      0))))
      ≡ raw64_refusal operation y p table
  unfolding raw64_refusal raw64_door
  one-chain =
      one_group (is_operation operation) (is_significand k64 t64 y) (is_parity (op_of operation) p) (is_lent k64 (op_of operation) (length table))
      (ask (is_entry k64 t64 (op_of operation) y p table) 16 0)

  pub raw64-refusal : refusal_of replied64 ≡ raw64_refusal operation y p table
  raw64-refusal =
      refusal-then (is_operation operation) R.Operation (op_of operation) (λ op. raw64_asked op y p table)
      ∙ ap (ask (is_operation operation) 1)
      (refusal-then (is_significand k64 t64 y) R.Significand y after_significand
      ∙ ap (ask (is_significand k64 t64 y) 3)
      (refusal-then (is_parity (op_of operation) p) R.Parity p (after_parity y)
      ∙ ap (ask (is_parity (op_of operation) p) 4)
      (refusal-then (is_lent k64 (op_of operation) (length table)) R.Tables tt (λ lent. entry_asked k64 t64 (op_of operation) y p table)
      ∙ ap (ask (is_lent k64 (op_of operation) (length table)) 15)
      (refusal-last (is_entry k64 t64 (op_of operation) y p table) R.Entry (raw_of k64 t64 (op_of operation) y p)))))
      ∙ one-chain

  pub raw64-answer : answer_of replied64 ≡ raw64_answer operation y p table
  unfolding raw64_answer
  raw64-answer =
      let g : ℕ = raw_of k64 t64 (op_of operation) y p in
      let fifth : ℕ = ask (is_entry k64 t64 (op_of operation) y p table) 16 0 in
      let fourth : ℕ = ask (is_lent k64 (op_of operation) (length table)) 15 fifth in
      let third : ℕ = ask (is_parity (op_of operation) p) 4 fourth in
      answer-then (is_operation operation) R.Operation (op_of operation) (λ op. raw64_asked op y p table)
      ∙ ap (λ (x : ℕ). cond (is_operation operation) x 0)
      (answer-then (is_significand k64 t64 y) R.Significand y after_significand
      ∙ ap (λ (x : ℕ). cond (is_significand k64 t64 y) x 0)
      (answer-then (is_parity (op_of operation) p) R.Parity p (after_parity y)
      ∙ ap (λ (x : ℕ). cond (is_parity (op_of operation) p) x 0)
      (answer-then (is_lent k64 (op_of operation) (length table)) R.Tables tt (λ lent. entry_asked k64 t64 (op_of operation) y p table)
      ∙ ap (λ (x : ℕ). cond (is_lent k64 (op_of operation) (length table)) x 0)
      (answer-last (is_entry k64 t64 (op_of operation) y p table) R.Entry g
      ∙ unrefused (is_entry k64 t64 (op_of operation) y p table) 15 0 g)
      ∙ unrefused (is_lent k64 (op_of operation) (length table)) 14 fifth g)
      ∙ unrefused (is_parity (op_of operation) p) 3 fourth g)
      ∙ unrefused (is_significand k64 t64 y) 2 third g)
      ∙ unrefused (is_operation operation) 0 (ask (is_significand k64 t64 y) 3 third) g
      ∙ ap (λ (n : ℕ). cond (eqb n 0) g 0) one-chain

-- the filling call
pub filling-refusal : (entries : ℕ) → refusal_of (filling_asked entries) ≡ fill_refusal entries
unfolding fill_refusal
filling-refusal entries = refusal-last (eqb entries (tables_length k64)) R.Tables tt

-- ---- what a reply to question 16 tells

entry-yes : (held : Bool) (g x : ℕ) → Ok g ≡ asked held R.Entry x → (held ≡ true) × (g ≡ x)
entry-yes true g x e = (refl, ap answer_of e)
entry-yes false g x e = absurd (let z : 0 ≡ 16 = ap refusal_of e in omega arith)

entry-no : (held : Bool) (e : Refusal) (x : ℕ) → Err e ≡ asked held R.Entry x → held ≡ false
entry-no true e x r = absurd (let z : number_of e ≡ 0 = ap refusal_of r in omega (arith, number-positive e))
entry-no false e x r = refl

module _ (k t : ℕ) (op : Op) (y p : ℕ) (table : List ℕ) where
  -- the entry is M where there is an answer,
  pub entry-held : (g : ℕ) → Ok g ≡ entry_asked k t op y p table → is_entry k t op y p table ≡ true
  entry-held g e = (entry-yes (is_entry k t op y p table) g (raw_of k t op y p) e).0

  -- which is g,
  pub entry-answer : (g : ℕ) → Ok g ≡ entry_asked k t op y p table → g ≡ raw_of k t op y p
  entry-answer g e = (entry-yes (is_entry k t op y p table) g (raw_of k t op y p) e).1

  -- and is not where there is none
  pub entry-broken : (e : Refusal) → Err e ≡ entry_asked k t op y p table → is_entry k t op y p table ≡ false
  entry-broken e r = entry-no (is_entry k t op y p table) e (raw_of k t op y p) r
