-- The questions of the raw calls as code asks them, what a call that passed them may rely on, and that its answer is as near as promised.
-- Assumes nothing.
use mathlib.Core.Path.{◌≡◌, refl, sym, subst, ◌∙◌}
use mathlib.Core.Bool.{Bool, true, false, not, ◌&&◌, ◌||◌}
use mathlib.Core.List.{List}
use mathlib.Core.Logic.{⊎_elim}
use Prim.Native.Nat.{ℕ, ◌+◌, ◌*◌, ◌-◌, ◌^◌, ◌≤◌}
use native.Mathlib.Omega.{arith}
use borrow.Author.Tests.{eq-eqb, ne_eqb}
use mir.Facts.{and_yes, or_yes, leb_yes, ltb_yes, eqb_yes}
use lib.Dec.{T, eqb, leb, ltb}
use lib.ListN.{length, get_or}
use Rattle.kinds.specs.declared.Op.{Op}
use Rattle.kinds.specs.declared.Op.TheVariants.{Reciprocal, Root, InverseRoot}
use Rattle.kinds.specs.Operation.{is_operation, op_of, is_reciprocal}
use Rattle.kinds.specs.Question.{ask, then_ask}
use Rattle.kinds.proofs.Questions.{yes, asked, then-none}
use Rattle.significand.specs.Width.{k32, t32, k64, t64, Significand, Operand}
use Rattle.significand.specs.Steps.{index_of, factor_of, multiplier_of, raw_of}
use Rattle.significand.specs.Tables.{tables, entry_place}
use Rattle.significand.specs.Call.{is_significand, is_parity, raw_refusal, raw_answer, is_lent, is_entry, raw64_door, raw64_refusal, raw64_answer}
use Rattle.significand.specs.Distance.{Near, bound_of, Between}
use Rattle.significand.proofs.Reduction.{index-least, index_below}
use Rattle.significand.proofs.Distance.{distance, between}
use Rattle.significand.proofs.Tables.{tables-length, entry-placed}

-- a raw answer is near
pub raw-near : (k t : ℕ) → 7 ≤ k → (op : Op) (y p g : ℕ) → Significand k t y → p ≤ 1 → g ≡ raw_of k t op y p → Near op k t y p (bound_of op) g
raw-near k t h op y p g Y parity e = rw e (distance op k t y p h parity Y)

pub operand-near : (k t : ℕ) → 7 ≤ k → (op : Op) (y p g : ℕ) → Operand k t op y p → g ≡ raw_of k t op y p → Near op k t y p (bound_of op) g
operand-near k t h op y p g o e = raw-near k t h op y p g o.significand o.parity e

pub operand-between : (k t : ℕ) → 7 ≤ k → (op : Op) (y p g : ℕ) → Operand k t op y p → g ≡ raw_of k t op y p → Between op k t y p g
operand-between k t h op y p g o e = rw e (between op k t y p h o.parity o.significand)

-- the questions, each worked out by itself
pub refusal_is : (operation y p q r s : ℕ) (op : Op) (known reciprocal : Bool)
    → known ≡ is_operation operation
    → op ≡ op_of operation
    → reciprocal ≡ is_reciprocal op
    → q ≡ ask (eqb p 0 || (eqb p 1 && not reciprocal)) 4 0
    → r ≡ ask (leb (2 ^ 23) y && ltb y (2 ^ 24)) 3 q
    → s ≡ ask known 1 r
    → s ≡ raw_refusal operation y p
unfolding raw_refusal
refusal_is operation y p q r s op known reciprocal ek eo er eq es e = rw (e, es, eq, er, eo, ek)

parity-told : (op : Op) (p : ℕ) → T (is_parity op p) → (p ≤ 1) × (op ≡ Reciprocal → p ≡ 0)
parity-told op p h =
    ⊎_elim
    (λ (z : T (eqb p 0)). let e : p ≡ 0 = eqb_yes z in (omega arith, λ f. e))
    (λ (z : T (eqb p 1 && not (is_reciprocal op))).
    let b = and_yes (eqb p 1) (not (is_reciprocal op)) z in
    let e : p ≡ 1 = eqb_yes b.0 in
    (omega arith, λ f. absurd (subst (λ (o : Op). T (not (is_reciprocal o))) f b.1)))
    (or_yes (eqb p 0) (eqb p 1 && not (is_reciprocal op)) h)

-- what questions 3 and 4 tell
operand-told : (k t : ℕ) (op : Op) (y p : ℕ) → T (is_significand k t y) → T (is_parity op p) → Operand k t op y p
operand-told k t op y p s q =
    let sized = and_yes (leb (2 ^ (3 * k + t - 1)) y) (ltb y (2 ^ (3 * k + t))) s in
    let fits = parity-told op p q in
    record { significand = record { least = leb_yes sized.0; below = ltb_yes sized.1 }; parity = fits.0; even = fits.1 }

-- questions 1, 3 and 4, which both raw calls ask first, and then the others
module _ (k t operation y p others : ℕ) where
  abbrev first-asked : ℕ
  first-asked = ask (is_operation operation) 1 (ask (is_significand k t y) 3 (ask (is_parity (op_of operation) p) 4 others))

  -- where each is answered yes, the others decide
  passed : T (is_operation operation) → T (is_significand k t y) → T (is_parity (op_of operation) p) → first-asked ≡ others
  passed a b c = asked (is_operation operation) 1 _ a ∙ asked (is_significand k t y) 3 _ b ∙ asked (is_parity (op_of operation) p) 4 others c

  -- where none gave its number, the call has an operand
  told : first-asked ≡ 0 → Operand k t (op_of operation) y p × (others ≡ 0)
  told e =
      let first = yes (is_operation operation) 0 (ask (is_significand k t y) 3 (ask (is_parity (op_of operation) p) 4 others)) e in
      let second = yes (is_significand k t y) 2 (ask (is_parity (op_of operation) p) 4 others) first.1 in
      let third = yes (is_parity (op_of operation) p) 3 others second.1 in
      (operand-told k t (op_of operation) y p second.0 third.0, third.1)

-- ---- at k = 7

module _ (operation y p : ℕ) where
  -- a call that answers yes to each is accepted
  pub unrefused : T (is_operation operation) → T (is_significand k32 t32 y) → T (is_parity (op_of operation) p) → raw_refusal operation y p ≡ 0
  unfolding raw_refusal
  unrefused = passed k32 t32 operation y p 0

  -- a refused call answers 0
  pub refused-answer : (raw_refusal operation y p ≡ 0 → ⊥) → raw_answer operation y p ≡ 0
  unfolding raw_answer
  refused-answer h = rw (ne_eqb (raw_refusal operation y p) 0 h)

  module _ (e : raw_refusal operation y p ≡ 0) where
    -- an accepted call has an operand, and answers g
    pub accepted : Operand k32 t32 (op_of operation) y p
    unfolding raw_refusal
    accepted = (told k32 t32 operation y p 0 e).0

    pub accepted-answer : raw_answer operation y p ≡ raw_of k32 t32 (op_of operation) y p
    unfolding raw_answer
    accepted-answer = rw e

    -- which is less than 12, 7 and 7 units of 1 / 268,435,456 from the exact value
    pub accepted-near : Near (op_of operation) k32 t32 y p (bound_of (op_of operation)) (raw_answer operation y p)
    accepted-near =
        raw-near k32 t32 (omega arith) (op_of operation) y p (raw_answer operation y p) accepted.significand accepted.parity accepted-answer

-- ---- at k = 15

-- a call that passed questions 1, 3, 4 and 15 has an operand, and a slice as long as the tables where it needs one
module _ (operation y p entries : ℕ) (e : raw64_door operation y p entries ≡ 0) where
  pub door-operand : Operand k64 t64 (op_of operation) y p
  unfolding raw64_door
  door-operand = (told k64 t64 operation y p _ e).0

  pub door-lent : T (is_lent k64 (op_of operation) entries)
  unfolding raw64_door
  door-lent = (yes (is_lent k64 (op_of operation) entries) 14 0 (told k64 t64 operation y p _ e).1).0

module _ (operation y p : ℕ) (table : List ℕ) where
  -- a call that answers yes to each is accepted
  pub unrefused64 : T (is_operation operation) → T (is_significand k64 t64 y) → T (is_parity (op_of operation) p)
      → T (is_lent k64 (op_of operation) (length table))
      → T (is_entry k64 t64 (op_of operation) y p table)
      → raw64_refusal operation y p table ≡ 0
  unfolding raw64_refusal raw64_door then_ask
  unrefused64 a b c d e =
      rw (passed k64 t64 operation y p _ a b c, asked (is_lent k64 (op_of operation) (length table)) 15 0 d)
      (asked (is_entry k64 t64 (op_of operation) y p table) 16 0 e)

  -- a refused call answers 0
  pub refused64-answer : (raw64_refusal operation y p table ≡ 0 → ⊥) → raw64_answer operation y p table ≡ 0
  unfolding raw64_answer
  refused64-answer h = rw (ne_eqb (raw64_refusal operation y p table) 0 h)

  module _ (e : raw64_refusal operation y p table ≡ 0) where
    -- an accepted call has an operand, and answers g
    pub accepted64 : Operand k64 t64 (op_of operation) y p
    unfolding raw64_refusal
    accepted64 = door-operand operation y p (length table) (then-none _ _ e).0

    pub accepted64-answer : raw64_answer operation y p table ≡ raw_of k64 t64 (op_of operation) y p
    unfolding raw64_answer
    accepted64-answer = rw e

    -- which is less than 12, 7 and 7 units of 2^-60 from the exact value
    pub accepted64-near : Near (op_of operation) k64 t64 y p (bound_of (op_of operation)) (raw64_answer operation y p table)
    accepted64-near =
        raw-near k64 t64 (omega arith) (op_of operation) y p (raw64_answer operation y p table) accepted64.significand accepted64.parity accepted64-answer

-- ---- with the tables as they are filled

module _ (k t : ℕ) (h : 7 ≤ k) (y p : ℕ) where
  root-entry : (op : Op) → is_reciprocal op ≡ false → Operand k t op y p
      → eqb (get_or (tables k) (entry_place k op p (index_of k t y)) 0) (multiplier_of k op (factor_of k (index_of k t y)) p) ≡ true
  root-entry op root o =
      eq-eqb _ _
      (entry-placed k op p (index_of k t y) root o.parity (index-least k t y h o.significand) (index_below k t y h o.significand))

  -- the entry that an operand uses is M
  pub filled-entry : (op : Op) → Operand k t op y p → is_entry k t op y p (tables k) ≡ true
  unfolding is_entry
  filled-entry Reciprocal o = refl
  filled-entry Root o = root-entry Root refl o
  filled-entry InverseRoot o = root-entry InverseRoot refl o

-- and they have the length
pub filled-lent : (k : ℕ) (op : Op) → is_lent k op (length (tables k)) ≡ true
filled-lent k Reciprocal = refl
filled-lent k Root = eq-eqb _ _ (tables-length k)
filled-lent k InverseRoot = eq-eqb _ _ (tables-length k)

-- so only questions 1, 3 and 4 refuse a call
pub filled-accepted : (operation y p : ℕ) → T (is_operation operation) → T (is_significand k64 t64 y) → T (is_parity (op_of operation) p)
    → raw64_refusal operation y p (tables k64) ≡ 0
filled-accepted operation y p a b c =
    unrefused64 operation y p (tables k64) a b c
    (subst T (sym (filled-lent k64 (op_of operation))) tt)
    (subst T (sym (filled-entry k64 t64 (omega arith) y p (op_of operation) (operand-told k64 t64 (op_of operation) y p b c))) tt)
