-- DEMAND 3, of the calls themselves. Down is rounding 2 and up is rounding 1. Nothing is assumed of the two statuses, of the two lent
-- slices or of the two lent buffers. Assumes nothing.
use mathlib.Core.Path.{◌≡◌, ap, sym, ◌∙◌}
use Rattle.std.specs.Prelude.{Result}
use mathlib.Core.List.{List}
use Prim.Native.Nat.{ℕ, ◌<◌}
use lib.ListN.{length}
use Rattle.kinds.specs.Operation.{op_of}
use Rattle.kinds.specs.declared.Rule.TheVariants.{Touching}
use Rattle.kinds.specs.declared.Refusal.{Refusal}
use Rattle.kinds.specs.Refusal.{refusal_of, answer_of}
use Rattle.ieee.specs.Format.{binary32, binary64, infinity}
use Rattle.ieee.proofs.Bracket.{binary32-regular, binary64-regular, calls-bracket}
use Rattle.cutter.specs.Call.{list_refusal}
use Rattle.cutter.proofs.Entries.{list_held}
use Rattle.bracket.proofs.Bracket.{list-bracket}
use Rattle.plate.specs.declared.Status.{Status}
use Rattle.plate.specs.declared.Reply.{Reply}
use Rattle.plate.specs.Binary32.{binary32_call}
use Rattle.plate.specs.Binary64.{binary64_call}
use Rattle.plate.specs.List.{ListCall}
use Rattle.plate.proofs.Numbers.{binary32-refused, binary32-answered, binary64-refused, binary64-answered}
use Rattle.theorems.specs.Bracket.{CallsBracket, ListsBracket}

-- two accepted calls with the same operation and the same positive finite operand, whatever status each is given
pub binary32-bracket : (operation operand : ℕ) (a b : Status) (lower upper : Reply ℕ)
    → lower ≡ binary32_call operation 2 operand a
    → upper ≡ binary32_call operation 1 operand b
    → refusal_of lower.answer ≡ 0
    → refusal_of upper.answer ≡ 0
    → 0 < operand
    → operand < infinity binary32
    → CallsBracket binary32 operation operand (answer_of lower.answer) (answer_of upper.answer)
binary32-bracket operation operand a b lower upper e f r s p l =
    rw (e, f, binary32-answered operation 2 operand a, binary32-answered operation 1 operand b)
    (calls-bracket binary32 binary32-regular (op_of operation) operand p l _ _
    (sym (ap (λ (x : Reply ℕ). refusal_of x.answer) e ∙ binary32-refused operation 2 operand a) ∙ r)
    (sym (ap (λ (x : Reply ℕ). refusal_of x.answer) f ∙ binary32-refused operation 1 operand b) ∙ s))

-- the same of binary64, whatever slice each is lent
pub binary64-bracket : (operation operand : ℕ) (a b : Status) (m n : List ℕ) (lower upper : Reply ℕ)
    → lower ≡ binary64_call operation 2 operand a m
    → upper ≡ binary64_call operation 1 operand b n
    → refusal_of lower.answer ≡ 0
    → refusal_of upper.answer ≡ 0
    → 0 < operand
    → operand < infinity binary64
    → CallsBracket binary64 operation operand (answer_of lower.answer) (answer_of upper.answer)
binary64-bracket operation operand a b m n lower upper e f r s p l =
    rw (e, f, binary64-answered operation 2 operand a m, binary64-answered operation 1 operand b n)
    (calls-bracket binary64 binary64-regular (op_of operation) operand p l _ _
    (sym (ap (λ (x : Reply ℕ). refusal_of x.answer) e ∙ binary64-refused operation 2 operand a m) ∙ r)
    (sym (ap (λ (x : Reply ℕ). refusal_of x.answer) f ∙ binary64-refused operation 1 operand b n) ∙ s))

-- two accepted calls with the same map, whatever the two lent buffers held
pub list-calls-bracket : (m a b lowest uppermost : List ℕ) (lower upper : Result ℕ Refusal)
    → ListCall Touching 2 m a lower lowest
    → ListCall Touching 1 m b upper uppermost
    → refusal_of lower ≡ 0
    → refusal_of upper ≡ 0
    → ListsBracket m lower upper lowest uppermost
list-calls-bracket m a b lowest uppermost lower upper c d r s =
    let ra : list_refusal 2 m (length a) ≡ 0 = sym c.refuses ∙ r in
    let rb : list_refusal 1 m (length b) ≡ 0 = sym d.refuses ∙ s in
    let k = list-bracket m a b ra rb in
    rw (c.leaves, d.leaves)
    (record {
      equal = k.equal;
      next = k.next;
      ends = rw (c.reports, d.reports, (list_held Touching 2 m a ra).reported, (list_held Touching 1 m b rb).reported) k.ends;
    })
