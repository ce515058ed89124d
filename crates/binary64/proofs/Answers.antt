-- The answer of the binary64 call, and its last question, by the parts of the pattern. Assumes nothing.
use mathlib.Core.Path.{◌≡◌, ◌∙◌}
use mathlib.Core.Bool.{Bool, true, false, ◌||◌}
use mathlib.Core.List.{List}
use Prim.Native.Nat.{ℕ, ◌<◌}
use Rattle.kinds.specs.declared.Op.{Op}
use Rattle.kinds.specs.declared.Mode.{Mode}
use Rattle.kinds.specs.declared.Refusal.{Refusal}
use Rattle.std.specs.Prelude.{Ok, Err}
use Rattle.neighbour.specs.declared.Neighbour.{Neighbour}
use Rattle.ieee.specs.Format.{binary64, infinity}
use Rattle.ieee.specs.Answer.{is_special}
use Rattle.pattern.specs.Parts.{PartsOf}
use Rattle.pattern.specs.Answer.{Answered, Replied}
use Rattle.pattern.specs.Format.{laws64}
use Rattle.pattern.specs.declared.parts.Parts.{Parts}
use Rattle.pattern.specs.declared.answer.Rounded.{Rounded}
use Rattle.special.specs.Special.{special_to}
use Rattle.rounding.specs.Rounded.{rounded_from}
use Rattle.rounding.proofs.Answers.{answer-special, answer-finite}
use Rattle.binary64.specs.Call.{is_served, served_asked}
use Rattle.binary64.specs.Found.{is_entry_of, FoundFor}

-- a neighbour that was found is finite
pub found-finite : (op : Op) (t : ℕ) (tables : List ℕ) (n : Neighbour) → FoundFor op t tables (Ok n) → n.pattern < infinity binary64
found-finite op t tables n found = found.1.finite

module _ (op : Op) (mode : Mode) (b : ℕ) (tables : List ℕ) (x : Parts) (s : Bool) (p : PartsOf binary64 b x)
    (es : s ≡ is_special binary64 op x.sign x.unsigned) where
  -- question 16 by the parts of the pattern
  served : is_served op b tables ≡ s || is_entry_of op x.unsigned tables
  unfolding is_served
  served = rw (es, p.sign, p.unsigned)

  -- a special operand needs no entry
  pub special-is : (r : Rounded) → s ≡ true → Answered binary64 (special_to binary64 op x.sign x.unsigned) r
      → Replied binary64 (served_asked op mode b tables) (Ok r)
  special-is r e a = let yes : is_served op b tables ≡ true = served ∙ rw e in rw yes (answer-special binary64 op mode b x s r p es e a)

  module _ (ordinary : s ≡ false) where
    entry : is_served op b tables ≡ is_entry_of op x.unsigned tables
    entry = served ∙ rw ordinary

    pub broken-is : (e : Refusal) → FoundFor op x.unsigned tables (Err e) → Replied binary64 (served_asked op mode b tables) (Err e)
    broken-is e f = rw (entry ∙ f.0) f.1

    pub rounded-is : (n : Neighbour) (r : Rounded) → FoundFor op x.unsigned tables (Ok n)
        → Answered binary64 (rounded_from binary64 mode x.sign n) r → Replied binary64 (served_asked op mode b tables) (Ok r)
    rounded-is n r f a = rw (entry ∙ f.0) (answer-finite binary64 op mode b x s r p es 52 63 laws64 n ordinary f.1 a)
