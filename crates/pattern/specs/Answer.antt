-- An answer as code returns it. Assumes nothing.
use Rattle.std.specs.Prelude.{◌≡◌, ◌*◌, ◌<◌, Result, Ok, Err}
use Rattle.kinds.specs.declared.Refusal.{Refusal}
use Rattle.ieee.specs.Format.{Format, sign_bit}
use Rattle.ieee.specs.Answer.{Answer}
use Rattle.pattern.specs.declared.answer.Rounded.{Rounded}

-- the bits are a pattern of the format
pub record Answered (f : Format) (a : Answer) (r : Rounded) : Type 0 where
  pub bits_are : r.bits ≡ a.bits
  pub flags-are : r.flags ≡ a.flags
  pub pattern : r.bits < 2 * sign_bit f

-- the same of a call that may be refused
abbrev pub Replied : Format → Result Answer Refusal → Result Rounded Refusal → Type 0
Replied f (Ok a) (Ok r) = Answered f a r
Replied f (Ok a) (Err e) = ⊥
Replied f (Err d) (Ok r) = ⊥
Replied f (Err d) (Err e) = e ≡ d
