-- The lower and the upper answer to a positive finite pattern: equal exactly where the operand's value agrees, else neighbours.
-- Assumes nothing.
use mathlib.Core.Path.{◌≡◌, ap}
use mathlib.Core.Bool.{false}
use mathlib.Core.Logic.{by_cases}
use Prim.Native.Nat.{ℕ, suc, ◌<◌}
use native.Mathlib.Decide.{ℕ_discrete}
use native.Mathlib.Omega.{arith}
use lib.Dec.{lit<, lit≤}
use Rattle.kinds.specs.declared.Op.{Op}
use Rattle.kinds.specs.declared.Mode.{Mode}
use Rattle.kinds.specs.declared.Mode.TheVariants.{Up, Down}
use Rattle.kinds.proofs.Directed.{rounded-exact, rounded-down, rounded-up}
use Rattle.ieee.specs.Format.{Format, binary32, binary64, unit_of, infinity, magnitude_of}
use Rattle.ieee.specs.Rounded.{side, limit, lower_of, place_at, rounded_of}
use Rattle.ieee.specs.Answer.{Answer, answer_of}
use Rattle.ieee.specs.Call.{bits_of}
use Rattle.ieee.specs.Agree.{Agree}
use Rattle.ieee.specs.Bracket.{Bracket}
use Rattle.ieee.proofs.Representable.{Regular}
use Rattle.ieee.proofs.Exact.{reached-agrees, agree-reached}
use Rattle.ieee.proofs.Accepted.{accepted-bits}
use Rattle.ieee.proofs.Finite.{finite-answer}

module _ (f : Format) (op : Op) (x : ℕ) where
  -- the side reaches the limit at the lower neighbour
  abbrev Reached : Type 0
  Reached = side op x (magnitude_of f (lower_of f op x)) ≡ limit (unit_of f) op x

  -- there every rounding gives the lower neighbour,
  rounded-reached : (mode : Mode) → Reached → rounded_of f op mode false x ≡ lower_of f op x
  unfolding rounded_of place_at
  rounded-reached mode e = rounded-exact _ _ _ _ _ _ mode e

  -- and elsewhere down gives it and up the next
  lower : (Reached → ⊥) → rounded_of f op Down false x ≡ lower_of f op x
  unfolding rounded_of place_at
  lower h = rounded-down _ _ _ _ _ _ h

  upper : (Reached → ⊥) → rounded_of f op Up false x ≡ suc (lower_of f op x)
  unfolding rounded_of place_at
  upper h = rounded-up _ _ _ _ _ _ h

module _ (f : Format) (r : Regular f) (op : Op) (t : ℕ) (positive : 0 < t) (finite : t < infinity f) where
  -- the answer's bits are the rounded magnitude's
  bits : (mode : Mode) → (answer_of f op mode t).bits ≡ rounded_of f op mode false (magnitude_of f t)
  bits mode = ap (λ (a : Answer). a.bits) (finite-answer f op mode t positive finite)

  -- the bracket over the format
  pub format-bracket : Bracket (Agree f op (magnitude_of f t)) (answer_of f op Down t).bits (answer_of f op Up t).bits
  format-bracket =
      let x = magnitude_of f t in
      by_cases (ℕ_discrete (side op x (magnitude_of f (lower_of f op x))) (limit (unit_of f) op x))
      (λ e.
      let same : (answer_of f op Down t).bits ≡ (answer_of f op Up t).bits = cc (bits Down, bits Up, rounded-reached f op x Down e, rounded-reached f op x Up e) in
      let agree = reached-agrees f r t positive finite op e in
      record { equal = (λ s. agree, λ a. same); next = λ h. absurd (h agree) })
      (λ h.
      let next : (answer_of f op Up t).bits ≡ suc (answer_of f op Down t).bits = cc (bits Down, bits Up, lower f op x h, upper f op x h) in
      record {
        equal = (λ s. absurd (omega arith), λ a. absurd (h (agree-reached f r t positive finite op a)));
        next = λ s. next;
      })

  -- and of two accepted calls, whatever status each is given and whatever else it was asked
  pub calls-bracket : (m n : ℕ) → m ≡ 0 → n ≡ 0 → Bracket (Agree f op (magnitude_of f t)) (bits_of f m op Down t) (bits_of f n op Up t)
  calls-bracket m n d e = rw (accepted-bits f m op Down t d, accepted-bits f n op Up t e) format-bracket

-- both formats are such
pub binary32-regular : Regular binary32
binary32-regular = record { exponent = lit< tt; fraction = lit< tt; wide = lit≤ tt }

pub binary64-regular : Regular binary64
binary64-regular = record { exponent = lit< tt; fraction = lit< tt; wide = lit≤ tt }
