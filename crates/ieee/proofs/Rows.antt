-- The rows of document 01's table on patterns, and the rows of binary64. Assumes nothing.
use mathlib.Core.Path.{◌≡◌, refl, ap₂}
use mathlib.Core.List.{List, [], ◌∷◌}
use mathlib.Core.Bool.{Bool, true, ◌&&◌}
use Prim.Native.Nat.{ℕ, ◌+◌}
use lib.Dec.{T, eqb}
use mir.Facts.{and_yes, eqb_yes}
use Rattle.kinds.specs.declared.Op.{Op}
use Rattle.kinds.specs.declared.Op.TheVariants.{Reciprocal, Root, InverseRoot}
use Rattle.kinds.specs.declared.Mode.{Mode}
use Rattle.kinds.specs.declared.Mode.TheVariants.{Nearest, Up, Down, TowardZero}
use Rattle.kinds.specs.Operation.{op_of}
use Rattle.kinds.specs.Rounding.{away, place_by, rounded_by}
use Rattle.kinds.specs.Flag.{no_flag, overflow, inexact}
use Rattle.numbers.specs.Greatest.{greatest, greatest_from}
use Rattle.ieee.specs.Format.{binary32, binary64, magnitude_of}
use Rattle.ieee.specs.Rounded.{fits, lower_of, place_at, rounded_of, is_inexact, is_overflow, is_underflow, flags_of}
use Rattle.ieee.specs.Answer.{Answer, answer, answer_of}
use Rattle.ieee.specs.Rows64.{Row, rows64, Every, Answers}

-- the lower and the upper answer to a pattern, both with the flags given
pub record Pair (op : Op) (operand lower upper flags : ℕ) : Type 0 where
  pub down_is : answer_of binary32 op Down operand ≡ answer lower flags
  pub up_is : answer_of binary32 op Up operand ≡ answer upper flags

-- one answer with no flag in every rounding
pub record Same (op : Op) (operand result : ℕ) : Type 0 where
  pub each : (mode : Mode) → answer_of binary32 op mode operand ≡ answer result no_flag

pub record PatternRows : Type 0 where
  pub third : Pair Reciprocal 0x40400000 0x3EAAAAAA 0x3EAAAAAB inexact
  pub minus-third : Pair Reciprocal 0xC0400000 0xBEAAAAAB 0xBEAAAAAA inexact
  pub root-of-two : Pair Root 0x40000000 0x3FB504F3 0x3FB504F4 inexact
  pub inverse-root-of-four : Same InverseRoot 0x40800000 0x3F000000
  pub overflowing : Pair Reciprocal 0x00200000 0x7F7FFFFF 0x7F800000 (overflow + inexact)
  pub subnormal : Same Reciprocal 0x7F000000 0x00400000

each-mode : (P : Mode → Type 0) → P Nearest → P Up → P Down → P TowardZero → (mode : Mode) → P mode
each-mode P a b c d Nearest = a
each-mode P a b c d Up = b
each-mode P a b c d Down = c
each-mode P a b c d TowardZero = d

pub pattern-rows : PatternRows
unfolding answer_of rounded_of lower_of place_at is_inexact is_overflow is_underflow flags_of fits magnitude_of away place_by rounded_by greatest greatest_from
pattern-rows =
    record {
      third = record { down_is = refl; up_is = refl };
      minus-third = record { down_is = refl; up_is = refl };
      root-of-two = record { down_is = refl; up_is = refl };
      inverse-root-of-four =
          record { each = each-mode (λ (m : Mode). answer_of binary32 InverseRoot m 0x40800000 ≡ answer 0x3F000000 no_flag) refl refl refl refl };
      overflowing = record { down_is = refl; up_is = refl };
      subnormal = record { each = each-mode (λ (m : Mode). answer_of binary32 Reciprocal m 0x7F000000 ≡ answer 0x00400000 no_flag) refl refl refl refl };
    }

-- ---- the rows of binary64, by one computed test

-- an answer is the one given
is_answer : Answer → ℕ → ℕ → Bool
is_answer a bits flags = eqb a.bits bits && eqb a.flags flags

answer-told : (a : Answer) (bits flags : ℕ) → T (is_answer a bits flags) → a ≡ answer bits flags
unfolding is_answer
answer-told a bits flags h =
    let both = and_yes (eqb a.bits bits) (eqb a.flags flags) h in
    ap₂ answer (eqb_yes both.0) (eqb_yes both.1)

-- so in one rounding, in four, and for each row of a list
is_in : Row → Mode → ℕ → Bool
is_in r mode bits = is_answer (answer_of binary64 (op_of r.operation) mode r.operand) bits r.flags

is_row : Row → Bool
is_row r = is_in r Nearest r.nearest && (is_in r Up r.up && (is_in r Down r.down && is_in r TowardZero r.zero))

are_rows : List Row → Bool
are_rows [] = true
are_rows (r ∷ rs) = is_row r && are_rows rs

row_told : (r : Row) → T (is_row r) → Answers r
unfolding is_row is_in
row_told r h =
    let one = and_yes (is_in r Nearest r.nearest) _ h in
    let two = and_yes (is_in r Up r.up) _ one.1 in
    let three = and_yes (is_in r Down r.down) (is_in r TowardZero r.zero) two.1 in
    record {
      to-nearest = answer-told _ _ _ one.0;
      to-up = answer-told _ _ _ two.0;
      to-down = answer-told _ _ _ three.0;
      to-zero = answer-told _ _ _ three.1;
    }

rows_told : (l : List Row) → T (are_rows l) → Every Answers l
unfolding are_rows
rows_told [] h = tt
rows_told (r ∷ rs) h = let both = and_yes (is_row r) (are_rows rs) h in (row_told r both.0, rows_told rs both.1)

pub rows64-answered : Every Answers rows64
unfolding are_rows is_row is_in is_answer answer_of rounded_of lower_of place_at is_inexact is_overflow is_underflow flags_of fits magnitude_of away place_by rounded_by greatest greatest_from
rows64-answered = rows_told rows64 tt

-- what follows from a property of a row follows for each
pub every : (P Q : Row → Type 0) → ((r : Row) → P r → Q r) → (l : List Row) → Every P l → Every Q l
every P Q f [] h = tt
every P Q f (r ∷ rs) h = (f r h.0, every P Q f rs h.1)
