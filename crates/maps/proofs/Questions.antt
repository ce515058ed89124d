-- What each return of the code says of the questions. Assumes nothing.
use mathlib.Core.Path.{◌≡◌, refl, sym, ◌∙◌}
use mathlib.Core.Bool.{Bool, true, ◌&&◌}
use mathlib.Core.List.{List}
use Prim.Native.Nat.{ℕ, ◌+◌, ◌*◌, ◌≤◌, ◌<◌}
use native.Mathlib.Numerals.{add-one}
use native.Mathlib.Omega.{arith}
use lib.Dec.{leb}
use lib.ListN.{length}
use lib.IntN.{nat_abs}
use borrow.Author.Tests.{le-leb, lt-leb}
use Rattle.words.specs.Word.{word_at}
use Rattle.words.specs.Signed.{signed}
use Rattle.trailer.specs.Kinds.{length_of, new_list}
use Rattle.trailer.specs.declared.Kind.TheVariants.{Plt1}
use Rattle.trailer.specs.declared.Fields.{Fields}
use Rattle.cutter.specs.Limits.{height_most}
use Rattle.cutter.specs.List.{count_of, list_length}
use Rattle.cutter.specs.Sizes.{is_whole}
use Rattle.cutter.specs.Call.{heights_within, has_room}
use Rattle.cutter.specs.Accepted.{Ready}
use Rattle.std.specs.Prelude.{Ok, Err}
use Rattle.kinds.specs.declared.Refusal.TheVariants.{Room}
use Rattle.kinds.specs.Refusal.{asked}
use Rattle.cutter.proofs.Accepted.{whole_long}

-- ---- question 10

pub hold-none : (m : List ℕ) → true ≡ heights_within m 0
unfolding heights_within
hold-none m = refl

pub hold-more : (m : List ℕ) (i : ℕ) (hold r : Bool) → hold ≡ heights_within m i
    → r ≡ leb (nat_abs (signed (word_at m (4 * i)))) height_most → hold && r ≡ heights_within m (i + 1)
unfolding heights_within
hold-more m i hold r e f = cc (add-one i)

-- ---- sizes

-- the heights are there to be read
pub heights-there : (distance : ℕ) (m : List ℕ) (r : Bool) (n : ℕ) → r ≡ is_whole Plt1 (4 * n) distance (length m) → r ≡ true → 4 * n ≤ length m
heights-there distance m r n f h = omega (arith, whole_long Plt1 (4 * n) distance (length m) (sym f ∙ h))

-- ---- question 11

module _ (m : List ℕ) (t : Fields) (room x y : ℕ) (r : Ready m t) (p : x ≡ 12 * count_of t.width t.depth) (q : y ≡ length_of new_list) where
  sum_is : x + y ≡ list_length m
  unfolding list_length
  sum_is = cc r.is

  pub eleven : {A : Type 0} (v : A) → room < x + y → Err Room ≡ asked (has_room m room) Room v
  eleven v h = rw (lt-leb (list_length m) room (omega (arith, sum_is))) refl

  pub fits : {A : Type 0} (v : A) → x + y ≤ room → Ok v ≡ asked (has_room m room) Room v
  fits v h = rw (le-leb (list_length m) room (omega (arith, sum_is))) refl
