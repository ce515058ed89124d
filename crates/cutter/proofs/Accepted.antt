-- What a list call that is not refused knows of its map and its buffer. Assumes nothing.
use mathlib.Core.Path.{◌≡◌, refl, sym, ap, ◌∙◌}
use mathlib.Core.Bool.{Bool, true, not}
use mathlib.Core.List.{List}
use Prim.Native.Nat.{ℕ, zero, suc, ◌+◌, ◌*◌, ◌≤◌, ◌<◌}
use native.Mathlib.Nat.{not-suc-le-zero}
use native.Mathlib.Omega.{arith}
use borrow.Author.Tests.{not-true, le-leb, leb-true, eqb-true, eq-eqb, ne_eqb}
use lib.Dec.{leb, eqb, lit<}
use lib.ListN.{length}
use lib.IntN.{nat_abs}
use Rattle.std.specs.Prelude.{Ok}
use Rattle.kinds.specs.declared.Refusal.TheVariants as R
use Rattle.kinds.specs.Refusal.{number_of, refusal_of}
use Rattle.kinds.specs.Rounding.{is_rounding, mode_of}
use Rattle.kinds.specs.declared.Rule.{Rule}
use Rattle.kinds.proofs.Refusals.{refusal-then, refusal-asked, then-yes, asked-yes}
use Rattle.kinds.proofs.Questions.{later, yes, sure, both-are, ask-yes, ask-no, ask-most, then-later, then-none}
use Rattle.words.specs.Word.{word_at}
use Rattle.words.specs.Signed.{signed}
use Rattle.words.specs.Splice.{splice}
use Rattle.words.proofs.Differences.{either}
use Rattle.trailer.specs.Kinds.{letters_refusal, length_of, new_list}
use Rattle.trailer.specs.Bytes.{last_fields, ends_in}
use Rattle.trailer.proofs.Readings.{ends-fit}
use Rattle.trailer.specs.declared.Kind.{Kind}
use Rattle.trailer.specs.declared.Kind.TheVariants.{Plt1}
use Rattle.trailer.specs.declared.Fields.{Fields}
use Rattle.cutter.specs.Limits.{bytes_least, side_least, side_most, step_most, radius_most, height_most}
use Rattle.cutter.specs.Map.{trailer_of, distance_of, width_of, depth_of}
use Rattle.cutter.specs.List.{count_of, list_length, list_bytes}
use Rattle.cutter.specs.Sizes.{within, is_sized, is_stepped, trailer_refusal, trailer_asked, is_whole}
use Rattle.cutter.specs.Call.{heights_within, has_room, heights_refusal, map_refusal, list_refusal, list_answer, buffer_after}
use Rattle.cutter.specs.Accepted.{Sizes, Steps, Trailed, TrailerHeld, Accepted, Ready}
use Rattle.cutter.proofs.Counts.{count_most}

-- ---- "yes" taken apart

within-is : (low high x : ℕ) → within low high x ≡ true → (low ≤ x) × (x ≤ high)
within-is low high x e =
    let p = both-are (leb low x) (leb x high) e in
    (leb-true low x p.0, leb-true x high p.1)

pub sizes-are : (w d : ℕ) → is_sized w d ≡ true → Sizes w d
sizes-are w d e =
    let p = both-are (within side_least side_most w) (within side_least side_most d) e in
    let x = within-is side_least side_most w p.0 in
    let y = within-is side_least side_most d p.1 in
    record { wide = x.0; narrow = x.1; deep = y.0; shallow = y.1 }

pub steps-are : (step radius : ℕ) → is_stepped step radius ≡ true → Steps step radius
steps-are step radius e =
    let p = both-are (within 1 step_most step) (within 1 radius_most radius) e in
    let x = within-is 1 step_most step p.0 in
    let y = within-is 1 radius_most radius p.1 in
    record { step-least = x.0; step-most = x.1; radius-least = y.0; radius-most = y.1 }

-- ---- and put together

within-yes : (low high x : ℕ) → low ≤ x → x ≤ high → within low high x ≡ true
within-yes low high x h k = simp (le-leb low x h, le-leb x high k)

pub are-sized : (w d : ℕ) → Sizes w d → is_sized w d ≡ true
are-sized w d s = simp (within-yes side_least side_most w s.wide s.narrow, within-yes side_least side_most d s.deep s.shallow)

pub are-stepped : (step radius : ℕ) → Steps step radius → is_stepped step radius ≡ true
are-stepped step radius s =
    simp (within-yes 1 step_most step s.step-least s.step-most, within-yes 1 radius_most radius s.radius-least s.radius-most)

-- ---- the heights

pub heights-small : (m : List ℕ) (n : ℕ) → heights_within m n ≡ true → (i : ℕ) → i < n → nat_abs (signed (word_at m (4 * i))) ≤ height_most
unfolding heights_within
heights-small m zero e i h = absurd (not-suc-le-zero h)
heights-small m (suc n) e i h =
    let p = both-are (heights_within m n) (leb (nat_abs (signed (word_at m (4 * n)))) height_most) e in
    either i n
    (λ k.
    let j : n ≡ i = omega arith in
    leb-true (nat_abs (signed (word_at m (4 * i)))) height_most (ap (λ (x : ℕ). leb (nat_abs (signed (word_at m (4 * x)))) height_most) (sym j) ∙ p.1))
    (λ k. heights-small m n p.0 i k)

-- ---- the questions about a trailer

-- what they tell, whichever number the letters' question has
pub trailed-of : (k : Kind) (number : ℕ) (m : List ℕ) → 0 < number → trailer_refusal k number m ≡ 0 → Trailed k m
unfolding trailer_refusal
trailed-of k number m h e =
    let t : Fields = last_fields k m in
    let a5 = yes (leb bytes_least (length m)) 4 _ e in
    let a6 = later (ends_in k m) number _ 0 (λ z. omega arith) a5.1 in
    let a7 = yes (is_sized t.width t.depth) 6 _ a6.1 in
    let a8 = yes (is_stepped t.step t.radius) 7 0 a7.1 in
    record {
      fits = ends-fit k m (sure _ a6.0);
      sizes = sizes-are t.width t.depth (sure _ a7.0);
      steps = steps-are t.step t.radius (sure _ a8.0);
    }

-- so of the trailer as it was read
module _ (k : Kind) (number : ℕ) (m : List ℕ) (n : ℕ) (h : 0 < number) (e : n ≡ trailer_refusal k number m) (z : n ≡ 0) where
  pub ending-fits : length_of k ≤ length m
  ending-fits = (trailed-of k number m h (sym e ∙ z)).fits

  pub ending-sizes : (t : Fields) → t ≡ last_fields k m → Sizes t.width t.depth
  ending-sizes t f = rw f (trailed-of k number m h (sym e ∙ z)).sizes

-- and what answers them all "yes"
pub trailer-yes : (k : Kind) (number : ℕ) (m : List ℕ) → bytes_least ≤ length m → ends_in k m ≡ true
    → is_sized (last_fields k m).width (last_fields k m).depth ≡ true → is_stepped (last_fields k m).step (last_fields k m).radius ≡ true
    → 0 ≡ trailer_refusal k number m
unfolding trailer_refusal
trailer-yes k number m h e s t =
    ask-yes _ 5 _ 0 (le-leb bytes_least (length m) h) (ask-yes _ number _ 0 e (ask-yes _ 7 _ 0 s (ask-yes _ 8 0 0 t refl)))

-- by cases they give the same number, the letters' being that of the kind's refusal
pub trailer-number : (k : Kind) (m : List ℕ) → refusal_of (trailer_asked k m) ≡ trailer_refusal k (number_of (letters_refusal k)) m
unfolding trailer_refusal
trailer-number k m =
    simp (refusal-then, refusal-asked)

-- and where none of them refuses, the trailer is as it was read
pub trailer-told : (k : Kind) (m : List ℕ) (t : Fields) → trailer_asked k m ≡ Ok t → TrailerHeld k m t
trailer-told k m t h =
    let f : Fields = last_fields k m in
    let a5 = then-yes (leb bytes_least (length m)) R.Short m _ t h in
    let a6 = then-yes (ends_in k m) (letters_refusal k) f _ t a5.1 in
    let a7 = then-yes (is_sized f.width f.depth) R.Sides f _ t a6.1 in
    let a8 = asked-yes (is_stepped f.step f.radius) R.Lengths f t a7.1 in
    record {
      is = sym a8.1;
      fits = ends-fit k m a6.0;
      sizes = rw (sym a8.1) (sizes-are f.width f.depth a7.0);
      steps = rw (sym a8.1) (steps-are f.step f.radius a8.0);
    }

-- they give no number above 8 and their own
trailer-most : (k : Kind) (number : ℕ) (m : List ℕ) (n : ℕ) → 8 ≤ n → number ≤ n → trailer_refusal k number m ≤ n
unfolding trailer_refusal
trailer-most k number m n h l =
    ask-most _ 5 _ n (omega arith) (ask-most _ number _ n l (ask-most _ 7 _ n (omega arith) (ask-most _ 8 0 n h (omega arith))))

-- the bytes are as many as the sizes ask for
pub whole_long : (k : Kind) (before distance long : ℕ) → is_whole k before distance long ≡ true → long ≡ before + length_of k
whole_long k before distance long e = eqb-true long (before + length_of k) (both-are (eqb distance before) (eqb long (before + length_of k)) e).1

pub whole-yes : (k : Kind) (before distance long : ℕ) → distance ≡ before → long ≡ before + length_of k → is_whole k before distance long ≡ true
whole-yes k before distance long e f = simp (eq-eqb distance before e, eq-eqb long (before + length_of k) f)

-- ---- the map's questions

pub accepted-of : (m : List ℕ) (room : ℕ) → map_refusal m room ≡ 0 → Accepted m room
unfolding map_refusal heights_refusal
accepted-of m room e =
    let w : ℕ = width_of m in
    let d : ℕ = depth_of m in
    let both = then-none (trailer_refusal Plt1 6 m) (heights_refusal m room) e in
    let a9 = yes (is_whole Plt1 (4 * (w * d)) (distance_of m) (length m)) 8 _ both.1 in
    let a10 = yes (heights_within m (w * d)) 9 _ a9.1 in
    let a11 = yes (has_room m room) 10 0 a10.1 in
    let long : length m ≡ 4 * (w * d) + length_of Plt1 = whole_long Plt1 (4 * (w * d)) (distance_of m) (length m) (sure _ a9.0) in
    record {
      trailed = trailed-of Plt1 6 m (lit< tt) both.0;
      long = long;
      heights = record { held = omega arith; small = heights-small m (w * d) (sure _ a10.0) };
      held = leb-true (list_length m) room (sure _ a11.0);
    }

-- a buffer for a list of 62 × 62 records holds every list: question 11 is then never answered "no"
pub always-room : (m : List ℕ) (room : ℕ) → 12 * count_of side_most side_most + length_of new_list ≤ room → map_refusal m room ≡ 11 → ⊥
unfolding map_refusal heights_refusal list_length
always-room m room h e =
    let w : ℕ = width_of m in
    let d : ℕ = depth_of m in
    let both = then-later (trailer_refusal Plt1 6 m) (heights_refusal m room) 11 (λ z. omega (arith, trailer-most Plt1 6 m 8 (omega arith) (omega arith))) e in
    let a9 = later (is_whole Plt1 (4 * (w * d)) (distance_of m) (length m)) 9 _ 11 (λ z. omega arith) both.1 in
    let a10 = later (heights_within m (w * d)) 10 _ 11 (λ z. omega arith) a9.1 in
    let most = count_most w d (trailed-of Plt1 6 m (lit< tt) both.0).sizes in
    let room-is : has_room m room ≡ true = le-leb (12 * count_of w d + length_of new_list) room (omega (arith, most)) in
    let zero_is : ◌≡◌ {A = ℕ} 0 11 = ask-yes (has_room m room) 11 0 0 room-is refl ∙ a10.1 in
    omega arith

-- what the code reads of an accepted map
module _ (m : List ℕ) (room : ℕ) (z : map_refusal m room ≡ 0) where
  pub trailer-fits : length_of Plt1 ≤ length m
  trailer-fits = (accepted-of m room z).trailed.fits

  module _ (t : Fields) (e : t ≡ trailer_of m) where
    pub ready_of : Ready m t
    ready_of =
        let a = accepted-of m room z in
        record { is = e; sizes = rw e a.trailed.sizes; steps = rw e a.trailed.steps; heights = rw e a.heights }

    pub sizes-of : Sizes t.width t.depth
    sizes-of = ready_of.sizes

    pub held_of : 12 * count_of t.width t.depth + length_of new_list ≤ room
    unfolding list_length
    held_of = rw e (accepted-of m room z).held

-- ---- the call's

pub map-asked : (rounding : ℕ) (m : List ℕ) (room : ℕ) → list_refusal rounding m room ≡ 0 → map_refusal m room ≡ 0
unfolding list_refusal
map-asked rounding m room e = (yes (is_rounding rounding) 1 (map_refusal m room) e).1

pub rounding-asked : (rounding : ℕ) (m : List ℕ) (room : ℕ) → list_refusal rounding m room ≡ 0 → rounding ≤ 3
unfolding list_refusal
rounding-asked rounding m room e = leb-true rounding 3 (sure _ (yes (is_rounding rounding) 1 (map_refusal m room) e).0)

-- how the code asks them
pub two : (rounding : ℕ) (m : List ℕ) (room : ℕ) (known : Bool) → known ≡ is_rounding rounding → not known ≡ true → 2 ≡ list_refusal rounding m room
unfolding list_refusal
two rounding m room known e n = ask-no _ 2 _ (sym e ∙ not-true known n)

-- an accepted call reports the list's length, and leaves the list at the buffer's front
module _ (rounding : ℕ) (m : List ℕ) where
  pub accepted-answer : (room : ℕ) → list_refusal rounding m room ≡ 0 → list_answer rounding m room ≡ list_length m
  unfolding list_answer
  accepted-answer room e = rw e

  pub accepted-buffer : (rule : Rule) (out : List ℕ) → list_refusal rounding m (length out) ≡ 0
      → buffer_after rule rounding m out ≡ splice 0 (list_bytes rule (mode_of rounding) m) out
  unfolding buffer_after
  accepted-buffer rule out e = rw e

  -- a refused one reports 0 and leaves the buffer
  pub refused-answer : (room : ℕ) → (list_refusal rounding m room ≡ 0 → ⊥) → list_answer rounding m room ≡ 0
  unfolding list_answer
  refused-answer room h = rw (ne_eqb (list_refusal rounding m room) 0 h)

  pub refused-buffer : (rule : Rule) (out : List ℕ) → (list_refusal rounding m (length out) ≡ 0 → ⊥) → buffer_after rule rounding m out ≡ out
  unfolding buffer_after
  refused-buffer rule out h = rw (ne_eqb (list_refusal rounding m (length out)) 0 h)
