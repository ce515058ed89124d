-- The questions of a list call by cases and in numbers are the same. Assumes nothing.
use Rattle.std.proofs.Common.{◌≡◌, refl, sym, ap, ◌∙◌, ℕ, ◌*◌, true, cond, List, length, eqb, ne_eqb, le-leb, arith}
use Rattle.std.specs.Prelude.{Result, Ok, Err}
use Rattle.kinds.specs.declared.Refusal.{Refusal}
use Rattle.kinds.specs.declared.Mode.{Mode}
use Rattle.kinds.specs.Question.{ask, then_ask}
use Rattle.kinds.specs.Refusal.{number_of, refusal_of, answer_of, then, rounding_asked}
use Rattle.kinds.specs.Rounding.{is_rounding, mode_of, number_of as number_of_mode}
use Rattle.kinds.specs.declared.Mode.TheVariants.{Nearest, Up, Down, TowardZero}
use Rattle.kinds.specs.declared.Rule.{Rule}
use Rattle.words.specs.Splice.{splice}
use Rattle.std.proofs.lemmas.Bool.{lt-leb}
use mathlib.Core.Logic.{by_cases}
use native.Mathlib.Decide.{dec_le}
use Rattle.kinds.proofs.Questions.{then_nothing, then_assoc, then_asked, number-back, mode-back}
use Rattle.kinds.proofs.Refusals.{number-positive, refusal-then, refusal-asked, refusal-after, answered-after, then-yes, asked-yes}
use Rattle.trailer.specs.declared.Kind.TheVariants.{Plt1}
use Rattle.trailer.specs.declared.Fields.{Fields}
use Rattle.cutter.specs.Map.{trailer_of}
use Rattle.kinds.specs.declared.Refusal.TheVariants as R
use Rattle.cutter.specs.Sizes.{trailer_asked, trailer_refusal, is_whole}
use Rattle.cutter.specs.List.{list_length, list_bytes}
use Rattle.cutter.specs.Call.{heights_within, has_room, heights_refusal, map_refusal, list_refusal, list_answer, map_asked, list_asked, buffer_after}
use Rattle.cutter.proofs.Accepted.{trailer-number, trailer-told, accepted-buffer, refused-buffer}

-- ---- chains of questions

answer-is : (r : Result ℕ Refusal) (n : ℕ) → ((x : ℕ) → r ≡ Ok x → x ≡ n) → answer_of r ≡ cond (eqb (refusal_of r) 0) n 0
answer-is (Ok x) n h = h x refl
answer-is (Err e) n h = rw (ne_eqb (number_of e) 0 (λ z. omega (arith, number-positive e))) refl

-- ---- the map's, and the call's

-- where questions 5 to 10 refuse nothing, the map's trailer is answered
map-told : (m : List ℕ) (t : Fields) → map_asked m ≡ Ok t → t ≡ trailer_of m
map-told m t h =
    let f : Fields = trailer_of m in
    let n : ℕ = f.width * f.depth in
    let a = answered-after (trailer_asked Plt1 m) f _ t (λ t h. (trailer-told Plt1 m t h).is) h in
    let a9 = then-yes (is_whole Plt1 (4 * n) f.distance (length m)) R.MapDistance f _ t a in
    sym (asked-yes (heights_within m n) R.Height f t a9.1).1

module _ (m : List ℕ) where
  map-number : refusal_of (map_asked m)
      ≡ then_ask (trailer_refusal Plt1 6 m)
      (ask (is_whole Plt1 (4 * ((trailer_of m).width * (trailer_of m).depth)) (trailer_of m).distance (length m)) 9
      (ask (heights_within m ((trailer_of m).width * (trailer_of m).depth)) 10
      0))
  map-number =
      refusal-after (trailer_asked Plt1 m) (trailer_of m) _ (λ t h. (trailer-told Plt1 m t h).is)
      ∙ simp (trailer-number, refusal-then, refusal-asked)

  -- questions 5 to 11
  pub list-number : (room : ℕ) → refusal_of (list_asked m room) ≡ map_refusal m room
  unfolding map_refusal heights_refusal
  list-number room =
      refusal-after (map_asked m) (trailer_of m) _ (λ t h. map-told m t h)
      ∙ simp (map-number, refusal-asked, then_assoc) (rw (then_asked, then_asked, then_nothing) refl)

  length-is : (room n : ℕ) → list_asked m room ≡ Ok n → n ≡ list_length m
  length-is room n e =
      let a = answered-after (map_asked m) (trailer_of m) _ n (map-told m) e in
      sym (asked-yes (has_room m room) R.Room (list_length m) n a).1

  -- question 2 before them
  pub call-number : (rounding room : ℕ) → refusal_of (then (rounding_asked rounding) (λ mode. list_asked m room)) ≡ list_refusal rounding m room
  unfolding list_refusal
  call-number rounding room =
      refusal-then (is_rounding rounding) R.Rounding (mode_of rounding) (λ mode. list_asked m room) ∙ ap (ask (is_rounding rounding) 2) (list-number room)

  pub call-answer : (rounding room : ℕ) → answer_of (then (rounding_asked rounding) (λ mode. list_asked m room)) ≡ list_answer rounding m room
  unfolding list_answer
  call-answer rounding room =
      answer-is (then (rounding_asked rounding) (λ mode. list_asked m room)) (list_length m)
      (λ n e. length-is room n ((then-yes (is_rounding rounding) R.Rounding (mode_of rounding) (λ mode. list_asked m room) n e).1))
      ∙ ap (λ k. cond (eqb k 0) (list_length m) 0) (call-number rounding room)

-- ---- the lent buffer

known : (mode : Mode) → is_rounding (number_of_mode mode) ≡ true
known Nearest = refl
known Up = refl
known Down = refl
known TowardZero = refl

module _ (rule : Rule) (mode : Mode) (m out : List ℕ) where
  refused_as : (n : ℕ) → refusal_of (list_asked m (length out)) ≡ n → list_refusal (number_of_mode mode) m (length out) ≡ n
  unfolding list_refusal ask
  refused_as n e = rw (known mode) (sym (list-number m (length out)) ∙ e)

  -- once all is answered "yes" the list is put
  pub buffer-put : (n : ℕ) → list_asked m (length out) ≡ Ok n → buffer_after rule (number_of_mode mode) m out ≡ splice 0 (list_bytes rule mode m) out
  buffer-put n e =
      accepted-buffer (number_of_mode mode) m rule out (refused_as 0 (ap refusal_of e))
      ∙ ap (λ (x : Mode). splice 0 (list_bytes rule x m) out) (mode-back mode)

  -- after a "no" it holds what it held
  pub buffer-left : (e : Refusal) → list_asked m (length out) ≡ Err e → buffer_after rule (number_of_mode mode) m out ≡ out
  buffer-left e h =
      refused-buffer (number_of_mode mode) m rule out
      (λ z. omega (arith, number-positive e, refused_as (number_of e) (ap refusal_of h)))

-- by the rounding's number, once question 2 is asked
module _ (rule : Rule) (rounding : ℕ) (m out : List ℕ) where
  pub buffer-known : (mode : Mode) → Ok mode ≡ rounding_asked rounding → buffer_after rule (number_of_mode mode) m out ≡ buffer_after rule rounding m out
  buffer-known mode e =
      by_cases (dec_le rounding 3)
      (λ l.
      let same : mode_of rounding ≡ mode = (asked-yes (is_rounding rounding) R.Rounding (mode_of rounding) mode (sym e)).1 in
      ap (λ n. buffer_after rule n m out) (ap number_of_mode (sym same) ∙ number-back rounding l))
      (λ l. absurd (cc (e, lt-leb rounding 3 (omega arith))))

  pub buffer-unknown : (e : Refusal) → Err e ≡ rounding_asked rounding → out ≡ buffer_after rule rounding m out
  unfolding list_refusal ask
  buffer-unknown e h =
      by_cases (dec_le rounding 3)
      (λ l. absurd (cc (h, le-leb rounding 3 l)))
      (λ l.
      let two : list_refusal rounding m (length out) ≡ 2 = rw (lt-leb rounding 3 (omega arith)) refl in
      sym (refused-buffer rounding m rule out (λ z. omega (arith, two))))
