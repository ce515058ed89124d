-- The lent buffer after a list call, by what the questions were answered. Assumes nothing.
use Rattle.std.proofs.Common.{◌≡◌, refl, sym, Bool, true, false, ap, ◌∙◌, ℕ, List, length}
use Rattle.std.specs.Prelude.{Result, Ok, Err}
use Rattle.kinds.specs.declared.Refusal.{Refusal}
use Rattle.kinds.specs.declared.Refusal.TheVariants.{Room}
use Rattle.kinds.specs.declared.Mode.{Mode}
use Rattle.kinds.specs.declared.Rule.{Rule}
use Rattle.kinds.specs.Refusal.{asked, then}
use Rattle.kinds.specs.Rounding.{number_of}
use Rattle.words.specs.Splice.{splice}
use Rattle.trailer.specs.declared.Fields.{Fields}
use Rattle.cutter.specs.List.{list_length, list_bytes}
use Rattle.cutter.specs.Call.{has_room, map_asked, buffer_after}
use Rattle.cutter.proofs.Asked.{buffer-put, buffer-left}

-- a question says the same of any value
asked-err : {A B : Type 0} (t : Bool) (e e' : Refusal) (x : A) (y : B) → Err e' ≡ asked t e x → asked t e y ≡ Err e'
asked-err true e e' x y h = absurd (cc h)
asked-err false e e' x y h = cc h

asked-ok : {A B : Type 0} (t : Bool) (e : Refusal) (x z : A) (y : B) → Ok z ≡ asked t e x → asked t e y ≡ Ok y
asked-ok true e x z y h = refl
asked-ok false e x z y h = absurd (cc h)

module _ (rule : Rule) (mode : Mode) (m out : List ℕ) where
  room-asked : Fields → Result ℕ Refusal
  room-asked t = asked (has_room m (length out)) Room (list_length m)

  -- the map is refused
  pub left-map : (e : Refusal) → Err e ≡ map_asked m → out ≡ buffer_after rule (number_of mode) m out
  unfolding room-asked
  left-map e h = sym (buffer-left rule mode m out e (ap (λ r. then r room-asked) (sym h)))

  module _ (t : Fields) (b : List ℕ) (h : Ok t ≡ map_asked m) (lent : b ≡ m) where
    -- it is too long for the buffer
    pub left-room : {A : Type 0} (v : A) (e : Refusal) → Err e ≡ asked (has_room b (length out)) Room v → out ≡ buffer_after rule (number_of mode) m out
    unfolding room-asked
    left-room v e g =
        let r = asked-err (has_room b (length out)) Room e v (list_length m) g in
        sym (buffer-left rule mode m out e (ap (λ r. then r room-asked) (sym h) ∙ ap (λ b. asked (has_room b (length out)) Room (list_length m)) (sym lent) ∙ r))

    -- it is put
    pub put-list : {A : Type 0} (v w : A) (after : List ℕ) → Ok w ≡ asked (has_room b (length out)) Room v → after ≡ splice 0 (list_bytes rule mode b) out
        → after ≡ buffer_after rule (number_of mode) m out
    unfolding room-asked
    put-list v w after g p =
        let r = asked-ok (has_room b (length out)) Room v w (list_length m) g in
        p
        ∙ ap (λ b. splice 0 (list_bytes rule mode b) out) lent
        ∙ sym (buffer-put rule mode m out (list_length m) (ap (λ r. then r room-asked) (sym h) ∙ ap (λ b. asked (has_room b (length out)) Room (list_length m)) (sym lent) ∙ r))
