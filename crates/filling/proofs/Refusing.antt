-- The filling call that is refused or accepted. Assumes nothing.
use Rattle.std.proofs.Common.{◌≡◌, ℕ, List, length, refl, eq-eqb, ne_eqb}
use Rattle.kinds.proofs.Questions.{ask-yes, ask-no}
use Rattle.significand.specs.Width.{k64}
use Rattle.significand.specs.Tables.{tables, tables_length}
use Rattle.significand.specs.Call.{fill_refusal, slice_after}

module _ (before : List ℕ) where
  module _ (h : length before ≡ tables_length k64 → ⊥) where
    told : 15 ≡ fill_refusal (length before)
    unfolding fill_refusal
    told = ask-no _ 15 0 (ne_eqb (length before) (tables_length k64) h)

    pub kept : before ≡ slice_after before
    unfolding slice_after
    kept = rw (← told)

  module _ (e : length before ≡ tables_length k64) where
    none : 0 ≡ fill_refusal (length before)
    unfolding fill_refusal
    none = ask-yes _ 15 0 0 (eq-eqb (length before) (tables_length k64) e) refl

    pub filled : (after : List ℕ) → after ≡ tables k64 → after ≡ slice_after before
    unfolding slice_after
    filled after f = rw (← none) f
