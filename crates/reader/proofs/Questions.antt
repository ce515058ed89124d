-- The questions of the record call by cases and in numbers, and what a list that passed them holds. Assumes nothing.
use mathlib.Core.Path.{◌≡◌, refl, sym, ◌∙◌}
use mathlib.Core.Bool.{Bool, true, false}
use mathlib.Core.List.{List}
use Prim.Native.Nat.{ℕ, ◌*◌, ◌≤◌}
use lib.Dec.{ltb, lit<}
use lib.ListN.{length}
use borrow.Author.Tests.{le-leb, leb-true}
use Rattle.std.specs.Prelude.{cond, Ok, Err}
use Rattle.kinds.specs.Question.{ask, then_ask}
use Rattle.kinds.specs.Refusal.{number_of, refusal_of}
use Rattle.kinds.specs.Rounding.{is_rounding, mode_of}
use Rattle.kinds.specs.declared.Refusal.{Refusal}
use Rattle.kinds.specs.declared.Refusal.TheVariants as R
use Rattle.kinds.proofs.Refusals.{refused-by, answered-by, refusal-after, answered-after, refusal-then, refusal-asked, then-yes, asked-yes}
use Rattle.kinds.proofs.Questions.{yes, sure, then-none, then_nothing, then_assoc, then_asked}
use Rattle.trailer.specs.Kinds.{letters_refusal}
use Rattle.trailer.specs.Bytes.{ends_in, list_kind}
use Rattle.trailer.specs.declared.Kind.{Kind}
use Rattle.trailer.specs.declared.Kind.TheVariants.{Cut1, Cut2}
use Rattle.trailer.proofs.Seeking.{kind-last}
use Rattle.trailer.specs.declared.Fields.{Fields}
use Rattle.cutter.specs.Limits.{bytes_least}
use Rattle.cutter.specs.Sizes.{trailer_refusal, trailer_asked, is_whole}
use Rattle.cutter.proofs.Accepted.{trailed-of, trailer-number, trailer-told, whole_long}
use Rattle.reader.specs.Reader.{list_trailer, records_of, reader_refusal, record_refusal}
use Rattle.reader.specs.Record.{record_at, record_asked}
use Rattle.reader.specs.Sound.{Sound}

-- ---- in numbers

-- bytes that end in neither kind get 12
pub neither : (b : List ℕ) → bytes_least ≤ length b → ends_in Cut1 b ≡ false → ends_in Cut2 b ≡ false → 12 ≡ reader_refusal b
unfolding reader_refusal trailer_refusal then_ask ask
neither b h e f = rw (sym (kind-last b false (sym e) refl), le-leb bytes_least (length b) h, f) refl

-- what they tell
pub sound-of : (b : List ℕ) → reader_refusal b ≡ 0 → Sound b
unfolding reader_refusal
sound-of b e =
    let k : Kind = list_kind b in
    let whole : Bool = is_whole k (12 * records_of b) (list_trailer b).distance (length b) in
    let known : Bool = is_rounding (list_trailer b).rounding in
    let both = then-none (trailer_refusal k 12 b) (ask whole 13 (ask known 2 0)) e in
    let a13 = yes whole 12 (ask known 2 0) both.1 in
    let a2 = yes known 1 0 a13.1 in
    record {
      trailed = trailed-of k 12 b (lit< tt) both.0;
      long = whole_long k (12 * records_of b) (list_trailer b).distance (length b) (sure _ a13.0);
      rounding = leb-true (list_trailer b).rounding 3 (sure _ a2.0);
    }

-- ---- by cases

-- a list of either kind is refused for its letters alike
letters-number : (b : List ℕ) → number_of (letters_refusal (list_kind b)) ≡ 12
unfolding list_kind
letters-number b = elim (ends_in Cut1 b) as (λ (t : Bool). number_of (letters_refusal (cond t Cut1 Cut2)) ≡ 12) [ true ↦ refl | false ↦ refl ]

-- the number of the record call's refusal
pub record-number : (b : List ℕ) (index : ℕ) → refusal_of (record_asked b index) ≡ record_refusal b index
unfolding reader_refusal record_refusal
record-number b index =
    refusal-after (trailer_asked (list_kind b) b) (list_trailer b) _ (λ t h. (trailer-told (list_kind b) b t h).is)
    ∙ simp (trailer-number, letters-number, refusal-then, refusal-asked, then_assoc) (rw (then_asked, then_asked, then_nothing) refl)

pub record-accepted : (b : List ℕ) (index : ℕ) → record_refusal b index ≡ 0
    → record_asked b index ≡ Ok (record_at b (list_trailer b) (mode_of (list_trailer b).rounding) index)
record-accepted b index z =
    let e : refusal_of (record_asked b index) ≡ 0 = record-number b index ∙ z in
    answered-by (record_asked b index) _ e
    (λ y h.
    let t : Fields = list_trailer b in
    let a = answered-after (trailer_asked (list_kind b) b) t _ y (λ t h. (trailer-told (list_kind b) b t h).is) h in
    let a13 = then-yes (is_whole (list_kind b) (12 * records_of b) t.distance (length b)) R.ListDistance t _ y a in
    let a2 = then-yes (is_rounding t.rounding) R.Rounding (mode_of t.rounding) _ y a13.1 in
    sym (asked-yes (ltb index (records_of b)) R.Index _ y a2.1).1)

pub record-refused : (b : List ℕ) (index : ℕ) (e : Refusal) → record_refusal b index ≡ number_of e → record_asked b index ≡ Err e
record-refused b index e h = refused-by (record_asked b index) e (record-number b index ∙ h)
