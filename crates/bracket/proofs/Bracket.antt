-- Down and up for the list: the records of two lists of one map are equal exactly where the map is exact, two entries that differ are
-- neighbours, and the trailers differ in the rounding alone. Assumes nothing.
use mathlib.Core.Path.{◌≡◌, sym, ap, ◌∙◌}
use mathlib.Core.List.{List}
use mathlib.Core.Logic.{◌↔◌}
use Prim.Native.Nat.{ℕ, ◌*◌, ◌<◌}
use lib.ListN.{length, drop}
use lib.IntN.{ℤ, pos, ◌+ℤ◌}
use Rattle.kinds.specs.declared.Mode.TheVariants.{Up, Down}
use Rattle.kinds.specs.declared.Rule.TheVariants.{Touching}
use Rattle.words.specs.Word.{half_bytes}
use Rattle.cutter.specs.Map.{width_of, depth_of, step_of, radius_of}
use Rattle.cutter.specs.Centre.{Point, coordinate}
use Rattle.cutter.specs.List.{count_of, inner_point, centre_at, all_records}
use Rattle.cutter.specs.Call.{list_refusal}
use Rattle.cutter.specs.Agree.{ExactAt, ExactMap}
use Rattle.cutter.specs.Accepted.{Accepted}
use Rattle.cutter.proofs.Accepted.{accepted-of, map-asked}
use Rattle.cutter.proofs.Places.{inner-at, at_every}
use Rattle.cutter.proofs.Points.{centre-at, inner-in-range}
use Rattle.cutter.proofs.Entries.{same-centres, same-records, list_held, trailer_front, length-trailer-front, list-end}
use Rattle.bracket.specs.Bracket.{CentreBracket, ListBracket}
use Rattle.bracket.proofs.Centre.{centre-bracket}

module _ (m : List ℕ) {room : ℕ} (a : Accepted m room) where
  -- the bracket of each centre
  at-point : (n : ℕ) → n < count_of (width_of m) (depth_of m) → CentreBracket (step_of m) (radius_of m) (inner_point m n)
  at-point n h = centre-bracket (step_of m) (radius_of m) (inner_point m n) (inner-in-range m a n h)

  -- the centres of record n are equal where its point is exact
  centres-equal : (n : ℕ) → n < count_of (width_of m) (depth_of m)
      → (centre_at Touching Down m n ≡ centre_at Touching Up m n) ↔ ExactAt (step_of m) (radius_of m) (inner_point m n)
  centres-equal n h = rw (centre-at Touching Down m n, centre-at Touching Up m n) (at-point n h).equal

  -- the records are equal where the map is exact
  records-equal : (all_records Touching Down m ≡ all_records Touching Up m) ↔ ExactMap m
  records-equal = (
    λ e. at_every m (λ (p : Point). ExactAt (step_of m) (radius_of m) p) a.trailed.sizes.wide
        (λ n h. (centres-equal n h).0 (same-centres Touching Down Up m a e n h)),
    λ x. same-records Touching Down Up m (λ n h. (centres-equal n h).1 (x _ _ (inner-at (width_of m) (depth_of m) a.trailed.sizes.wide n h))),
  )

  -- coordinates that differ are one apart
  entries_next : (n j : ℕ) → n < count_of (width_of m) (depth_of m)
      → (coordinate (centre_at Touching Down m n) j ≡ coordinate (centre_at Touching Up m n) j → ⊥)
      → coordinate (centre_at Touching Up m n) j ≡ coordinate (centre_at Touching Down m n) j +ℤ pos 1
  entries_next n j h = rw (centre-at Touching Down m n, centre-at Touching Up m n) ((at-point n h).next j)

-- demand 3 for the list: whatever the two lent buffers held
pub list-bracket : (m a b : List ℕ) → list_refusal 2 m (length a) ≡ 0 → list_refusal 1 m (length b) ≡ 0 → ListBracket m a b
unfolding half_bytes
list-bracket m a b ea eb =
    let acc = accepted-of m (length a) (map-asked 2 m (length a) ea) in
    let low = list_held Touching 2 m a ea in
    let high = list_held Touching 1 m b eb in
    let eq = records-equal m acc in
    let n : ℕ = 12 * count_of (width_of m) (depth_of m) in
    record {
      equal = (λ e. eq.0 (sym low.records ∙ e ∙ high.records), λ x. low.records ∙ eq.1 x ∙ sym high.records);
      next = λ n j h l d.
          let p = low.entry n j h l in
          let q = high.entry n j h l in
          q ∙ entries_next m acc n j h (λ e. d (p ∙ e ∙ sym q)) ∙ ap (λ (z : ℤ). z +ℤ pos 1) (sym p);
      ends =
          record {
            alike = trailer_front m;
            long = length-trailer-front m;
            lower-end = ap (drop n) low.front ∙ list-end Touching Down m;
            upper-end = ap (drop n) high.front ∙ list-end Touching Up m;
          };
    }
