-- A list with the map's records and a trailer of either kind is accepted, and gives back the map's sizes, its own centres and the rounding
-- that it states. Assumes nothing.
use mathlib.Core.Path.{◌≡◌, refl, sym, ap, subst, ◌∙◌}
use mathlib.Core.Bool.{Bool, true, false}
use mathlib.Core.List.{List, [], append-nil}
use Prim.Native.Nat.{ℕ, ◌+◌, ◌*◌, ◌≤◌, ◌<◌}
use native.Mathlib.Omega.{arith}
use lib.ListN.{length}
use borrow.Author.Tests.{le-leb, lt-ltb, le-ltb}
use Rattle.std.specs.Prelude.{Some, Ok}
use Rattle.std.specs.Bool.{then_some}
use Rattle.kinds.specs.Rounding.{mode_of}
use Rattle.kinds.specs.declared.Mode.{Mode}
use Rattle.kinds.specs.declared.Rule.{Rule}
use Rattle.kinds.proofs.Questions.{ask-yes, ask-no, then_next, number-most, mode-back}
use Rattle.trailer.specs.Kinds.{length_of, is_wide, is_rounded}
use Rattle.trailer.specs.Bytes.{last_fields, ends_in, list_kind, rounding_end, InRange}
use Rattle.trailer.specs.declared.Kind.{Kind}
use Rattle.trailer.proofs.Layouts.{length-bounds, radius-held}
use Rattle.trailer.proofs.RoundTrip.{ends-own, last-own}
use Rattle.cutter.specs.Map.{width_of, depth_of, step_of, radius_of}
use Rattle.cutter.specs.Centre.{coordinate}
use Rattle.cutter.specs.List.{count_of, centre_at, all_records, stated_rounding, list_fields, list_of, entry_at}
use Rattle.cutter.specs.Sizes.{trailer_refusal}
use Rattle.cutter.specs.Accepted.{Accepted}
use Rattle.cutter.proofs.Accepted.{are-sized, are-stepped, trailer-yes, whole-yes}
use Rattle.cutter.proofs.Counts.{count_most}
use Rattle.cutter.proofs.Lengths.{list-parts, length-of-list}
use Rattle.cutter.proofs.Entries.{list-entry}
use Rattle.reader.specs.Reader.{list_trailer, records_of, reader_refusal, record_refusal}
use Rattle.reader.specs.Record.{record_asked}
use Rattle.reader.proofs.Questions.{record-accepted}

-- a list whose trailer is of a kind that is found to be what it is
module _ (k : Kind) (rule : Rule) (mode : Mode) (m : List ℕ) (found : list_kind (list_of k rule mode m) ≡ k) {room : ℕ} (a : Accepted m room) where
  abbrev list : List ℕ
  list = list_of k rule mode m

  -- a rounding that is stated is one of the four
  stated-most : (r : Bool) → stated_rounding r mode ≤ 3
  stated-most true = number-most mode
  stated-most false = omega arith

  stated-small : (r : Bool) → stated_rounding r mode < rounding_end r
  stated-small true = omega (arith, number-most mode)
  stated-small false = omega arith

  -- and so it comes back, where the kind states one
  stated-back : (r : Bool) → then_some r (mode_of (stated_rounding r mode)) ≡ then_some r mode
  stated-back true = ap Some (mode-back mode)
  stated-back false = refl

  in-range : InRange k (list_fields k mode m)
  in-range =
      record {
        distance = omega (arith, count_most (width_of m) (depth_of m) a.trailed.sizes);
        width = omega (arith, a.trailed.sizes.narrow);
        depth = omega (arith, a.trailed.sizes.shallow);
        step = omega (arith, a.trailed.steps.step-most);
        radius = radius-held (is_wide k) (radius_of m) (omega (arith, a.trailed.steps.radius-most));
        rounding = stated-small (is_rounded k);
      }

  -- the trailer is read back
  pub written-trailer : list_trailer list ≡ list_fields k mode m
  written-trailer =
      ap (λ (k : Kind). last_fields k list) found
      ∙ ap (last_fields k) (list-parts k rule mode m)
      ∙ last-own k (list_fields k mode m) (all_records rule mode m) in-range

  ends : ends_in (list_kind list) list ≡ true
  ends = rw (found, list-parts k rule mode m) (ends-own k (list_fields k mode m) (all_records rule mode m))

  long : length list ≡ 12 * count_of (width_of m) (depth_of m) + length_of (list_kind list)
  long = rw found (length-of-list k rule mode m)

  -- every question is answered "yes"
  pub written-accepted : reader_refusal list ≡ 0
  unfolding reader_refusal
  written-accepted =
      let t : list_trailer list ≡ list_fields k mode m = written-trailer in
      sym
      (then_next (trailer_refusal (list_kind list) 12 list) _ 0
      (sym (trailer-yes (list_kind list) 12 list (omega (arith, long, (length-bounds (list_kind list)).0)) ends (rw t (are-sized (width_of m) (depth_of m) a.trailed.sizes)) (rw t (are-stepped (step_of m) (radius_of m) a.trailed.steps))))
      (ask-yes _ 13 _ 0
      (whole-yes (list_kind list) (12 * records_of list) (list_trailer list).distance (length list) (rw t refl) (rw t long))
      (ask-yes _ 2 0 0 (le-leb (list_trailer list).rounding 3 (rw t (stated-most (is_rounded k)))) refl)))

  -- so is the index exactly where it is below the number of inner points
  count-is : records_of list ≡ count_of (width_of m) (depth_of m)
  count-is = rw written-trailer refl

  pub written_below : (n : ℕ) → n < count_of (width_of m) (depth_of m) → record_refusal list n ≡ 0
  unfolding record_refusal
  written_below n h =
      sym (then_next (reader_refusal list) _ 0 written-accepted
      (ask-yes _ 14 0 0 (lt-ltb n (records_of list) (omega (arith, count-is))) refl))

  pub written-beyond : (n : ℕ) → count_of (width_of m) (depth_of m) ≤ n → record_refusal list n ≡ 14
  unfolding record_refusal
  written-beyond n h =
      sym (then_next (reader_refusal list) _ 14 written-accepted
      (ask-no _ 14 0 (le-ltb n (records_of list) (omega (arith, count-is)))))

  -- each record is the centre's
  pub written_entry : (n j : ℕ) → n < count_of (width_of m) (depth_of m) → j < 3
      → entry_at list n j ≡ coordinate (centre_at rule mode m n) j
  written_entry n j h l =
      subst (λ (b : List ℕ). entry_at b n j ≡ coordinate (centre_at rule mode m n) j) (append-nil list) (list-entry k rule mode m [] n j h l a)

  -- so the record call gives the map's sizes, the centre and the rounding that the kind states
  pub written_record : (n : ℕ) → n < count_of (width_of m) (depth_of m)
      → record_asked list n
      ≡ Ok (record {
        rounding = then_some (is_rounded k) mode;
        width = width_of m;
        depth = depth_of m;
        step = step_of m;
        radius = radius_of m;
        x = (centre_at rule mode m n).x;
        y = (centre_at rule mode m n).y;
        z = (centre_at rule mode m n).z;
      })
  written_record n h =
      record-accepted list n (written_below n h)
      ∙ rw (written-trailer, found, stated-back (is_rounded k), written_entry n 0 h (omega arith), written_entry n 1 h (omega arith), written_entry n 2 h (omega arith)) refl
