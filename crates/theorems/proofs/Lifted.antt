-- REQUEST #104, of two calls in one rounding, one of which lifts: whatever the two lent buffers held. Assumes nothing.
use mathlib.Core.Path.{◌≡◌, sym, ap, subst, ◌∙◌}
use Rattle.std.specs.Prelude.{Result}
use mathlib.Core.List.{List, ◌++◌}
use Prim.Native.Nat.{ℕ, zero, suc, ◌*◌, ◌<◌}
use native.Mathlib.Omega.{arith}
use lib.ListN.{length, take, drop}
use Rattle.kinds.specs.Rounding.{mode_of, number_of}
use Rattle.kinds.specs.declared.Rule.{Rule}
use Rattle.kinds.specs.declared.Refusal.{Refusal}
use Rattle.kinds.specs.Refusal.{refusal_of, answer_of}
use Rattle.kinds.specs.declared.Rule.TheVariants.{Touching, Lifted}
use Rattle.words.specs.Word.{half_bytes}
use Rattle.cutter.specs.Map.{width_of, depth_of, step_of, radius_of}
use Rattle.cutter.specs.Centre.{Centre, coordinate}
use Rattle.cutter.specs.Lift.{nine_at}
use Rattle.cutter.specs.Lifted.{LiftedTo}
use Rattle.cutter.specs.List.{count_of, column_of, row_of, centre_at, entry_at}
use Rattle.cutter.specs.Call.{list_refusal}
use Rattle.cutter.specs.Held.{ListHeld}
use Rattle.cutter.specs.Accepted.{Accepted}
use Rattle.cutter.proofs.Accepted.{accepted-of, map-asked}
use Rattle.cutter.proofs.Points.{centre-at, same-centre, x-lifted, y-lifted}
use Rattle.cutter.proofs.Lifted.{lifted-to}
use Rattle.cutter.proofs.Entries.{list_held, trailer_front, list-end}
use Rattle.plate.specs.List.{ListCall}
use Rattle.theorems.specs.Lifted.{centre_in, LiftedFrom}

module _ (rule : Rule) (rounding : ℕ) (m before after : List ℕ) (reply : Result ℕ Refusal) (c : ListCall rule rounding m before reply after) (z : refusal_of reply ≡ 0) where
  asked : list_refusal rounding m (length before) ≡ 0
  asked = sym c.refuses ∙ z

  held : ListHeld rule rounding m before
  held = list_held rule rounding m before asked

  -- the entries are the centres' coordinates
  entry-is : (n j : ℕ) → n < count_of (width_of m) (depth_of m) → j < 3 → entry_at after n j ≡ coordinate (centre_at rule (mode_of rounding) m n) j
  entry-is n j h l = ap (λ (b : List ℕ). entry_at b n j) c.leaves ∙ held.entry n j h l

  -- and the trailer stands behind them
  end_is : drop (12 * count_of (width_of m) (depth_of m)) (take (answer_of reply) after) ≡ trailer_front m ++ half_bytes (number_of (mode_of rounding))
  end_is =
      rw (c.reports, c.leaves, held.reported)
      (ap (drop (12 * count_of (width_of m) (depth_of m))) held.front ∙ list-end rule (mode_of rounding) m)

pub list-calls-lifted : (rounding : ℕ) (m a b first lifted : List ℕ) (one other : Result ℕ Refusal)
    → ListCall Touching rounding m a one first
    → ListCall Lifted rounding m b other lifted
    → refusal_of one ≡ 0
    → refusal_of other ≡ 0
    → LiftedFrom m one other first lifted
list-calls-lifted rounding m a b first lifted one other c d r s =
    let mode = mode_of rounding in
    let p : (n j : ℕ) → n < count_of (width_of m) (depth_of m) → j < 3 → entry_at first n j ≡ coordinate (centre_at Touching mode m n) j = entry-is Touching rounding m a first one c r in
    let q : (n j : ℕ) → n < count_of (width_of m) (depth_of m) → j < 3 → entry_at lifted n j ≡ coordinate (centre_at Lifted mode m n) j = entry-is Lifted rounding m b lifted other d s in
    let acc : Accepted m (length a) = accepted-of m (length a) (map-asked rounding m (length a) (asked Touching rounding m a first one c r)) in
    record {
      x = λ n h. q n 0 h (omega arith) ∙ x-lifted mode m n ∙ sym (p n 0 h (omega arith));
      y = λ n h. q n 1 h (omega arith) ∙ y-lifted mode m n ∙ sym (p n 1 h (omega arith));
      z = λ n h.
          let seen : centre_in first n ≡ centre_at Touching mode m n = same-centre (centre_in first n) (centre_at Touching mode m n) (first-is n h) in
          rw (seen, p n 2 h (omega arith), q n 2 h (omega arith)) (subst (λ (k : Centre). LiftedTo (radius_of m) (nine_at m (width_of m) (step_of m) k (column_of (width_of m) n) (row_of (width_of m) n)) (centre_at Touching mode m n).z (centre_at Lifted mode m n).z) (sym (centre-at Touching mode m n)) (lifted-to m acc mode n h));
      ends = end_is Lifted rounding m b lifted other d s ∙ sym (end_is Touching rounding m a first one c r);
    }
  where
    first-is : (n : ℕ) → n < count_of (width_of m) (depth_of m) → (j : ℕ) → j < 3 → coordinate (centre_in first n) j ≡ coordinate (centre_at Touching (mode_of rounding) m n) j
    first-is n h zero l = entry-is Touching rounding m a first one c r n 0 h l
    first-is n h (suc zero) l = entry-is Touching rounding m a first one c r n 1 h l
    first-is n h (suc (suc zero)) l = entry-is Touching rounding m a first one c r n 2 h l
    first-is n h (suc (suc (suc j))) l = absurd (omega arith)
