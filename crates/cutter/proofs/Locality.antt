-- A centre depends on its own height, the differences of its four neighbours, its place, step and radius, and on nothing else of the map; a
-- lifted one on the nine heights round it in place of those. Assumes nothing.
use mathlib.Core.Path.{◌≡◌, ap, subst}
use mathlib.Core.List.{List}
use Prim.Native.Nat.{ℕ, ◌+◌, ◌-◌, ◌*◌, ◌/◌, ◌≤◌, ◌<◌}
use native.Mathlib.Omega.{arith}
use lib.ListN.{length, get_or, set}
use lib.Seq.{get_or-set_other}
use Rattle.kinds.specs.declared.Mode.{Mode}
use Rattle.kinds.specs.declared.Rule.TheVariants.{Touching, Lifted}
use Rattle.words.specs.Word.{word_at}
use Rattle.trailer.specs.Kinds.{length_of}
use Rattle.trailer.specs.declared.Kind.TheVariants.{Plt1}
use Rattle.trailer.specs.declared.Fields.{Fields}
use Rattle.trailer.proofs.Kept.{last-kept}
use Rattle.cutter.specs.Map.{width_of, step_of, radius_of, height_at, dx_at, dy_at}
use Rattle.cutter.specs.Centre.{point_at, record_bytes}
use Rattle.cutter.specs.Lifted.{Near}
use Rattle.cutter.specs.Lift.{contact_at, three_at, nine_at, lifted}
use Rattle.cutter.specs.List.{column_of, row_of, centre_at, record_at}

-- two maps: the centres at two of their points are the same where the places, the heights, the differences, the steps and the radii are
pub same-centre : (mode : Mode) (m l : List ℕ) (n k : ℕ)
    → step_of m ≡ step_of l → radius_of m ≡ radius_of l
    → column_of (width_of m) n ≡ column_of (width_of l) k → row_of (width_of m) n ≡ row_of (width_of l) k
    → height_at m (width_of m) (column_of (width_of m) n) (row_of (width_of m) n) ≡ height_at l (width_of l) (column_of (width_of l) k) (row_of (width_of l) k)
    → dx_at m (width_of m) (column_of (width_of m) n) (row_of (width_of m) n) ≡ dx_at l (width_of l) (column_of (width_of l) k) (row_of (width_of l) k)
    → dy_at m (width_of m) (column_of (width_of m) n) (row_of (width_of m) n) ≡ dy_at l (width_of l) (column_of (width_of l) k) (row_of (width_of l) k)
    → centre_at Touching mode m n ≡ centre_at Touching mode l k
unfolding centre_at point_at
same-centre mode m l n k step radius column row height dx dy = cc

-- the lifted centres where the places, the nine heights, the steps and the radii are
pub same-lifted : (mode : Mode) (m l : List ℕ) (n k : ℕ)
    → step_of m ≡ step_of l → radius_of m ≡ radius_of l
    → column_of (width_of m) n ≡ column_of (width_of l) k → row_of (width_of m) n ≡ row_of (width_of l) k
    → ((a b : ℕ) → Near (column_of (width_of m) n) (row_of (width_of m) n) a b → height_at m (width_of m) a b ≡ height_at l (width_of l) a b)
    → centre_at Lifted mode m n ≡ centre_at Lifted mode l k
unfolding centre_at lifted nine_at three_at contact_at point_at dx_at dy_at
same-lifted mode m l n k step radius column row heights =
    let c = column_of (width_of m) n in
    let q = row_of (width_of m) n in
    let at : (a b : ℕ) → a ≤ c + 1 → c ≤ a + 1 → b ≤ q + 1 → q ≤ b + 1 → height_at m (width_of m) a b ≡ height_at l (width_of l) a b =
    λ a b right left below above. heights a b (record { right = right; left = left; below = below; above = above }) in
    cc (
      at (c - 1) (q - 1) (omega arith) (omega arith) (omega arith) (omega arith),
      at c (q - 1) (omega arith) (omega arith) (omega arith) (omega arith),
      at (c + 1) (q - 1) (omega arith) (omega arith) (omega arith) (omega arith),
      at (c - 1) q (omega arith) (omega arith) (omega arith) (omega arith),
      at c q (omega arith) (omega arith) (omega arith) (omega arith),
      at (c + 1) q (omega arith) (omega arith) (omega arith) (omega arith),
      at (c - 1) (q + 1) (omega arith) (omega arith) (omega arith) (omega arith),
      at c (q + 1) (omega arith) (omega arith) (omega arith) (omega arith),
      at (c + 1) (q + 1) (omega arith) (omega arith) (omega arith) (omega arith),
    )

-- ---- one byte changed elsewhere

module _ (m : List ℕ) (i b : ℕ) where
  byte-kept : (j : ℕ) → (j ≡ i → ⊥) → get_or (set m i b) j 0 ≡ get_or m j 0
  byte-kept j h = get_or-set_other m i j b 0 h

  -- a height whose four bytes the changed one is not among
  word_kept : (k : ℕ) → (i / 4 ≡ k → ⊥) → word_at (set m i b) (4 * k) ≡ word_at m (4 * k)
  word_kept k h =
      let b₀ = byte-kept (4 * k) (λ e. h (omega arith)) in
      let b₁ = byte-kept (4 * k + 1) (λ e. h (omega arith)) in
      let b₂ = byte-kept (4 * k + 2) (λ e. h (omega arith)) in
      let b₃ = byte-kept (4 * k + 3) (λ e. h (omega arith)) in
      cc

-- place k of a map that is w wide is neither the point at column c and row q nor one of its four neighbours
pub record Elsewhere (w c q k : ℕ) : Type 0 where
  pub here : k ≡ q * w + c → ⊥
  pub left : k ≡ q * w + (c - 1) → ⊥
  pub right : k ≡ q * w + (c + 1) → ⊥
  pub above : k ≡ (q - 1) * w + c → ⊥
  pub below : k ≡ (q + 1) * w + c → ⊥

module _ (m : List ℕ) (i b : ℕ) where
  point-kept : (w c q : ℕ) → Elsewhere w c q (i / 4) → point_at (set m i b) w c q ≡ point_at m w c q
  unfolding point_at dx_at dy_at height_at
  point-kept w c q h =
      cc (
        word_kept m i b (q * w + c) h.here,
        word_kept m i b (q * w + (c - 1)) h.left,
        word_kept m i b (q * w + (c + 1)) h.right,
        word_kept m i b ((q - 1) * w + c) h.above,
        word_kept m i b ((q + 1) * w + c) h.below,
      )

  -- byte i, which is the height's at place i / 4, is changed: the record stays
  pub record-kept : (mode : Mode) (n : ℕ) → i + length_of Plt1 < length m
      → Elsewhere (width_of m) (column_of (width_of m) n) (row_of (width_of m) n) (i / 4)
      → record_at Touching mode (set m i b) n ≡ record_at Touching mode m n
  unfolding record_at centre_at
  record-kept mode n t h =
      cc (last-kept Plt1 m i b t, point-kept (width_of m) (column_of (width_of m) n) (row_of (width_of m) n) h)

  -- the lifted record where it is none of the nine heights round the point
  pub lifted-record-kept : (mode : Mode) (n : ℕ) → i + length_of Plt1 < length m
      → ((c q : ℕ) → Near (column_of (width_of m) n) (row_of (width_of m) n) c q → i / 4 ≡ q * width_of m + c → ⊥)
      → record_at Lifted mode (set m i b) n ≡ record_at Lifted mode m n
  unfolding record_at height_at
  lifted-record-kept mode n t h =
      let e = last-kept Plt1 m i b t in
      ap record_bytes
      (same-lifted mode (set m i b) m n n (ap (λ (f : Fields). f.step) e) (ap (λ (f : Fields). f.radius) e)
      (ap (λ (f : Fields). column_of f.width n) e) (ap (λ (f : Fields). row_of f.width n) e)
      (λ c q near. cc (e, word_kept m i b (q * width_of m + c) (h c q (subst (λ (f : Fields). Near (column_of f.width n) (row_of f.width n) c q) e near)))))
