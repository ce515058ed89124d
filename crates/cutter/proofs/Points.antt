-- The points of an accepted map and their centres: the three coordinates alike, and how large they are. Assumes nothing.
use mathlib.Core.Path.{◌≡◌, refl}
use mathlib.Core.List.{List, ◌++◌}
use Prim.Native.Nat.{ℕ, zero, suc, ◌+◌, ◌*◌, ◌≤◌, ◌<◌}
use native.Mathlib.Nat.{mul-le-mul, mul-pos}
use native.Mathlib.Omega.{arith}
use lib.Dec.{lit<}
use lib.IntN.{ℤ, pos, neg_ℤ, nat_abs, ◌+ℤ◌}
use Rattle.kinds.specs.declared.Mode.{Mode}
use Rattle.kinds.specs.declared.Rule.{Rule}
use Rattle.kinds.specs.declared.Rule.TheVariants.{Touching, Lifted}
use Rattle.words.specs.Word.{word_at, word_bytes}
use Rattle.words.specs.Signed.{signed, word_of}
use Rattle.words.proofs.Differences.{abs_neg, abs-add}
use Rattle.cutter.specs.Limits.{side_most, height_most}
use Rattle.cutter.specs.Offset.{squared_length, offset_of}
use Rattle.cutter.specs.Map.{Inner, width_of, depth_of, step_of, radius_of, height_at, dx_at, dy_at}
use Rattle.cutter.specs.Centre.{Point, Centre, coordinate, centre_of, point_at, record_bytes}
use Rattle.cutter.specs.Lift.{Contact, contact_at, nine_at, lifted}
use Rattle.cutter.specs.List.{count_of, column_of, row_of, inner_point, centre_by, centre_at, record_at}
use Rattle.cutter.specs.Accepted.{Steps, Accepted}
use Rattle.cutter.proofs.Offsets.{offset-most}
use Rattle.cutter.proofs.Places.{inside, inner-at}
use Rattle.cutter.proofs.Lifts.{AllWithin, nine-all, lifted-abs}

-- what is known of the step, the radius and a point of an accepted map
pub record InRange (step radius : ℕ) (p : Point) : Type 0 where
  pub steps : Steps step radius
  pub column-to : p.column ≤ side_most
  pub row-to : p.row ≤ side_most
  pub height-to : nat_abs p.height ≤ height_most

-- ---- the three coordinates alike

-- the coordinates of the map point
abbrev pub point_along : ℕ → Point → ℕ → ℤ
point_along step p zero = pos (p.column * step)
point_along step p (suc zero) = pos (p.row * step)
point_along step p (suc (suc j)) = p.height

-- the components of the normal
abbrev pub normal_along : ℕ → Point → ℕ → ℤ
normal_along step p zero = neg_ℤ p.dx
normal_along step p (suc zero) = neg_ℤ p.dy
normal_along step p (suc (suc j)) = pos (2 * step)

-- the squared length of the normal
abbrev pub length_at : ℕ → Point → ℕ
length_at step p = squared_length p.dx p.dy step

-- a coordinate of a centre is the map point's plus the offset
pub coordinate-is : (mode : Mode) (step radius : ℕ) (p : Point) (j : ℕ)
    → coordinate (centre_of mode step radius p) j ≡ point_along step p j +ℤ offset_of mode (normal_along step p j) radius (length_at step p)
unfolding centre_of
coordinate-is mode step radius p zero = refl
coordinate-is mode step radius p (suc zero) = refl
coordinate-is mode step radius p (suc (suc j)) = refl

-- the height at a place, and the record of a point's centre, by the words that code reads and puts
pub height-is : (m : List ℕ) (w c q : ℕ) → signed (word_at m (4 * (q * w + c))) ≡ height_at m w c q
unfolding height_at
height-is m w c q = refl

pub record_is : (mode : Mode) (step radius : ℕ) (m : List ℕ) (w c q : ℕ)
    → let l = squared_length (dx_at m w c q) (dy_at m w c q) step in
    record_bytes (centre_of mode step radius (point_at m w c q))
    ≡ word_bytes (word_of (pos (c * step) +ℤ offset_of mode (neg_ℤ (dx_at m w c q)) radius l))
    ++ word_bytes (word_of (pos (q * step) +ℤ offset_of mode (neg_ℤ (dy_at m w c q)) radius l))
    ++ word_bytes (word_of (height_at m w c q +ℤ offset_of mode (pos (2 * step)) radius l))
unfolding record_bytes centre_of point_at
record_is mode step radius m w c q = refl

-- centres are equal where their three coordinates are
pub same-centre : (a b : Centre) → ((j : ℕ) → j < 3 → coordinate a j ≡ coordinate b j) → a ≡ b
same-centre a b h = λ i. record { x = h 0 (lit< tt) i; y = h 1 (lit< tt) i; z = h 2 (lit< tt) i }

module _ (step radius : ℕ) (p : Point) (h : InRange step radius p) where
  -- the normal is not 0
  pub length-pos : 0 < length_at step p
  length-pos = omega (arith, mul-pos h.steps.step-least h.steps.step-least)

  -- no component is longer than it
  pub component-part : (j : ℕ) → nat_abs (normal_along step p j) * nat_abs (normal_along step p j) ≤ length_at step p
  component-part zero = rw (abs_neg p.dx) (omega arith)
  component-part (suc zero) = rw (abs_neg p.dy) (omega arith)
  component-part (suc (suc j)) = omega arith

  point-to : (j : ℕ) → nat_abs (point_along step p j) ≤ 640000
  point-to zero = omega (arith, mul-le-mul h.column-to h.steps.step-most)
  point-to (suc zero) = omega (arith, mul-le-mul h.row-to h.steps.step-most)
  point-to (suc (suc j)) = omega (arith, h.height-to)

  -- every coordinate is a small number
  pub coordinate-most : (mode : Mode) (j : ℕ) → nat_abs (coordinate (centre_of mode step radius p) j) ≤ 1048576
  coordinate-most mode j =
      let q = length_at step p in
      let z = normal_along step p j in
      let o = offset_of mode z radius q in
      rw (coordinate-is mode step radius p j)
      (omega (arith, abs-add (point_along step p j) o, point-to j, offset-most mode z radius q length-pos (component-part j), h.steps.radius-most))

-- ---- an accepted map

-- the centre of record n is that of its point
pub centre-at : (rule : Rule) (mode : Mode) (m : List ℕ) (n : ℕ)
    → centre_at rule mode m n ≡ centre_by rule mode m (width_of m) (step_of m) (radius_of m) (column_of (width_of m) n) (row_of (width_of m) n)
unfolding centre_at
centre-at rule mode m n = refl

pub record-at : (rule : Rule) (mode : Mode) (m : List ℕ) (n : ℕ)
    → record_at rule mode m n ≡ record_bytes (centre_by rule mode m (width_of m) (step_of m) (radius_of m) (column_of (width_of m) n) (row_of (width_of m) n))
unfolding record_at centre_at
record-at rule mode m n = refl

-- the nine heights round it, as its centre has them
abbrev pub nine_of : Mode → List ℕ → ℕ → List Contact
nine_of mode m n =
    nine_at m (width_of m) (step_of m) (centre_of mode (step_of m) (radius_of m) (inner_point m n)) (column_of (width_of m) n) (row_of (width_of m) n)

-- the lift keeps x and y
module _ (mode : Mode) (m : List ℕ) (n : ℕ) where
  pub x-lifted : (centre_at Lifted mode m n).x ≡ (centre_at Touching mode m n).x
  unfolding centre_at lifted
  x-lifted = refl

  pub y-lifted : (centre_at Lifted mode m n).y ≡ (centre_at Touching mode m n).y
  unfolding centre_at lifted
  y-lifted = refl

module _ (m : List ℕ) {room : ℕ} (a : Accepted m room) where
  -- heights of the map are small
  height-small : (c q : ℕ) → c < width_of m → q < depth_of m → nat_abs (height_at m (width_of m) c q) ≤ height_most
  unfolding height_at
  height-small c q hc hq = a.heights.small (q * width_of m + c) (inside (width_of m) (depth_of m) c q hc hq)

  -- the inner point n is in range
  pub inner-in-range : (n : ℕ) → n < count_of (width_of m) (depth_of m) → InRange (step_of m) (radius_of m) (inner_point m n)
  unfolding point_at
  inner-in-range n h =
      let w = width_of m in
      let d = depth_of m in
      let c = column_of w n in
      let q = row_of w n in
      let i : Inner w d c q = inner-at w d a.trailed.sizes.wide n h in
      record {
        steps = a.trailed.steps;
        column-to = omega (arith, a.trailed.sizes.narrow);
        row-to = omega (arith, a.trailed.sizes.shallow);
        height-to = height-small c q (omega arith) (omega arith);
      }

  -- so are the nine heights round it
  pub nine-within : (mode : Mode) (n : ℕ) → n < count_of (width_of m) (depth_of m) → AllWithin height_most (nine_of mode m n)
  unfolding contact_at
  nine-within mode n h =
      let w = width_of m in
      let d = depth_of m in
      let c = column_of w n in
      let q = row_of w n in
      let i : Inner w d c q = inner-at w d a.trailed.sizes.wide n h in
      nine-all (λ (k : Contact). nat_abs k.height ≤ height_most) m w (step_of m) (centre_of mode (step_of m) (radius_of m) (inner_point m n)) c q
      (λ a b near. height-small a b (omega (arith, i.right, near.right)) (omega (arith, i.below, near.below)))

  pub centre-most : (mode : Mode) (n : ℕ) → n < count_of (width_of m) (depth_of m)
      → (j : ℕ) → nat_abs (coordinate (centre_of mode (step_of m) (radius_of m) (inner_point m n)) j) ≤ 1048576
  centre-most mode n h = coordinate-most (step_of m) (radius_of m) (inner_point m n) (inner-in-range n h) mode

  lifted-most : (mode : Mode) (n : ℕ) → n < count_of (width_of m) (depth_of m)
      → (j : ℕ) → nat_abs (coordinate (centre_by Lifted mode m (width_of m) (step_of m) (radius_of m) (column_of (width_of m) n) (row_of (width_of m) n)) j) ≤ 4194304
  unfolding lifted
  lifted-most mode n h zero = omega (arith, centre-most mode n h 0)
  lifted-most mode n h (suc zero) = omega (arith, centre-most mode n h 1)
  lifted-most mode n h (suc (suc j)) =
      omega (
        arith,
        centre-most mode n h 2,
        lifted-abs (radius_of m) (nine_of mode m n) (centre_of mode (step_of m) (radius_of m) (inner_point m n)).z height_most (nine-within mode n h),
        a.trailed.steps.radius-most,
      )

  -- its centre has coordinates of 32 bits, by either rule
  pub centre-small : (rule : Rule) (mode : Mode) (n : ℕ) → n < count_of (width_of m) (depth_of m)
      → (j : ℕ) → nat_abs (coordinate (centre_at rule mode m n) j) < 2147483648
  centre-small Touching mode n h j = rw (centre-at Touching mode m n) (omega (arith, centre-most mode n h j))
  centre-small Lifted mode n h j = rw (centre-at Lifted mode m n) (omega (arith, lifted-most mode n h j))
