-- The rows of inner points of a map, and the loops that put their records. Assumes nothing.
use mathlib.Core.Path.{◌≡◌, sym, ap, ◌∙◌}
use mathlib.Core.List.{List}
use Prim.Native.Nat.{ℕ, ◌+◌, ◌-◌, ◌*◌, ◌/◌, ◌%◌, ◌≤◌, ◌<◌}
use mathlib.Core.List.{append-nil}
use lib.ListN.{take-append-drop}
use native.Mathlib.Nat.{zero-add, add-zero, mul_comm, mod-eq_of_lt, div-eq_of_lt, add-mul-div_right, add-mul-mod_self_right}
use native.Mathlib.Omega.{arith}
use lib.ListN.{length}
use Rattle.kinds.specs.declared.Mode.{Mode}
use Rattle.kinds.specs.declared.Rule.{Rule}
use Rattle.kinds.specs.declared.Rule.TheVariants.{Touching}
use Rattle.words.specs.Splice.{splice}
use Rattle.words.specs.Joined.{joined}
use Rattle.words.proofs.Runs.{joined-more, room-left, length-joined, joined-rows}
use Rattle.cutter.specs.Centre.{Centre, centre_of, point_at, record_bytes}
use Rattle.cutter.specs.List.{count_of, centre_by, record_at}
use Rattle.cutter.specs.Accepted.{Ready}
use Rattle.cutter.specs.Map.{Inner, trailer_of}
use Rattle.cutter.proofs.Lengths.{length-record}
use Rattle.cutter.proofs.Points.{record-at}
use Rattle.rows.specs.Row.{row_record, row_bytes}
use Rattle.trailer.specs.declared.Fields.{Fields}

-- ---- the inner points of a row

-- each has four neighbours
pub inner_of : (w d n row : ℕ) → n < w - 2 → row < d - 2 → Inner w d (n + 1) (row + 1)
inner_of w d n row h k = record { left = omega arith; right = omega arith; above = omega arith; below = omega arith }

-- ---- their records

pub length-row-record : (rule : Rule) (mode : Mode) (m : List ℕ) (k row n : ℕ) → length (row_record rule mode m k row n) ≡ 12
unfolding row_record
length-row-record rule mode m k row n = length-record rule mode m (row * k + n)

pub length-row : (rule : Rule) (mode : Mode) (m : List ℕ) (k row : ℕ) → length (row_bytes rule mode m k row) ≡ 12 * k
unfolding row_bytes
length-row rule mode m k row = length-joined (row_record rule mode m k row) 12 (length-row-record rule mode m k row) k ∙ omega arith

-- the record that is put is the point's
pub record_is : (rule : Rule) (mode : Mode) (m : List ℕ) (t : Fields) (n row : ℕ) → t ≡ trailer_of m → n < t.width - 2
    → record_bytes (centre_by rule mode m t.width t.step t.radius (n + 1) (row + 1)) ≡ row_record rule mode m (t.width - 2) row n
unfolding row_record
record_is rule mode m t n row e h =
    let k = t.width - 2 in
    let i : row * k + n ≡ n + row * k = omega arith in
    let some : 0 < k = omega arith in
    let c : (row * k + n) % k ≡ n = ap (λ (x : ℕ). x % k) i ∙ add-mul-mod_self_right n row k ∙ mod-eq_of_lt h in
    let q : (row * k + n) / k ≡ row =
    ap (λ (x : ℕ). x / k) i ∙ add-mul-div_right n row some ∙ ap (λ (x : ℕ). x + row) (div-eq_of_lt h) ∙ zero-add row in
    cc (record-at rule mode m (row * k + n))

-- the bytes of a row are within those of all rows
pub row_room : (k rows row n : ℕ) → row < rows → 12 * (k * rows) ≤ n → row * (12 * k) + k * 12 ≤ n
row_room k rows row n h r =
    let e : rows * (12 * k) ≡ 12 * (k * rows) = omega arith in
    let f : row * (12 * k) + 12 * k ≤ n = room-left (12 * k) row rows n h (omega arith) in
    omega arith

-- after n turns the row's first n records are put
module _ (mode : Mode) (m : List ℕ) (t : Fields) (row : ℕ) (l₀ : List ℕ) (room : 12 * count_of t.width t.depth ≤ length l₀) (below : row < t.depth - 2) (r : Ready m t) where
  abbrev at : ℕ
  at = row * (12 * (t.width - 2))

  abbrev f : ℕ → List ℕ
  f = row_record Touching mode m (t.width - 2) row

  pub points-more : (l l₁ : List ℕ) (n first : ℕ) (k : Centre) → l ≡ splice at (joined f n) l₀ → n < t.width - 2 → first ≡ at
      → l₁ ≡ splice (first + n * 12) (record_bytes k) l → k ≡ centre_of mode t.step t.radius (point_at m t.width (n + 1) (row + 1))
      → l₁ ≡ splice at (joined f (n + 1)) l₀
  points-more l l₁ n first k v more is e same =
      joined-more f 12 (length-row-record Touching mode m (t.width - 2) row) at n l₀ l l₁
      (omega (arith, row_room (t.width - 2) (t.depth - 2) row (length l₀) below room)) v
      (e ∙ ap (λ (x : ℕ). splice (x + n * 12) (record_bytes k) l) is
      ∙ ap (λ (k : Centre). splice (at + n * 12) (record_bytes k) l) same
      ∙ ap (λ (b : List ℕ). splice (at + n * 12) b l) (record_is Touching mode m t n row r.is more))

  pub row_put : (l : List ℕ) (n : ℕ) → l ≡ splice at (joined f n) l₀ → n ≡ t.width - 2
      → l ≡ splice at (row_bytes Touching mode m (t.width - 2) row) l₀
  unfolding row_bytes
  row_put l n v e = v ∙ ap (λ (n : ℕ). splice at (joined f n) l₀) e

-- none
pub put_none : (f : ℕ → List ℕ) (at : ℕ) (l : List ℕ) → l ≡ splice at (joined f 0) l
unfolding joined splice
put_none f at l = sym (simp (add-zero, append-nil, take-append-drop))

-- ---- all rows

module _ (rule : Rule) (mode : Mode) (m : List ℕ) (k rows : ℕ) (l₀ : List ℕ) where
  pub rows_more : (l l₁ : List ℕ) (row : ℕ) → 12 * (k * rows) ≤ length l₀ → l ≡ splice 0 (joined (row_bytes rule mode m k) row) l₀ → row < rows
      → l₁ ≡ splice (row * (12 * k)) (row_bytes rule mode m k row) l → l₁ ≡ splice 0 (joined (row_bytes rule mode m k) (row + 1)) l₀
  rows_more l l₁ row h v more e =
      joined-more (row_bytes rule mode m k) (12 * k) (length-row rule mode m k) 0 row l₀ l l₁
      (omega (arith, room-left (12 * k) row rows (length l₀) more (omega arith))) v
      (e ∙ ap (λ (x : ℕ). splice x (row_bytes rule mode m k row) l) (sym (zero-add (row * (12 * k)))))

  pub rows-put : (l : List ℕ) (row : ℕ) → l ≡ splice 0 (joined (row_bytes rule mode m k) row) l₀ → row ≡ rows
      → l ≡ splice 0 (joined (record_at rule mode m) (k * rows)) l₀
  unfolding row_bytes row_record
  rows-put l row v e =
      v
      ∙ ap (λ (n : ℕ). splice 0 (joined (row_bytes rule mode m k) n) l₀) e
      ∙ ap (λ (b : List ℕ). splice 0 b l₀) (joined-rows (record_at rule mode m) k rows ∙ ap (joined (record_at rule mode m)) (mul_comm rows k))
