-- A row of records that stands before the lift, and the loop that lifts it. Assumes nothing.
use mathlib.Core.Path.{◌≡◌, refl, sym, ap, subst, ◌∙◌}
use mathlib.Core.List.{List, [], append-nil}
use Prim.Native.Nat.{ℕ, zero, suc, ◌+◌, ◌-◌, ◌*◌, ◌≤◌, ◌<◌}
use native.Mathlib.Nat.{add_assoc, add-zero}
use native.Mathlib.Omega.{arith}
use lib.ListN.{length}
use Rattle.kinds.specs.declared.Mode.{Mode}
use Rattle.kinds.specs.declared.Rule.{Rule}
use Rattle.kinds.specs.declared.Rule.TheVariants.{Touching, Lifted}
use Rattle.words.specs.Word.{word_at, word_bytes}
use Rattle.words.specs.Signed.{signed}
use Rattle.words.specs.Splice.{splice}
use Rattle.words.specs.Joined.{joined}
use Rattle.words.proofs.Splicing.{splice-again}
use Rattle.words.proofs.Standing.{stands-splice, stands_at, behind-word}
use Rattle.words.proofs.Runs.{joined-more, length-joined, joined_same, joined_word}
use Rattle.trailer.specs.declared.Fields.{Fields}
use Rattle.cutter.specs.Centre.{Centre, coordinate, centre_of, point_at, record_bytes}
use Rattle.cutter.specs.Lift.{lifted}
use Rattle.cutter.specs.List.{count_of}
use Rattle.cutter.specs.Accepted.{Ready}
use Rattle.cutter.proofs.Points.{same-centre}
use Rattle.cutter.proofs.Entries.{record-entry}
use Rattle.lift.specs.Record.{centre_read, Reaches}
use Rattle.lift.proofs.Reaching.{touching-reaches, touching-small}
use Rattle.rows.specs.Row.{row_record, row_bytes, standing, lifted_record, RowReaches}
use Rattle.rows.proofs.RowRecords.{inner_of, row_room, record_is, length-row-record, length-row}

length-lifted : (m : List ℕ) (t : Fields) (row : ℕ) (b : List ℕ) (n : ℕ) → length (lifted_record m t row b n) ≡ 12
unfolding lifted_record record_bytes word_bytes
length-lifted m t row b n = refl

-- ---- the loop

module _ (m : List ℕ) (t : Fields) (row : ℕ) (l₀ : List ℕ) (room : 12 * count_of t.width t.depth ≤ length l₀) (below : row < t.depth - 2) where
  abbrev first : ℕ
  first = row * (12 * (t.width - 2))

  -- after n turns the first n are lifted
  abbrev So : List ℕ → ℕ → Type 0
  So l n = l ≡ splice first (joined (lifted_record m t row l₀) n) l₀

  -- the records behind those that are lifted still stand
  still : (l : List ℕ) (n : ℕ) → So l n → n < t.width - 2 → standing t row l n ≡ standing t row l₀ n
  still l n v more =
      let b = joined (lifted_record m t row l₀) n in
      let at : first ≤ length l₀ = omega (arith, row_room (t.width - 2) (t.depth - 2) row (length l₀) below room) in
      let long : length b ≡ n * 12 = length-joined (lifted_record m t row l₀) 12 (length-lifted m t row l₀) n in
      let word : (j : ℕ) → word_at l (first + n * 12 + j) ≡ word_at l₀ (first + n * 12 + j) =
      λ j. ap (λ (x : List ℕ). word_at x (first + n * 12 + j)) v ∙ behind-word first b l₀ (first + n * 12 + j) at (omega arith) in
      let zero_is : word_at l (first + n * 12) ≡ word_at l₀ (first + n * 12) =
      ap (λ (x : List ℕ). word_at x (first + n * 12)) v ∙ behind-word first b l₀ (first + n * 12) at (omega arith) in
      cc (zero_is, word 4, word 8)

  pub reaches-still : (l : List ℕ) (n i : ℕ) → RowReaches t row l₀ → So l n → n < t.width - 2 → i ≡ first
      → Reaches t.step (n + 1) (row + 1) (centre_read l (i + n * 12))
  reaches-still l n i r v more is =
      subst (Reaches t.step (n + 1) (row + 1)) (sym (still l n v more) ∙ ap (λ i. centre_read l (i + n * 12)) (sym is)) (r.each n more)

  pub lifts-more : (l l₁ : List ℕ) (n i : ℕ) (k : Centre → Centre) → So l n → n < t.width - 2 → i ≡ first
      → l₁ ≡ splice (i + n * 12) (record_bytes (k (centre_read l (i + n * 12)))) l
      → ((c : Centre) → k c ≡ lifted m t.width t.step t.radius (n + 1) (row + 1) c) → So l₁ (n + 1)
  unfolding lifted_record
  lifts-more l l₁ n i k v more is e same =
      joined-more (lifted_record m t row l₀) 12 (length-lifted m t row l₀) first n l₀ l l₁
      (omega (arith, row_room (t.width - 2) (t.depth - 2) row (length l₀) below room)) v
      (e
      ∙ ap (λ (i : ℕ). splice (i + n * 12) (record_bytes (k (centre_read l (i + n * 12)))) l) is
      ∙ ap (λ (c : Centre). splice (first + n * 12) (record_bytes c) l) (same (centre_read l (first + n * 12)))
      ∙ ap (λ (c : Centre). splice (first + n * 12) (record_bytes (lifted m t.width t.step t.radius (n + 1) (row + 1) c)) l) (still l n v more))

-- ---- the row that was put

module _ (mode : Mode) (m : List ℕ) (t : Fields) (row : ℕ) (l l₁ : List ℕ) (r : Ready m t) (below : row < t.depth - 2)
    (room : 12 * count_of t.width t.depth ≤ length l) (e : l₁ ≡ splice (row * (12 * (t.width - 2))) (row_bytes Touching mode m (t.width - 2) row) l) where
  abbrev touching : ℕ → Centre
  touching n = centre_of mode t.step t.radius (point_at m t.width (n + 1) (row + 1))

  at_most : row * (12 * (t.width - 2)) ≤ length l
  at_most = omega (arith, row_room (t.width - 2) (t.depth - 2) row (length l) below room)

  -- the word at byte 4·j of record n
  word-is : (n j : ℕ) → n < t.width - 2 → j < 3 → word_at l₁ (row * (12 * (t.width - 2)) + n * 12 + 4 * j) ≡ word_at (record_bytes (touching n)) (4 * j)
  unfolding row_bytes
  word-is n j h k =
      let f = row_record Touching mode m (t.width - 2) row in
      let w : ℕ = t.width - 2 in
      let at : ℕ = row * (12 * w) in
      let b = joined f w in
      let long : length b ≡ 12 * w = length-row Touching mode m w row in
      let near : n * 12 + 12 ≤ w * 12 = omega arith in
      ap (λ (x : List ℕ). word_at x (at + n * 12 + 4 * j)) e
      ∙ ap (word_at (splice at b l)) (add_assoc at (n * 12) (4 * j))
      ∙ stands_at (splice at b l) at b (n * 12 + 4 * j) (stands-splice at b l at_most) (omega arith)
      ∙ ap (λ (x : List ℕ). word_at x (n * 12 + 4 * j)) (sym (append-nil b))
      ∙ joined_word f 12 (length-row-record Touching mode m w row) w n (4 * j) [] h (omega arith)
      ∙ ap (λ (x : List ℕ). word_at x (4 * j)) (sym (record_is Touching mode m t n row r.is h))

  -- the centre of record n is read
  stands : (n : ℕ) → n < t.width - 2 → standing t row l₁ n ≡ touching n
  stands n h =
      let at : ℕ = row * (12 * (t.width - 2)) + n * 12 in
      let i = inner_of t.width t.depth n row h below in
      let entry : (j : ℕ) → j < 3 → signed (word_at l₁ (at + 4 * j)) ≡ coordinate (touching n) j =
      λ j k. ap signed (word-is n j h k) ∙ record-entry (touching n) (touching-small mode m t (n + 1) (row + 1) r i) j k in
      same-centre (standing t row l₁ n) (touching n) (at_each at entry)
    where
      at_each : (at : ℕ) → ((j : ℕ) → j < 3 → signed (word_at l₁ (at + 4 * j)) ≡ coordinate (touching n) j)
          → (j : ℕ) → j < 3 → coordinate (centre_read l₁ at) j ≡ coordinate (touching n) j
      at_each at entry zero l = ap (λ (x : ℕ). signed (word_at l₁ x)) (sym (add-zero at)) ∙ entry 0 l
      at_each at entry (suc zero) l = entry 1 l
      at_each at entry (suc (suc zero)) l = entry 2 l
      at_each at entry (suc (suc (suc j))) l = absurd (omega arith)

  pub row-reaches : RowReaches t row l₁
  row-reaches =
      record {
        each = λ n h.
            subst (Reaches t.step (n + 1) (row + 1)) (sym (stands n h))
            (touching-reaches mode m t (n + 1) (row + 1) r (inner_of t.width t.depth n row h below));
      }

  -- lifted it is the row of lifted records
  lifted-row : joined (lifted_record m t row l₁) (t.width - 2) ≡ row_bytes Lifted mode m (t.width - 2) row
  unfolding row_bytes lifted_record
  lifted-row =
      joined_same (lifted_record m t row l₁) (row_record Lifted mode m (t.width - 2) row) (t.width - 2)
      (λ n h.
      ap (λ (k : Centre). record_bytes (lifted m t.width t.step t.radius (n + 1) (row + 1) k)) (stands n h)
      ∙ record_is Lifted mode m t n row r.is h)

  pub row-by-lifted : (rule : Rule) (l₂ : List ℕ) → rule ≡ Lifted
      → l₂ ≡ splice (row * (12 * (t.width - 2))) (joined (lifted_record m t row l₁) (t.width - 2)) l₁
      → l₂ ≡ splice (row * (12 * (t.width - 2))) (row_bytes rule mode m (t.width - 2) row) l
  row-by-lifted rule l₂ z f =
      let at : ℕ = row * (12 * (t.width - 2)) in
      let a = row_bytes Touching mode m (t.width - 2) row in
      let b = row_bytes Lifted mode m (t.width - 2) row in
      f
      ∙ ap (λ (x : List ℕ). splice at x l₁) lifted-row
      ∙ ap (splice at b) e
      ∙ splice-again at a b l at_most (length-row Touching mode m (t.width - 2) row ∙ sym (length-row Lifted mode m (t.width - 2) row))
      ∙ ap (λ (u : Rule). splice at (row_bytes u mode m (t.width - 2) row) l) (sym z)
