-- What the lent buffer holds after an accepted call: each entry of the list is a coordinate of its centre; and what stands behind
-- the records. Assumes nothing.
use mathlib.Core.Path.{◌≡◌, refl, sym, ap, ap₂, ◌∙◌}
use mathlib.Core.List.{List, ◌++◌, append_assoc}
use Prim.Native.Nat.{ℕ, zero, suc, ◌+◌, ◌*◌, ◌<◌}
use native.Mathlib.Omega.{arith}
use lib.ListN.{length, take, drop}
use lib.Seq.{take-append_seam, drop-append_seam}
use lib.IntN.{nat_abs}
use Rattle.kinds.specs.declared.Mode.{Mode}
use Rattle.kinds.specs.declared.Rule.{Rule}
use Rattle.kinds.specs.declared.Mode.TheVariants.{Nearest}
use Rattle.kinds.specs.Rounding.{mode_of, number_of}
use Rattle.words.specs.Word.{word_at, half_bytes, word_bytes}
use Rattle.words.specs.Signed.{signed, word_of}
use Rattle.words.specs.Splice.{splice}
use Rattle.words.proofs.Differences.{word_small, signed_word}
use Rattle.words.proofs.Splicing.{splice-take, splice-drop, three_back}
use Rattle.words.proofs.Runs.{joined_same, joined-apart, joined_word}
use Rattle.trailer.specs.Kinds.{letters_of, is_wide, new_list}
use Rattle.trailer.specs.Bytes.{front_bytes, radius_bytes, trailer_bytes}
use Rattle.trailer.specs.declared.Kind.{Kind}
use Rattle.cutter.specs.Map.{width_of, depth_of, radius_of}
use Rattle.cutter.specs.Centre.{Centre, coordinate, record_bytes}
use Rattle.cutter.specs.List.{count_of, centre_at, record_at, all_records, list_fields, list_of, list_bytes, entry_at}
use Rattle.cutter.specs.Call.{list_refusal, buffer_after}
use Rattle.cutter.specs.Held.{ListHeld}
use Rattle.cutter.specs.Accepted.{Accepted}
use Rattle.cutter.proofs.Lengths.{length-record, length-records, length-list}
use Rattle.cutter.proofs.Accepted.{accepted-of, map-asked, accepted-answer, accepted-buffer}
use Rattle.cutter.proofs.Points.{same-centre, centre-small}

-- ---- one record

-- coordinates of 32 bits are read again from their record
pub record-entry : (k : Centre) → ((j : ℕ) → nat_abs (coordinate k j) < 2147483648)
    → (j : ℕ) → j < 3 → signed (word_at (record_bytes k) (4 * j)) ≡ coordinate k j
record-entry k h j l = ap signed (word-at j l) ∙ signed_word (coordinate k j) (h j)
  where
    words : (word_at (record_bytes k) 0 ≡ word_of k.x) × (word_at (record_bytes k) 4 ≡ word_of k.y) × (word_at (record_bytes k) 8 ≡ word_of k.z)
    words = unfold record_bytes in three_back (word_of k.x) (word_of k.y) (word_of k.z) (word_small k.x (h 0)) (word_small k.y (h 1)) (word_small k.z (h 2))

    word-at : (j : ℕ) → j < 3 → word_at (record_bytes k) (4 * j) ≡ word_of (coordinate k j)
    word-at zero l = words.0
    word-at (suc zero) l = words.1
    word-at (suc (suc zero)) l = words.2
    word-at (suc (suc (suc j))) l = absurd (omega arith)

-- ---- two lists of a map

module _ (rule : Rule) (a b : Mode) (m : List ℕ) where
  -- the same records come from the same centres
  pub same-centres : {room : ℕ} → Accepted m room → all_records rule a m ≡ all_records rule b m
      → (n : ℕ) → n < count_of (width_of m) (depth_of m) → centre_at rule a m n ≡ centre_at rule b m n
  unfolding all_records record_at
  same-centres s e n h =
      let r : record_bytes (centre_at rule a m n) ≡ record_bytes (centre_at rule b m n) =
      joined-apart (record_at rule a m) (record_at rule b m) 12 (length-record rule a m) (length-record rule b m) (count_of (width_of m) (depth_of m)) e n h in
      same-centre (centre_at rule a m n) (centre_at rule b m n)
      (λ j l.
      sym (record-entry (centre_at rule a m n) (centre-small m s rule a n h) j l)
      ∙ ap (λ (x : List ℕ). signed (word_at x (4 * j))) r
      ∙ record-entry (centre_at rule b m n) (centre-small m s rule b n h) j l)

  -- and the same centres give the same records
  pub same-records : ((n : ℕ) → n < count_of (width_of m) (depth_of m) → centre_at rule a m n ≡ centre_at rule b m n) → all_records rule a m ≡ all_records rule b m
  unfolding all_records record_at
  same-records e =
      joined_same (record_at rule a m) (record_at rule b m) (count_of (width_of m) (depth_of m)) (λ n h. ap record_bytes (e n h))

-- ---- a list with a trailer of a kind, whatever stands behind it

module _ (k : Kind) (rule : Rule) (mode : Mode) (m rest : List ℕ) where
  list-behind : list_of k rule mode m ++ rest ≡ all_records rule mode m ++ (trailer_bytes k (list_fields k mode m) ++ rest)
  unfolding list_of
  list-behind = append_assoc (all_records rule mode m) (trailer_bytes k (list_fields k mode m)) rest

  -- its records stand first
  list-records : take (12 * count_of (width_of m) (depth_of m)) (list_of k rule mode m ++ rest) ≡ all_records rule mode m
  list-records =
      ap₂ take (sym (length-records rule mode m)) list-behind
      ∙ take-append_seam (all_records rule mode m) (trailer_bytes k (list_fields k mode m) ++ rest)

  module _ (n j : ℕ) (h : n < count_of (width_of m) (depth_of m)) (l : j < 3) where
    -- the word at byte 4·j of record n
    list-word : word_at (list_of k rule mode m ++ rest) (12 * n + 4 * j) ≡ word_at (record_at rule mode m n) (4 * j)
    unfolding all_records
    list-word =
        let c = count_of (width_of m) (depth_of m) in
        let f = record_at rule mode m in
        let t = trailer_bytes k (list_fields k mode m) in
        let place : 12 * n + 4 * j ≡ n * 12 + 4 * j = omega arith in
        ap (word_at (list_of k rule mode m ++ rest)) place
        ∙ ap (λ (s : List ℕ). word_at s (n * 12 + 4 * j)) list-behind
        ∙ joined_word f 12 (length-record rule mode m) c n (4 * j) (t ++ rest) h (omega arith)

    -- entry j of record n
    pub list-entry : {room : ℕ} → Accepted m room → entry_at (list_of k rule mode m ++ rest) n j ≡ coordinate (centre_at rule mode m n) j
    unfolding record_at
    list-entry s = ap signed list-word ∙ record-entry (centre_at rule mode m n) (centre-small m s rule mode n h) j l

-- ---- the trailer of a new list

-- all of it but the rounding, which stands last
unfoldable pub trailer_front : List ℕ → List ℕ
trailer_front m =
    front_bytes (letters_of new_list) (list_fields new_list Nearest m) ++ radius_bytes (is_wide new_list) (radius_of m)

pub length-trailer-front : (m : List ℕ) → length (trailer_front m) ≡ 16
unfolding trailer_front front_bytes half_bytes word_bytes
length-trailer-front m = refl

pub list-end : (rule : Rule) (mode : Mode) (m : List ℕ) → drop (12 * count_of (width_of m) (depth_of m)) (list_bytes rule mode m) ≡ trailer_front m ++ half_bytes (number_of mode)
unfolding list_of trailer_bytes trailer_front front_bytes
list-end rule mode m =
    ap (λ (n : ℕ). drop n (list_bytes rule mode m)) (sym (length-records rule mode m))
    ∙ drop-append_seam (all_records rule mode m) (trailer_bytes new_list (list_fields new_list mode m))

-- ---- the buffer

module _ (rule : Rule) (rounding : ℕ) (m out : List ℕ) (e : list_refusal rounding m (length out) ≡ 0) where
  entry-is : (n j : ℕ) → n < count_of (width_of m) (depth_of m) → j < 3
      → entry_at (buffer_after rule rounding m out) n j ≡ coordinate (centre_at rule (mode_of rounding) m n) j
  unfolding splice
  entry-is n j h l =
      ap (λ (s : List ℕ). entry_at s n j) (accepted-buffer rounding m rule out e)
      ∙ list-entry new_list rule (mode_of rounding) m (drop (0 + length (list_bytes rule (mode_of rounding) m)) out) n j h l (accepted-of m (length out) (map-asked rounding m (length out) e))

  records-are : take (12 * count_of (width_of m) (depth_of m)) (buffer_after rule rounding m out) ≡ all_records rule (mode_of rounding) m
  unfolding splice
  records-are =
      ap (take (12 * count_of (width_of m) (depth_of m))) (accepted-buffer rounding m rule out e)
      ∙ list-records new_list rule (mode_of rounding) m (drop (0 + length (list_bytes rule (mode_of rounding) m)) out)

  -- what an accepted call leaves
  pub list_held : ListHeld rule rounding m out
  list_held =
      record {
        reported = accepted-answer rounding m (length out) e;
        front = rw (accepted-buffer rounding m rule out e, ← length-list rule (mode_of rounding) m) (splice-take (list_bytes rule (mode_of rounding) m) out);
        records = records-are;
        behind = rw (accepted-buffer rounding m rule out e, ← length-list rule (mode_of rounding) m) (splice-drop (list_bytes rule (mode_of rounding) m) out);
        entry = entry-is;
      }
