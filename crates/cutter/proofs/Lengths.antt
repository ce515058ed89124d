-- The lengths of a record, of all records and of the list. Assumes nothing.
use mathlib.Core.Path.{◌≡◌, refl, ◌∙◌}
use mathlib.Core.List.{List, ◌++◌}
use Prim.Native.Nat.{ℕ, ◌+◌, ◌*◌}
use native.Mathlib.Omega.{arith}
use lib.ListN.{length, length-append}
use Rattle.kinds.specs.declared.Mode.{Mode}
use Rattle.kinds.specs.declared.Rule.{Rule}
use Rattle.words.specs.Word.{word_bytes}
use Rattle.words.proofs.Runs.{length-joined}
use Rattle.trailer.specs.Kinds.{length_of, new_list}
use Rattle.trailer.specs.Bytes.{trailer_bytes}
use Rattle.trailer.specs.declared.Kind.{Kind}
use Rattle.trailer.proofs.Layouts.{length-trailer}
use Rattle.cutter.specs.Map.{width_of, depth_of}
use Rattle.cutter.specs.Centre.{record_bytes}
use Rattle.cutter.specs.List.{count_of, record_at, all_records, list_fields, list_of, list_length, list_bytes}

pub length-record : (rule : Rule) (mode : Mode) (m : List ℕ) (n : ℕ) → length (record_at rule mode m n) ≡ 12
unfolding record_at record_bytes word_bytes
length-record rule mode m n = refl

pub length-records : (rule : Rule) (mode : Mode) (m : List ℕ) → length (all_records rule mode m) ≡ 12 * count_of (width_of m) (depth_of m)
unfolding all_records
length-records rule mode m = length-joined (record_at rule mode m) 12 (length-record rule mode m) (count_of (width_of m) (depth_of m)) ∙ omega arith

-- a list is its records and its trailer
pub list-parts : (k : Kind) (rule : Rule) (mode : Mode) (m : List ℕ) → list_of k rule mode m ≡ all_records rule mode m ++ trailer_bytes k (list_fields k mode m)
unfolding list_of
list-parts k rule mode m = refl

pub length-of-list : (k : Kind) (rule : Rule) (mode : Mode) (m : List ℕ) → length (list_of k rule mode m) ≡ 12 * count_of (width_of m) (depth_of m) + length_of k
unfolding list_of
length-of-list k rule mode m =
    length-append (all_records rule mode m) (trailer_bytes k (list_fields k mode m))
    ∙ omega (arith, length-records rule mode m, length-trailer k (list_fields k mode m))

pub list-length-is : (m : List ℕ) → list_length m ≡ 12 * count_of (width_of m) (depth_of m) + length_of new_list
unfolding list_length
list-length-is m = refl

-- a 3 × 3 map needs 30 bytes
pub smallest-list : (m : List ℕ) → width_of m ≡ 3 → depth_of m ≡ 3 → list_length m ≡ 30
unfolding list_length
smallest-list m w d = rw (w, d) refl

pub length-list : (rule : Rule) (mode : Mode) (m : List ℕ) → length (list_bytes rule mode m) ≡ list_length m
unfolding list_length
length-list rule mode m = length-of-list new_list rule mode m
