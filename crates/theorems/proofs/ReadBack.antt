-- REQUESTS #101 AND #102, of two calls: whatever the list call wrote, in any rounding, of any map and into any buffer, the record call reads
-- back with its rounding; document 01's list of the same map too, its rounding unknown. Assumes nothing.
use mathlib.Core.Path.{◌≡◌, refl, sym, ap, subst, ◌∙◌}
use mathlib.Core.Bool.{true, false}
use mathlib.Core.List.{List}
use Prim.Native.Nat.{ℕ, ◌≤◌, ◌<◌}
use lib.ListN.{length, take}
use Rattle.std.specs.Prelude.{Option, Some, None, Result, Ok, Err}
use Rattle.kinds.specs.declared.Refusal.{Refusal}
use Rattle.kinds.specs.Refusal.{refusal_of, answer_of, then}
use Rattle.std.specs.Bool.{then_some}
use Rattle.kinds.specs.Rounding.{mode_of, number_of}
use Rattle.kinds.specs.declared.Refusal.TheVariants.{Index}
use Rattle.kinds.specs.declared.Rule.{Rule}
use Rattle.kinds.specs.declared.Rule.TheVariants.{Touching}
use Rattle.kinds.proofs.Questions.{number-back}
use Rattle.trailer.specs.Kinds.{is_rounded}
use Rattle.trailer.specs.Bytes.{last_fields, ends_in, list_kind}
use Rattle.trailer.specs.declared.Kind.{Kind}
use Rattle.trailer.specs.declared.Kind.TheVariants.{Cut1, Cut2}
use Rattle.trailer.proofs.Seeking.{kind-first, cut1-found, cut2-found, cut2-not-cut1}
use Rattle.cutter.specs.Map.{width_of, depth_of}
use Rattle.cutter.specs.List.{count_of, all_records, list_fields, list_of, list_bytes, entry_at}
use Rattle.cutter.specs.Call.{list_refusal}
use Rattle.cutter.specs.Accepted.{Accepted}
use Rattle.cutter.proofs.Accepted.{accepted-of, map-asked, rounding-asked}
use Rattle.cutter.proofs.Lengths.{list-parts}
use Rattle.cutter.proofs.Entries.{list_held}
use Rattle.reader.specs.Reader.{record_refusal}
use Rattle.reader.proofs.Written.{written_record, written-beyond}
use Rattle.reader.proofs.Questions.{record-accepted, record-refused}
use Rattle.plate.specs.declared.Rounding.{Rounding}
use Rattle.plate.specs.declared.ListRecord.{ListRecord}
use Rattle.plate.specs.List.{ListCall}
use Rattle.reader.specs.declared.Record.{Record}
use Rattle.plate.specs.Record.{list_rounding, list_record, record_call}
use Rattle.theorems.specs.ReadBack.{centre_read, ReadBack}

-- a record in the types that users name, as the call hands it on
abbrev in_types : Result Record Refusal → Result ListRecord Refusal
in_types r = then r (λ q. Ok (list_record q))

-- ---- a list with a trailer of a kind that is found

module _ (k : Kind) (rule : Rule) (rounding : ℕ) (m : List ℕ) (found : list_kind (list_of k rule (mode_of rounding) m) ≡ k) {room : ℕ} (a : Accepted m room) where
  -- what its trailer tells of the rounding
  abbrev told : Option Rounding
  told = list_rounding (then_some (is_rounded k) (mode_of rounding))

  abbrev list : List ℕ
  list = list_of k rule (mode_of rounding) m

  read-each : (n : ℕ) → n < count_of (width_of m) (depth_of m) → record_call list n ≡ Ok (centre_read rule told rounding m n)
  read-each n h = ap in_types (written_record k rule (mode_of rounding) m found a n h)

  read-beyond : (n : ℕ) → count_of (width_of m) (depth_of m) ≤ n → record_call list n ≡ Err Index
  read-beyond n h = ap in_types (record-refused list n Index (written-beyond k rule (mode_of rounding) m found a n h))

  read_all : ReadBack rule told rounding m list
  read_all = record { each = read-each; beyond = read-beyond }

-- ---- what the list call wrote

module _ (rule : Rule) (rounding : ℕ) (m before after : List ℕ) (reply : Result ℕ Refusal) (c : ListCall rule rounding m before reply after) (z : refusal_of reply ≡ 0) where
  asked : list_refusal rounding m (length before) ≡ 0
  asked = sym c.refuses ∙ z

  -- the bytes of the length reported are the list
  written : take (answer_of reply) after ≡ list_bytes rule (mode_of rounding) m
  written = rw (c.reports, c.leaves, (list_held rule rounding m before asked).reported) (list_held rule rounding m before asked).front

  -- it is read back with its rounding
  pub read_back : ReadBack rule (Some (record { 0 = rounding })) rounding m (take (answer_of reply) after)
  read_back =
      let a : Accepted m (length before) = accepted-of m (length before) (map-asked rounding m (length before) asked) in
      let found : list_kind (list_bytes rule (mode_of rounding) m) ≡ Cut2 =
      rw (list-parts Cut2 rule (mode_of rounding) m) (cut2-found (all_records rule (mode_of rounding) m) (list_fields Cut2 (mode_of rounding) m)) in
      let known : number_of (mode_of rounding) ≡ rounding = number-back rounding (rounding-asked rounding m (length before) asked) in
      subst (λ (n : ℕ). ReadBack rule (Some (record { 0 = n })) rounding m (take (answer_of reply) after)) known
      (rw written (read_all Cut2 rule rounding m found a))

  -- and cannot be taken for CUT1: 16 bytes from its end those letters do not stand
  pub never-cut1 : ends_in Cut1 (take (answer_of reply) after) ≡ false
  never-cut1 = rw (written, list-parts Cut2 rule (mode_of rounding) m) (cut2-not-cut1 (all_records rule (mode_of rounding) m) (list_fields Cut2 (mode_of rounding) m))

-- ---- what was written before

-- document 01's list of a map that the list call accepts is read, every number kept, its rounding unknown
pub cut1-read-back : (rounding : ℕ) (m : List ℕ) (room : ℕ) → list_refusal rounding m room ≡ 0
    → ReadBack Touching None rounding m (list_of Cut1 Touching (mode_of rounding) m)
cut1-read-back rounding m room e =
    read_all Cut1 Touching rounding m
    (rw (list-parts Cut1 Touching (mode_of rounding) m) (cut1-found (all_records Touching (mode_of rounding) m) (list_fields Cut1 (mode_of rounding) m)))
    (accepted-of m room (map-asked rounding m room e))

-- and so are any bytes that end in CUT1, whoever wrote them
pub cut1-read : (b : List ℕ) (index : ℕ) → ends_in Cut1 b ≡ true → record_refusal b index ≡ 0
    → record_call b index
    ≡ Ok (record {
      rounding = None;
      width = (last_fields Cut1 b).width;
      depth = (last_fields Cut1 b).depth;
      step = (last_fields Cut1 b).step;
      radius = (last_fields Cut1 b).radius;
      x = entry_at b index 0;
      y = entry_at b index 1;
      z = entry_at b index 2;
    })
cut1-read b index e z = ap in_types (record-accepted b index z) ∙ rw (sym (kind-first b true (sym e) refl)) refl
