-- What the record call gives back. Assumes nothing.
use Rattle.std.specs.Prelude.{ℕ, ◌*◌, List, ltb, length, Result}
use Rattle.std.specs.Bool.{then_some}
use Rattle.kinds.specs.declared.Mode.{Mode}
use Rattle.kinds.specs.declared.Refusal.{Refusal}
use Rattle.kinds.specs.declared.Refusal.TheVariants as R
use Rattle.kinds.specs.Refusal.{asked, then, rounding_asked}
use Rattle.trailer.specs.Kinds.{is_rounded}
use Rattle.trailer.specs.Bytes.{list_kind}
use Rattle.trailer.specs.declared.Fields.{Fields}
use Rattle.cutter.specs.List.{count_of, entry_at}
use Rattle.cutter.specs.Sizes.{trailer_asked, is_whole}
use Rattle.reader.specs.declared.Record.{Record}

-- the rounding, where the list's kind states one, the four sizes of the trailer, and the record's x, y and z as signed numbers
abbrev pub record_at : List ℕ → Fields → Mode → ℕ → Record
record_at b t mode index =
    record {
      rounding = then_some (is_rounded (list_kind b)) mode;
      width = t.width;
      depth = t.depth;
      step = t.step;
      radius = t.radius;
      x = entry_at b index 0;
      y = entry_at b index 1;
      z = entry_at b index 2;
    }

-- the questions in the order of `record_refusal`: the first that is answered "no" refuses, and where none is the record is given
abbrev pub record_asked : List ℕ → ℕ → Result Record Refusal
record_asked b index =
    then (trailer_asked (list_kind b) b) (λ t.
    then (asked (is_whole (list_kind b) (12 * count_of t.width t.depth) t.distance (length b)) R.ListDistance t) (λ t.
    then (rounding_asked t.rounding) (λ mode.
    asked (ltb index (count_of t.width t.depth)) R.Index (record_at b t mode index))))
