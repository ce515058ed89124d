-- What the record call gives back. Assumes nothing.
use Rattle.std.specs.Prelude.{ℕ, Bool, true, false, cond, List, eqb, pos, Option, Some, None, Result, Ok, Err}
use Rattle.kinds.specs.declared.Mode.{Mode}
use Rattle.kinds.specs.declared.Refusal.{Refusal}
use Rattle.kinds.specs.Rounding.{number_of}
use Rattle.kinds.specs.Refusal.{refusal_of, then}
use Rattle.trailer.specs.Kinds.{is_rounded}
use Rattle.trailer.specs.Bytes.{list_kind}
use Rattle.cutter.specs.List.{entry_at}
use Rattle.reader.specs.declared.Record.{Record}
use Rattle.reader.specs.Reader.{list_trailer, record_refusal}
use Rattle.reader.specs.Record.{record_asked}
use Rattle.plate.specs.declared.Rounding.{Rounding}
use Rattle.plate.specs.declared.ListRecord.{ListRecord}
use Rattle.plate.specs.declared.c.CRecordReply.{CRecordReply}

-- a rounding by its number
abbrev pub list_rounding : Option Mode → Option Rounding
list_rounding (Some mode) = Some (record { 0 = number_of mode })
list_rounding None = None

-- a record in the types that users name
abbrev pub list_record : Record → ListRecord
list_record r =
    record {
      rounding = list_rounding r.rounding;
      width = r.width;
      depth = r.depth;
      step = r.step;
      radius = r.radius;
      x = r.x;
      y = r.y;
      z = r.z;
    }

-- what the call gives: the first question answered "no", or rounding, sizes and record
abbrev pub record_call : List ℕ → ℕ → Result ListRecord Refusal
record_call b index = then (record_asked b index) (λ r. Ok (list_record r))

-- ---- the same in numbers

-- the rounding with the number that a trailer states, or, where it states none, unknown
abbrev pub rounding_stated : Bool → ℕ → Option Rounding
rounding_stated true n = Some (record { 0 = n })
rounding_stated false n = None

-- the rounding and the four sizes of the trailer, and the record's x, y and z as signed numbers
abbrev pub record_read : List ℕ → ℕ → ListRecord
record_read b index =
    record {
      rounding = rounding_stated (is_rounded (list_kind b)) (list_trailer b).rounding;
      width = (list_trailer b).width;
      depth = (list_trailer b).depth;
      step = (list_trailer b).step;
      radius = (list_trailer b).radius;
      x = entry_at b index 0;
      y = entry_at b index 1;
      z = entry_at b index 2;
    }

-- after a "no" the rounding is unknown, and 0 stands in every other place
abbrev pub no_record : ListRecord
no_record = record { rounding = None; width = 0; depth = 0; step = 0; radius = 0; x = pos 0; y = pos 0; z = pos 0 }

-- the numbers of a reply, and those that the call gives
abbrev pub told_of : Result ListRecord Refusal → ListRecord
told_of (Ok r) = r
told_of (Err e) = no_record

abbrev pub record_told : List ℕ → ℕ → ListRecord
record_told b index = cond (eqb (record_refusal b index) 0) (record_read b index) no_record

-- for C, which can be handed no cases: the rounding's number, and 255 where it is unknown
abbrev pub rounding_number : Option Rounding → ℕ
rounding_number None = 255
rounding_number (Some rounding) = rounding.0

-- and the reply with that number
abbrev pub numbers_for_c : ℕ → ListRecord → CRecordReply
numbers_for_c refusal r =
    record {
      refusal = refusal;
      rounding = rounding_number r.rounding;
      width = r.width;
      depth = r.depth;
      step = r.step;
      radius = r.radius;
      x = r.x;
      y = r.y;
      z = r.z;
    }

abbrev pub record_for_c : Result ListRecord Refusal → CRecordReply
record_for_c r = numbers_for_c (refusal_of r) (told_of r)
