-- Reading a list back: the questions that its bytes are asked, and then an index. Assumes nothing.
use Rattle.std.specs.Prelude.{ℕ, ◌*◌, List, ltb, length}
use Rattle.kinds.specs.Question.{ask, then_ask}
use Rattle.kinds.specs.Rounding.{is_rounding}
use Rattle.trailer.specs.Bytes.{last_fields, list_kind}
use Rattle.trailer.specs.declared.Fields.{Fields}
use Rattle.cutter.specs.List.{count_of}
use Rattle.cutter.specs.Sizes.{trailer_refusal, is_whole}

-- the trailer, of the kind that is found, is what a list ends in
abbrev pub list_trailer : List ℕ → Fields
list_trailer b = last_fields (list_kind b) b

-- how many records a list has, by its w and d
abbrev pub records_of : List ℕ → ℕ
records_of b = count_of (list_trailer b).width (list_trailer b).depth

-- the number of the first question about the bytes that is answered "no", or 0: the trailer's, 12 being that of the letters CUT1 and CUT2;
-- then 13, twelve bytes a record; then 2, of the rounding that the trailer states
unfoldable pub reader_refusal : List ℕ → ℕ
reader_refusal b =
    then_ask (trailer_refusal (list_kind b) 12 b)
    (ask (is_whole (list_kind b) (12 * records_of b) (list_trailer b).distance (length b)) 13
    (ask (is_rounding (list_trailer b).rounding) 2
    0))

-- the same, and then 14: is the index, counted from 0, below the number of records?
unfoldable pub record_refusal : List ℕ → ℕ → ℕ
record_refusal b index = then_ask (reader_refusal b) (ask (ltb index (records_of b)) 14 0)
