-- What is known of a list once its questions are answered "yes". Assumes nothing.
use Rattle.std.specs.Prelude.{◌+◌, ◌*◌, ◌≤◌, ℕ, ◌≡◌, List, length}
use Rattle.trailer.specs.Kinds.{length_of}
use Rattle.trailer.specs.Bytes.{list_kind}
use Rattle.cutter.specs.Accepted.{Trailed}
use Rattle.reader.specs.Reader.{list_trailer, records_of}

-- its trailer is in order, stands behind twelve bytes a record, and its rounding, 0 in a kind that has none, is one of the four
pub record Sound (b : List ℕ) : Type 0 where
  pub trailed : Trailed (list_kind b) b
  pub long : length b ≡ 12 * records_of b + length_of (list_kind b)
  pub rounding : (list_trailer b).rounding ≤ 3
