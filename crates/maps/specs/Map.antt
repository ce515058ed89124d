-- The trailer of a map that is accepted, or why it is refused. Assumes nothing.
use Rattle.std.specs.Prelude.{Result, Ok, Err}
use Rattle.kinds.specs.declared.Refusal.{Refusal}
use Rattle.trailer.specs.declared.Fields.{Fields}
use Rattle.maps.specs.declared.Map.{Map}

abbrev pub trailer_in : Result Map Refusal → Result Fields Refusal
trailer_in (Ok m) = Ok m.trailer
trailer_in (Err e) = Err e
