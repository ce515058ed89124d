-- `maps::Map::fits` meets its contract: the length that the sizes tell is the list's. Assumes nothing.
use Rattle.maps.proofs.Questions.{eleven, fits}
use Rattle.maps.proofs.Map.fits.Goals as goal

pub returns-then-room-records_length : goal.returns-then-room-records_length
returns-then-room-records_length c = search eleven

pub returns : goal.returns
returns c = search fits
