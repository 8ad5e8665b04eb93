use Rattle.fault_places.proofs.OnePlace.{one_place_of}
use Rattle.fault_places.proofs.laws.one_place.Goals as goal

pub returns : goal.returns
returns c = one_place_of c.one_spelling.ensures
