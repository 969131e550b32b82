use Rattle.ppprint.proofs.ShownItems.{shows_well_spelled}
use Rattle.ppprint.proofs.laws.shows_well_spelled.Goals as goal

pub returns : goal.returns
returns c = shows_well_spelled
