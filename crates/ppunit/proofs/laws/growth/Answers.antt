use Rattle.ppunit.proofs.laws.growth.Goals as goal
use Rattle.ppunit.proofs.LargerFileSets.{unit_grows}

pub returns : goal.returns
returns c = unit_grows
