use Rattle.ppshelf.proofs.Events.{observed_stays}
use Rattle.ppshelf.proofs.laws.observed_stays.Goals as goal

pub returns : goal.returns
returns c = observed_stays
