use Rattle.pppool.proofs.SlotFilling.{list_grows}
use Rattle.pppool.proofs.laws.list_growth.Goals as goal

pub returns : goal.returns
returns c = list_grows c.growth.ensures
