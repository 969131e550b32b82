use Rattle.ppserve.proofs.DraftShape.{decides}
use Rattle.ppserve.proofs.laws.shape_decides.Goals as goal

pub returns : goal.returns
returns c = decides
