use Rattle.ppshelf.proofs.Events.{callers_agree}
use Rattle.ppshelf.proofs.laws.callers_agree.Goals as goal

pub returns : goal.returns
returns c = callers_agree
