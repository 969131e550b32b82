use Rattle.pptext.proofs.Guards.{one_guard}
use Rattle.pptext.proofs.laws.one_guard.Goals as goal

pub returns : goal.returns
returns c = one_guard
