use Rattle.ppexpand.proofs.Invocations.{finds}
use Rattle.ppexpand.proofs.laws.finds_arguments.Goals as goal

pub returns : goal.returns
returns c = finds
