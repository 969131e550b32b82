use Rattle.std.proofs.Common.{rules}
use Rattle.ppunit.proofs.states.State.initial.Goals as goal

pub returns : goal.returns
returns c = search rules
