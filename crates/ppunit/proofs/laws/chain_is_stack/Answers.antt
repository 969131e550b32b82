use Rattle.ppunit.proofs.laws.chain_is_stack.Goals as goal
use Rattle.ppunit.proofs.IncludeChains.{chain_is_stack}

pub returns : goal.returns
returns c = chain_is_stack
