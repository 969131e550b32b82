use Rattle.std.proofs.Common.{arith}
use Rattle.std.proofs.lemmas.Grind.{common_steps}
use Rattle.ppunit.proofs.include_stack.Stack.depth.Goals as goal

pub returns : goal.returns
returns c = grind (arith, common_steps)
