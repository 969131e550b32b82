use Rattle.std.proofs.Common.{arith}
use Rattle.std.proofs.lemmas.Grind.{common_steps}
use Rattle.ppunit.proofs.include_stack.Stack.enter.Goals as goal

pub returns-clause-suspended : goal.returns-clause-suspended
returns-clause-suspended c = grind (arith, common_steps)

pub returns-clause-file : goal.returns-clause-file
returns-clause-file c = grind (arith, common_steps)
