use Rattle.std.proofs.Common.{arith}
use Rattle.std.proofs.lemmas.Grind.{common_steps}
use Rattle.ppexpr.proofs.parsing.reduce.Goals as goal

pub returns-clause-stay : goal.returns-clause-stay
returns-clause-stay c = grind (arith, common_steps)
