use Rattle.std.proofs.Common.{arith}
use Rattle.std.proofs.lemmas.Grind.{common_steps}
use Rattle.ppexpr.proofs.parsing.Parser.read_after_operand.Goals as goal

pub returns : goal.returns
returns c = grind (arith, common_steps)
