use Rattle.std.proofs.Common.{arith}
use Rattle.std.proofs.lemmas.Grind.{common_steps}
use Rattle.pptext.proofs.grouping.guards.ends_file.Goals as goal

pub returns-in-Closes : goal.returns-in-Closes
returns-in-Closes c = grind (arith, common_steps)
