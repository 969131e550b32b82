use Rattle.std.proofs.Common.{arith}
use Rattle.std.proofs.lemmas.Grind.{common_steps}
use Rattle.ppshelf.proofs.dir_disk.path_in_directory.Goals as goal

pub returns : goal.returns
returns c = grind (arith, common_steps)
