use Rattle.std.proofs.Common.{rules}
use Rattle.ppmacro.proofs.chains.next_part.Goals as goal

pub returns : goal.returns
returns c = search rules
