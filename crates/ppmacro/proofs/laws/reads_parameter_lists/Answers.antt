use Rattle.ppmacro.proofs.ParameterListSyntax.{heads}
use Rattle.ppmacro.proofs.laws.reads_parameter_lists.Goals as goal

pub returns : goal.returns
returns c = heads
