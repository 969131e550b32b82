use Rattle.ppmacro.proofs.ChainSplits.{lays_out, only_chains}
use Rattle.ppmacro.proofs.OperatorPlacement as placed
use Rattle.ppmacro.proofs.laws.lays_out_chains.Goals as goal

pub returns-clause-laid_out : goal.returns-clause-laid_out
returns-clause-laid_out c = lays_out

pub returns-clause-only : goal.returns-clause-only
returns-clause-only c = only_chains

pub returns-clause-exactly : goal.returns-clause-exactly
returns-clause-exactly c = placed.exactly
