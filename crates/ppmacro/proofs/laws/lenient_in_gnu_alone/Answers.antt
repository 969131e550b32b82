use Rattle.ppmacro.proofs.AbsentArguments.{strict, pasted}
use Rattle.ppmacro.proofs.laws.lenient_in_gnu_alone.Goals as goal

pub returns-clause-strict : goal.returns-clause-strict
returns-clause-strict c = strict

pub returns-clause-pasted : goal.returns-clause-pasted
returns-clause-pasted c = pasted
