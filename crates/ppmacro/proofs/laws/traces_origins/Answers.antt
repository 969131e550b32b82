use Rattle.ppmacro.proofs.TokenOrigins.{chain_each, replaced_each, waits_behind}
use Rattle.ppmacro.proofs.laws.traces_origins.Goals as goal

pub returns-clause-replaces : goal.returns-clause-replaces
returns-clause-replaces c = λ chains args added used space whole e. replaced_each args added used space chains whole e

pub returns-clause-is_pending : goal.returns-clause-is_pending
returns-clause-is_pending c = λ chains args added used space whole e. waits_behind args added used space chains whole e

pub returns-clause-comes_from : goal.returns-clause-comes_from
returns-clause-comes_from c = chain_each
