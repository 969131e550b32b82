use Rattle.ppexpand.proofs.HidingPrefixes.{leads_step, one_more_name}
use Rattle.ppexpand.proofs.Termination as fronts
use Rattle.ppexpand.proofs.laws.prefixes_terminate.Goals as goal

pub returns-clause-steps : goal.returns-clause-steps
returns-clause-steps c = λ macros env level meter meter_after list next step. leads_step macros env level step

pub returns-clause-names : goal.returns-clause-names
returns-clause-names c = one_more_name

pub returns-clause-fewer : goal.returns-clause-fewer
returns-clause-fewer c = fronts.fewer_left

pub returns-clause-prefixes : goal.returns-clause-prefixes
returns-clause-prefixes c = fronts.prefixes_terminate

pub returns-clause-lists : goal.returns-clause-lists
returns-clause-lists c = fronts.all_end
