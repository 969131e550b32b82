use Rattle.ppexpand.proofs.OutcomeExistence.{total}
use Rattle.ppexpand.proofs.StepBounds.{ends_within}
use Rattle.ppexpand.proofs.laws.expansion_terminates.Goals as goal

pub returns : goal.returns
returns c = λ macros env level meter list. ((total macros env level meter list).0, ends_within macros env level meter list)
