use Rattle.ppexpand.proofs.OutcomeExistence.{total}
use Rattle.ppexpand.proofs.OutcomeUniqueness.{same_outcome}
use Rattle.ppexpand.proofs.laws.one_outcome.Goals as goal

pub returns : goal.returns
returns c = λ macros env level meter list.
    let one = total macros env level meter list in
    record { outcome = one.1; is = (one.0, one.2); only = λ other d. (same_outcome macros env d.1 one.0 one.1 one.2).1 }
