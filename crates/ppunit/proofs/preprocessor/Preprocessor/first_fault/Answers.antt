use Rattle.ppunit.proofs.preprocessor.Preprocessor.first_fault.Goals as goal

pub returns-in-Ok-clause-translated : goal.returns-in-Ok-clause-translated
returns-in-Ok-clause-translated g c = rw c.in-Ok.is at c.translate.ensures.translated

pub returns-in-Err-Fault-clause-translated : goal.returns-in-Err-Fault-clause-translated
returns-in-Err-Fault-clause-translated g c =
    rw c.into_fault.ensures (rw c.in-Err-Fault.field-0-is at (rw c.in-Err-Fault.is at c.translate.ensures.translated))
