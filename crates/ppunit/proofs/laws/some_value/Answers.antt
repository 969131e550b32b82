use Rattle.ppunit.proofs.UnitExistence.{some_unit}
use Rattle.ppunit.proofs.laws.some_value.Goals as goal

pub returns : goal.returns
returns c =
    some_unit (λ m e meter ts. let one = c.one_expansion.ensures m e meter ts in (one.expansion, one.is)) c.some_condition.ensures c.some_reading.ensures
    (λ lines none. (c.tree_unless_fault.ensures lines).0 none) c.some_row.ensures
