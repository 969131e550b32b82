use Rattle.pppool.proofs.ValueUniqueness.{some_list}
use Rattle.pppool.proofs.laws.some_values.Goals as goal

pub returns : goal.returns
returns c = some_list c.some_value.ensures
