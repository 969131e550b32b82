use Rattle.ppserve.proofs.OutputUniqueness as output
use Rattle.ppserve.proofs.laws.some_output.Goals as goal

pub returns : goal.returns
returns c = output.some_output c.some_values.ensures
