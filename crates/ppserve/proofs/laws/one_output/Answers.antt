use Rattle.ppserve.proofs.OutputUniqueness as output
use Rattle.ppserve.proofs.laws.one_output.Goals as goal

pub returns-clause-files : goal.returns-clause-files
returns-clause-files g c = output.one_output c.one_value.ensures c.list_growth.ensures _

pub returns-clause-contents : goal.returns-clause-contents
returns-clause-contents g c = output.one_output_of_contents c.one_value.ensures c.list_growth.ensures
