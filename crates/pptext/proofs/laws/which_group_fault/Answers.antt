use Rattle.pptext.proofs.GroupFaults.{which_group_fault}
use Rattle.pptext.proofs.laws.which_group_fault.Goals as goal

pub returns : goal.returns
returns c = which_group_fault
