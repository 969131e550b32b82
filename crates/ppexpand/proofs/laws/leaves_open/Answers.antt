use Rattle.ppexpand.proofs.OpenLists.{leaves, leaves_same}
use Rattle.ppexpand.proofs.laws.leaves_open.Goals as goal

pub returns-clause-is : goal.returns-clause-is
returns-clause-is c = leaves

pub returns-clause-one : goal.returns-clause-one
returns-clause-one c = leaves_same
