use Rattle.pptext.proofs.Trees.{tree_exactly}
use Rattle.pptext.proofs.laws.tree_unless_fault.Goals as goal

pub returns : goal.returns
returns c = tree_exactly
