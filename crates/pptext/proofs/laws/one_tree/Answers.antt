use Rattle.pptext.proofs.Trees.{at_most_one}
use Rattle.pptext.proofs.laws.one_tree.Goals as goal

pub returns : goal.returns
returns c = at_most_one
