use Rattle.ppexpr.proofs.TreeUniqueness.{same_tree}
use Rattle.ppexpr.proofs.laws.one_tree.Goals as goal

pub returns : goal.returns
returns c = same_tree
