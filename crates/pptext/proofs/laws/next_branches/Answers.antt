use Rattle.pptext.proofs.NextBranchFacts.{next_branches}
use Rattle.pptext.proofs.laws.next_branches.Goals as goal

pub returns : goal.returns
returns c = next_branches
