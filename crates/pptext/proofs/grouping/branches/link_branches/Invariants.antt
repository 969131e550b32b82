use Rattle.std.proofs.Common.{reverse}
use Rattle.pptext.proofs.NextBranchFacts.{LinkedFrom}
use Rattle.pptext.proofs.grouping.branches.link_branches.Given as goal

abbrev pub invariant-loop-at : goal.invariant-loop-at
invariant-loop-at l = LinkedFrom l.initial.lines l.at l.lines (reverse l.open_branches.items)
