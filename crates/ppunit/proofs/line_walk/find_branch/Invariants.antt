use Rattle.std.proofs.Common.{◌-◌, length}
use Rattle.ppunit.specs.code.Contexts.{search_in_unit}
use Rattle.ppunit.proofs.SectionWalks.{BranchSoFar}
use Rattle.ppunit.proofs.line_walk.find_branch.Given as goal

abbrev pub invariant-loop-next : goal.invariant-loop-next
invariant-loop-next g l = BranchSoFar (search_in_unit l.context) l.row l.source l.fn.start l.fn.state l.state l.index

abbrev pub decreases-loop-next : goal.decreases-loop-next
decreases-loop-next g l = length l.source - l.index
