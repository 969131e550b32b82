use Rattle.std.proofs.Common.{◌-◌, length}
use Rattle.ppunit.proofs.SectionWalks.{SectionSoFar}
use Rattle.ppunit.proofs.line_walk.section_end.Given as goal

abbrev pub invariant-loop-next : goal.invariant-loop-next
invariant-loop-next l = SectionSoFar l.source l.fn.branch l.index

abbrev pub decreases-loop-next : goal.decreases-loop-next
decreases-loop-next l = length l.source - l.index
