use Rattle.std.proofs.Common.{reverse}
use Rattle.pptext.proofs.Faults.{FaultsSoFar}
use Rattle.pptext.proofs.grouping.faults.first_fault.Given as goal

abbrev pub invariant-loop-at : goal.invariant-loop-at
invariant-loop-at l = FaultsSoFar l.tokens l.lines l.at (reverse l.open_sections.items)
