use Rattle.std.proofs.Common.{length}
use Rattle.ppexpr.specs.code.DefinedOnly.{BeginsTruth}
use Rattle.ppexpr.proofs.defined_only.conjunction.Given as goal

abbrev pub invariant-loop-next : goal.invariant-loop-next
invariant-loop-next l = BeginsTruth l.table.macros 3 l.tokens l.holds l.rest

abbrev pub decreases-loop-next : goal.decreases-loop-next
decreases-loop-next l = length l.rest
