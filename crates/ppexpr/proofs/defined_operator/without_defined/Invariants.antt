use Rattle.std.proofs.Common.{length}
use Rattle.ppexpr.proofs.DefinedReplacement.{Follows}
use Rattle.ppexpr.proofs.defined_operator.without_defined.Given as goal

abbrev pub invariant-loop-first : goal.invariant-loop-first
invariant-loop-first l = Follows l.table.macros l.tokens l.without_defined l.rest

abbrev pub decreases-loop-first : goal.decreases-loop-first
decreases-loop-first l = length l.rest
