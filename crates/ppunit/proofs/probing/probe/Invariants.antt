use Rattle.std.proofs.Common.{length}
use Rattle.ppunit.specs.DirectiveLines.{operands}
use Rattle.ppunit.specs.code.Contexts.{search_in_unit}
use Rattle.ppunit.proofs.HasIncludeNumbers.{ProbesSoFar}
use Rattle.ppunit.proofs.probing.probe.Given as goal

abbrev pub invariant-loop-first : goal.invariant-loop-first
invariant-loop-first g l = ProbesSoFar (search_in_unit l.context) l.row l.line l.fn.state (operands l.line) l.probed.items l.state l.rest

abbrev pub decreases-loop-first : goal.decreases-loop-first
decreases-loop-first g l = length l.rest
