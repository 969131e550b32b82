use Rattle.std.proofs.Common.{length}
use Rattle.ppexpand.specs.code.Skipping.{HasSkipped}
use Rattle.ppexpand.proofs.expansion.emit_pushed.Given as goal

abbrev pub invariant-loop-hidden : goal.invariant-loop-hidden
invariant-loop-hidden l = HasSkipped l.table.macros l.initial.list l.initial.emitted l.list l.emitted

abbrev pub decreases-loop-hidden : goal.decreases-loop-hidden
decreases-loop-hidden l = length l.list
