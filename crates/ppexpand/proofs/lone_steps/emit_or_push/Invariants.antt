use Rattle.std.proofs.Common.{◌++◌, map, length}
use Rattle.ppexpand.specs.code.Lists.{placed}
use Rattle.ppexpand.specs.code.Skipping.{HasSkipped}
use Rattle.ppexpand.proofs.lone_steps.emit_or_push.Given as goal

abbrev pub invariant-loop-first : goal.invariant-loop-first
invariant-loop-first l =
    HasSkipped l.table.macros (map (placed l.names_to_hide l.used) l.body ++ l.initial.list) l.initial.emitted (map (placed l.names_to_hide l.used) l.rest ++ l.list) l.emitted

abbrev pub decreases-loop-first : goal.decreases-loop-first
decreases-loop-first l = length l.rest
