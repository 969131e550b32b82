use Rattle.std.proofs.Common.{◌≡◌, ◌++◌, map, length}
use Rattle.ppexpand.specs.code.Lists.{placed}
use Rattle.ppexpand.proofs.lone_steps.push_replacement.Given as goal

abbrev pub invariant-loop-last : goal.invariant-loop-last
invariant-loop-last l = map (placed l.names_to_hide l.used) l.rest ++ l.list ≡ map (placed l.names_to_hide l.used) l.body ++ l.initial.list

abbrev pub decreases-loop-last : goal.decreases-loop-last
decreases-loop-last l = length l.rest
