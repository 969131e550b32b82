use Rattle.std.proofs.Common.{◌≡◌, ◌++◌, length}
use Rattle.ppexpand.proofs.scratch.copy_slice.Given as goal

abbrev pub invariant-loop-token : goal.invariant-loop-token
invariant-loop-token l = l.tokens.items ++ l.slice ≡ l.initial.tokens.items ++ l.initial.slice

abbrev pub decreases-loop-token : goal.decreases-loop-token
decreases-loop-token l = length l.slice
