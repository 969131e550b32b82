use Rattle.std.proofs.Common.{◌≡◌, ◌++◌, length}
use Rattle.ppexpand.proofs.scratch.copy_slices.Given as goal

abbrev pub invariant-loop-slice : goal.invariant-loop-slice
invariant-loop-slice l = l.tokens.items ++ l.slices ≡ l.initial.tokens.items ++ l.initial.slices

abbrev pub decreases-loop-slice : goal.decreases-loop-slice
decreases-loop-slice l = length l.slices
