use Rattle.std.proofs.Common.{length}
use Rattle.ppexpand.proofs.vec_pool.VecPool.keep_expansions.Given as goal

abbrev pub invariant-loop-expansion : goal.invariant-loop-expansion
invariant-loop-expansion l = Unit {0}

abbrev pub decreases-loop-expansion : goal.decreases-loop-expansion
decreases-loop-expansion l = length l.expansions.items
