use Rattle.std.proofs.Common.{length}
use Rattle.ppexpand.proofs.vec_pool.VecPool.keep_arguments.Given as goal

abbrev pub invariant-loop-list : goal.invariant-loop-list
invariant-loop-list l = Unit {0}

abbrev pub decreases-loop-list : goal.decreases-loop-list
decreases-loop-list l = length l.arguments.items
