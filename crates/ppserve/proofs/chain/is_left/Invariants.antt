use Rattle.std.proofs.Common.{◌≡◌, ◌+◌, ◌<◌, ◌^◌, Some, length}
use Rattle.ppunit.specs.BorrowedItems.{marks}
use Rattle.ppunit.specs.Chain.{leaves}
use Rattle.ppserve.proofs.chain.is_left.Given as goal

abbrev pub invariant-loop-slice : goal.invariant-loop-slice
invariant-loop-slice l = record {
  same : leaves (Some l.depth) l.rest ≡ leaves (Some 0) l.fn.items;
  few : l.depth + marks l.rest < 2 ^ 64;
}

abbrev pub decreases-loop-slice : goal.decreases-loop-slice
decreases-loop-slice l = length l.rest
