use Rattle.std.proofs.Common.{◌≡◌, length}
use Rattle.ppunit.specs.Chain.{open_places}
use Rattle.ppserve.proofs.chain.next_open.Given as goal

abbrev pub invariant-loop-slice : goal.invariant-loop-slice
invariant-loop-slice l = open_places l.rest ≡ open_places l.fn.rest

abbrev pub decreases-loop-slice : goal.decreases-loop-slice
decreases-loop-slice l = length l.rest
