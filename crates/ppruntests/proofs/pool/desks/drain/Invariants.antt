use Rattle.std.proofs.Common.{◌≡◌, ◌-◌}
use Rattle.pppool.proofs.SeatJoining.{next_claim}
use Rattle.ppruntests.proofs.pool.desks.drain.Given as goal

abbrev pub invariant-loop-count : goal.invariant-loop-count
invariant-loop-count l = l.seat.desk ≡ l.desk

abbrev pub decreases-loop-count : goal.decreases-loop-count
decreases-loop-count l = l.desk.plan.blocks - next_claim l.seat.claims
