use Rattle.pppool.proofs.SeatJoining.{nearer}
use Rattle.ppruntests.proofs.pool.desks.drain.Goals as goal

pub loop-count-smaller : goal.loop-count-smaller
loop-count-smaller c =
    let e = c.in-Some.ensures.some in
    nearer c.loop-count.seat.claims c.claim.new.seat.claims c.in-Some.field-0 c.args.desk.now.plan.blocks e.2 e.1 e.3
