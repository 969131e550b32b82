use Rattle.std.proofs.Common.{◌≡◌, All}
use Rattle.ppruntests.proofs.pool.desks.counted.Given as goal

abbrev pub invariant-loop-seat : goal.invariant-loop-seat
invariant-loop-seat l = All (λ s. s.desk ≡ l.fn.desk) l.seats.items
