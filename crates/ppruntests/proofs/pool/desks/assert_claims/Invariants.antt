use Rattle.std.proofs.Common.{◌≡◌, All}
use Rattle.ppruntests.proofs.pool.desks.assert_claims.Given as goal

abbrev pub invariant-loop-place : goal.invariant-loop-place
invariant-loop-place g l = All (λ s. s.desk ≡ l.desk) l.seats.items
