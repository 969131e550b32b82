use Rattle.std.proofs.Common.{◌≡◌}
use Rattle.ppruntests.proofs.pool.callers.all_in_turn.Given as goal

abbrev pub invariant-loop-unit : goal.invariant-loop-unit
invariant-loop-unit l = l.pass.shelf ≡ l.shelf
