use Rattle.std.proofs.Common.{◌≡◌}
use Rattle.ppshelftests.proofs.shelf.looking.all_looked_at.Given as goal

abbrev pub invariant-loop-row : goal.invariant-loop-row
invariant-loop-row l = l.pass.shelf ≡ l.shelf
