use Rattle.std.proofs.Common.{◌≡◌}
use Rattle.ppshelftests.proofs.shelf.assert_rows.Given as goal

abbrev pub invariant-loop-case : goal.invariant-loop-case
invariant-loop-case g l = l.pass.shelf ≡ l.shelf
