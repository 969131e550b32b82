use Rattle.std.proofs.Common.{◌≡◌}
use Rattle.ppshelftests.proofs.shelf.again.assert_looks_again.Given as goal

abbrev pub invariant-loop-row : goal.invariant-loop-row
invariant-loop-row g l = l.pass.shelf ≡ l.shelf
