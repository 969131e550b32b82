use Rattle.std.proofs.Common.{◌≡◌}
use Rattle.pptests.proofs.units.assert_given.Given as goal

abbrev pub invariant-loop-unit : goal.invariant-loop-unit
invariant-loop-unit g l = l.pass.shelf ≡ l.shelf
