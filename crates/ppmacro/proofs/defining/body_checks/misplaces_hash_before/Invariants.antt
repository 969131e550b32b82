use Rattle.std.proofs.Common.{◌≡◌, drop}
use Rattle.ppmacro.specs.Define.{misplaces_hash}
use Rattle.ppmacro.proofs.defining.body_checks.misplaces_hash_before.Given as goal

abbrev pub invariant-loop-i : goal.invariant-loop-i
invariant-loop-i l = misplaces_hash l.kind.kind (drop l.i l.body) ≡ misplaces_hash l.kind.kind l.body
