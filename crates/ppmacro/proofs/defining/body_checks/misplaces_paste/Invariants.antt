use Rattle.std.proofs.Common.{◌≡◌, drop, true}
use Rattle.ppmacro.specs.Define.{misplaces_paste}
use Rattle.ppmacro.proofs.defining.body_checks.misplaces_paste.Given as goal

abbrev pub invariant-loop-i : goal.invariant-loop-i
invariant-loop-i l = misplaces_paste l.bare (drop l.i l.body) ≡ misplaces_paste true l.body
