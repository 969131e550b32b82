use Rattle.std.proofs.Common.{◌≡◌, drop}
use Rattle.std.specs.Cmp.Lexicographic.{pointwise}
use Rattle.ppmacro.specs.Define.{same_token}
use Rattle.ppmacro.proofs.defining.redefinition.same_tokens.Given as goal

abbrev pub invariant-loop-i : goal.invariant-loop-i
invariant-loop-i l = pointwise same_token (drop l.i l.left) (drop l.i l.right) ≡ pointwise same_token l.left l.right
