use Rattle.std.proofs.Common.{◌≡◌, ◌==◌, drop, true}
use Rattle.ppunit.specs.Including as spec
use Rattle.ppunit.proofs.OperandTexts.{named}
use Rattle.ppunit.proofs.including.angle_name.Given as goal

abbrev pub invariant-loop-index : goal.invariant-loop-index
invariant-loop-index l = spec.prefixed l.name.items (named (l.index == 0) (drop l.index l.tokens)) ≡ named true l.tokens
