use Rattle.std.proofs.Common.{◌≡◌, ◌++◌, drop}
use Rattle.ppunit.specs.Directives as spec
use Rattle.ppunit.proofs.OperandTexts.{probe_result}
use Rattle.ppunit.proofs.directives.message.Given as goal

abbrev pub invariant-loop-token : goal.invariant-loop-token
invariant-loop-token l = l.text.items ++ probe_result l.first (drop l.token-index l.tokens) ≡ spec.message l.tokens
