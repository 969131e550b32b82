use Rattle.std.proofs.Common.{◌≡◌, ◌++◌, drop}
use Rattle.ppunit.specs.Unit.{command_text}
use Rattle.ppunit.proofs.command_macros.command_text.Given as goal

abbrev pub invariant-loop-definition : goal.invariant-loop-definition
invariant-loop-definition l = l.text.items ++ command_text (drop l.definition-index l.definition-items) ≡ command_text l.defines
