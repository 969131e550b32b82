use Rattle.std.proofs.Common.{◌≡◌, ◌++◌, map, take}
use Rattle.ppmacro.specs.Chains.{parameter_of}
use Rattle.ppmacro.proofs.definition.push_uses.Given as goal

abbrev pub invariant-loop-token : goal.invariant-loop-token
invariant-loop-token l = l.uses.items ≡ l.initial.uses.items ++ map (parameter_of l.parameters.kind) (take l.token-index l.tokens)
