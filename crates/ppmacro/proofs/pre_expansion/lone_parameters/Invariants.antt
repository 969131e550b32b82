use Rattle.std.proofs.Common.{◌≡◌, map, take}
use Rattle.ppmacro.specs.code.KeptChains.{lone_parameter_at}
use Rattle.ppmacro.proofs.pre_expansion.lone_parameters.Given as goal

abbrev pub invariant-loop-chain : goal.invariant-loop-chain
invariant-loop-chain l = l.uses.items ≡ map (lone_parameter_at l.body) (take l.chain-index l.chains)
