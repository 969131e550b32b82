use Rattle.std.proofs.Common.{◌≡◌, ◌++◌, map, take}
use Rattle.ppmacro.specs.PreExpansion.{lone_parameters, own_use}
use Rattle.ppmacro.specs.code.KeptChains.{chains_at}
use Rattle.ppmacro.proofs.va_opt_chains.VaOptForm.push_content_uses.Given as goal

abbrev pub invariant-loop-chain : goal.invariant-loop-chain
invariant-loop-chain l = l.uses.items ≡ l.initial.uses.items ++ map (own_use l.self.parameters) (lone_parameters (chains_at l.body (take l.chain-index l.content)))
