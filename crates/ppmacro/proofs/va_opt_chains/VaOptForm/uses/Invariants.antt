use Rattle.std.proofs.Common.{◌≡◌, map, take}
use Rattle.std.specs.List.{flat_map}
use Rattle.ppmacro.specs.PreExpansion.{own_use, uses_of_chain, after_own}
use Rattle.ppmacro.specs.code.KeptChains.{chains_at}
use Rattle.ppmacro.specs.code.VaOptLists.{arguments_at}
use Rattle.ppmacro.proofs.va_opt_chains.VaOptForm.uses.Given as goal

abbrev pub invariant-loop-chain : goal.invariant-loop-chain
invariant-loop-chain l = l.uses.items
    ≡ map (own_use l.self.parameters) (flat_map (uses_of_chain (after_own l.self.parameters (arguments_at l.body l.self.contents.items))) (chains_at l.body (take l.chain-index l.chain-items)))
