use Rattle.std.proofs.Common.{◌≡◌, ◌++◌, map, take, drop, Some}
use Rattle.ppmacro.specs.Chains.{with_variadic}
use Rattle.ppmacro.specs.code.KeptChains.{chains_at}
use Rattle.ppmacro.proofs.chains.end_in_variadic.Given as goal

abbrev pub invariant-loop-chain : goal.invariant-loop-chain
invariant-loop-chain l =
    chains_at l.body l.chains ≡ map (with_variadic (Some l.index)) (take l.chain-index (chains_at l.body l.initial.chains)) ++ drop l.chain-index (chains_at l.body l.initial.chains)
