use Rattle.std.proofs.Common.{◌≡◌, ◌++◌, drop, map, None}
use Rattle.ppmacro.specs.Chains.{parts_after}
use Rattle.ppmacro.specs.code.KeptChains.{part_at}
use Rattle.ppmacro.specs.code.VaOptLists.{tokens_at}
use Rattle.ppmacro.proofs.chains.parts_of.Given as goal

abbrev pub invariant-loop-index : goal.invariant-loop-index
invariant-loop-index l =
    map (part_at l.body) l.parts.items ++ parts_after l.kind.kind l.hash (tokens_at l.body (drop l.index-index l.indices)) ≡ parts_after l.kind.kind None (tokens_at l.body l.indices)
