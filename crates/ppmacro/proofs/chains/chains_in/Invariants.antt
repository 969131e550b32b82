use Rattle.std.proofs.Common.{◌≡◌, drop, None}
use Rattle.ppmacro.specs.Chains.{parts_after, group_parts}
use Rattle.ppmacro.specs.code.ChainParts.{append_parts}
use Rattle.ppmacro.specs.code.KeptChains.{chains_at}
use Rattle.ppmacro.proofs.chains.chains_in.Given as goal

abbrev pub invariant-loop-index : goal.invariant-loop-index
invariant-loop-index l = append_parts l.joined (chains_at l.body l.chains.items) (parts_after l.kind.kind l.hash (drop l.index l.body)) ≡ group_parts (parts_after l.kind.kind None l.body)
