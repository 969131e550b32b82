use Rattle.std.proofs.Common.{◌≡◌, ◌++◌, option_map, length}
use Rattle.ppserve.specs.Shape.{hex_bytes}
use Rattle.ppserve.proofs.list.drafts.hex_bytes.Given as goal

abbrev pub invariant-loop-rest : goal.invariant-loop-rest
invariant-loop-rest l = option_map (λ more. l.bytes.items ++ more) (hex_bytes l.rest) ≡ hex_bytes l.text

abbrev pub decreases-loop-rest : goal.decreases-loop-rest
decreases-loop-rest l = length l.rest
