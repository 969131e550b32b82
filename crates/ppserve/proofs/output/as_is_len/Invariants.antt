use Rattle.std.proofs.Common.{◌≡◌, take}
use Rattle.ppserve.specs.Output.{percent_encoded}
use Rattle.ppserve.proofs.output.as_is_len.Given as goal

abbrev pub invariant-loop-count : goal.invariant-loop-count
invariant-loop-count l = percent_encoded (take l.count l.bytes) ≡ take l.count l.bytes
