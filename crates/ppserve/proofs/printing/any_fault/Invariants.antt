use Rattle.std.proofs.Common.{◌≡◌, drop}
use Rattle.ppserve.specs.Serving.{any_fault}
use Rattle.ppserve.proofs.printing.any_fault.Given as goal

abbrev pub invariant-loop-out : goal.invariant-loop-out
invariant-loop-out l = any_fault (drop l.out-index l.outs) ≡ any_fault l.outs
