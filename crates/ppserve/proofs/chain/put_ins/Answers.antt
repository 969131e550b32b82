use Rattle.std.proofs.Common.{◌++◌, flat_map, ap}
use Rattle.ppserve.specs.Output.{in_line}
use Rattle.ppserve.proofs.RecordLines.{one_more}
use Rattle.ppserve.proofs.BufferedPrinting.{puts_then}
use Rattle.ppserve.proofs.chain.put_ins.Goals as goal

pub loop-at-preserved : goal.loop-at-preserved
loop-at-preserved g c = record {
  done = c.loop-at.invariant.done ++ in_line c.in-Some.at;
  whole = one_more _ _ _ _ _ c.loop-at.invariant.whole (ap (flat_map in_line) c.in-Some.ensures.some);
  out = puts_then c.loop-at.invariant.out c.put_in.ensures;
}
