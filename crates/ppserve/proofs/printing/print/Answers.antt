use Rattle.std.proofs.Common.{refl, rules}
use Rattle.ppserve.specs.Serving.{any_fault}
use Rattle.ppserve.proofs.Delivery.{prefix_written}
use Rattle.ppserve.proofs.printing.print.Goals as goal

pub returns-then-failed : goal.returns-then-failed
returns-then-failed g c = prefix_written (any_fault c.args.output.outs.now) _ (search rules) c.in_ok-put_by_workers.ensures.ok (record { printed = refl; fault = refl })
