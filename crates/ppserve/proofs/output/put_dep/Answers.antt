use Rattle.ppserve.proofs.BufferedPrinting.{puts_then}
use Rattle.ppserve.proofs.output.put_dep.Goals as goal

pub returns : goal.returns
returns g c = puts_then (puts_then (puts_then (puts_then c.put.ensures c.put_decimal.ensures) c.put-2.ensures) c.put_name.ensures) c.put-3.ensures
