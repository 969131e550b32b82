use Rattle.ppserve.proofs.BufferedPrinting.{puts_then}
use Rattle.ppserve.proofs.chain.put_in.Goals as goal

pub returns : goal.returns
returns g c = puts_then (puts_then c.put.ensures c.put_place.ensures) c.put-2.ensures
