use Rattle.ppserve.proofs.BufferedPrinting.{puts_then}
use Rattle.ppserve.proofs.output.put_faulty.Goals as goal

pub returns : goal.returns
returns g c = puts_then c.put_chain.ensures c.put_end.ensures
