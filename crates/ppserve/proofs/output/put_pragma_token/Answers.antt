use Rattle.ppserve.proofs.BufferedPrinting.{puts_then}
use Rattle.ppserve.proofs.output.put_pragma_token.Goals as goal

pub returns : goal.returns
returns g c = puts_then c.put.ensures c.put_token.ensures
