use Rattle.ppserve.proofs.BufferedPrinting.{puts_then}
use Rattle.ppserve.proofs.output.put_spelling_and_newline.Goals as goal

pub returns : goal.returns
returns g c = puts_then c.put_percent_encoded.ensures c.put.ensures
