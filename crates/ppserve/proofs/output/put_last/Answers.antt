use Rattle.ppserve.proofs.BufferedPrinting.{puts_then}
use Rattle.ppserve.proofs.output.put_last.Goals as goal

pub returns : goal.returns
returns g c =
    let text = puts_then c.put_deps.ensures c.put_end.ensures in
    rw c.as_slice.ensures at text
