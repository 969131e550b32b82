use Rattle.ppserve.proofs.BufferedPrinting.{puts_then}
use Rattle.ppserve.proofs.output.put_place.Goals as goal

pub returns : goal.returns
returns g c =
    let text = puts_then (puts_then (puts_then (puts_then c.put_decimal.ensures c.put.ensures) c.put_decimal-2.ensures) c.put-2.ensures) c.put_decimal-3.ensures in
    rw (c.from.ensures, c.from-2.ensures, c.from-3.ensures) at text
