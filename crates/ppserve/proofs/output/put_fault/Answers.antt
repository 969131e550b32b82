use Rattle.ppserve.proofs.BufferedPrinting.{puts_then}
use Rattle.ppserve.proofs.output.put_fault.Goals as goal

pub returns : goal.returns
returns g c =
    let text = puts_then (puts_then (puts_then (puts_then (puts_then c.put.ensures c.put_decimal.ensures) c.put-2.ensures) c.put_place.ensures) c.put_fault_text.ensures) c.put-3.ensures in
    rw (c.from.ensures, c.as_bytes.ensures) at text
