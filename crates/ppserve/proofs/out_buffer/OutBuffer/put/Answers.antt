use Rattle.ppserve.proofs.BufferedPrinting.{puts_here, puts_then, puts_onto}
use Rattle.ppserve.proofs.out_buffer.OutBuffer.put.Goals as goal

pub returns-then-bytes-le-SIZE : goal.returns-then-bytes-le-SIZE
returns-then-bytes-le-SIZE g c = puts_then c.flush.ensures.out (puts_here c.add-then-bytes-le-SIZE.ensures)

pub returns : goal.returns
returns g c = puts_then c.flush.ensures.out (puts_onto c.flush.ensures.empty c.write_out.ensures)
