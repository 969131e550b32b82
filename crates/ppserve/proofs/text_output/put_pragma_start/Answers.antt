use Rattle.ppserve.proofs.BufferedPrinting.{puts_then}
use Rattle.ppserve.proofs.text_output.put_pragma_start.Goals as goal

pub returns : goal.returns
returns g c at is = puts_then (puts_then (c.put_long_way.ensures at is) (c.put_own_marker.ensures at is)) c.put.ensures
