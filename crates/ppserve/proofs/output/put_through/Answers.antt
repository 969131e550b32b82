use Rattle.std.proofs.Common.{append-nil}
use Rattle.ppserve.proofs.BufferedPrinting.{puts_as, puts_then, puts_whole}
use Rattle.ppserve.proofs.output.put_through.Goals as goal

pub returns : goal.returns
returns g c = puts_whole c.requires c.flush.ensures.empty (puts_as (append-nil _) (puts_then c.put_all.ensures c.flush.ensures.out))
