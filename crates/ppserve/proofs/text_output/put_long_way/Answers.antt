use Rattle.std.proofs.Common.{sym, ap}
use Rattle.ppprint.specs.Shown.{Renumbers}
use Rattle.ppserve.specs.code.TextPieces.{barred_way}
use Rattle.ppserve.proofs.BufferedPrinting.{puts_as}
use Rattle.ppserve.proofs.text_output.put_long_way.Goals as goal

pub returns-in-Jump : goal.returns-in-Jump
returns-in-Jump g c at is = puts_as (ap (λ w. barred_way w at) (sym c.in-Jump.is)) (c.put_marker.ensures Renumbers at is)
