use Rattle.std.proofs.Common.{sym, ap}
use Rattle.ppprint.specs.Shown.{Renumbers}
use Rattle.ppserve.specs.code.TextPieces.{own_marker}
use Rattle.ppserve.proofs.BufferedPrinting.{puts_as}
use Rattle.ppserve.proofs.text_output.put_own_marker.Goals as goal

pub returns-then-needed : goal.returns-then-needed
returns-then-needed g c at is = puts_as (ap (λ b. own_marker b at) (sym c.if-needed.true)) (c.put_marker.ensures Renumbers at is)
