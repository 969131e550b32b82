use Rattle.std.proofs.Common.{sym}
use Rattle.ppserve.proofs.HexPairs.{hex_bytes-more}
use Rattle.ppserve.specs.Shape.{hex_bytes}
use Rattle.ppserve.proofs.list.drafts.hex_bytes.Goals as goal

pub loop-rest-preserved : goal.loop-rest-preserved
loop-rest-preserved c = hex_bytes-more c.loop-rest.bytes.items c.push.new.self.items c.loop-rest.rest.now c.in-Some.byte (hex_bytes c.args.text.now)
    c.in-len2-up.len_at_least (sym c.in-Some.ensures) c.in_ok-push.ensures.items c.loop-rest.invariant
