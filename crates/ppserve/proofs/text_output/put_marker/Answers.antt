use Rattle.std.proofs.Common.{ap, ◌∙◌, decimal}
use Rattle.ppprint.specs.Text.{system_flag}
use Rattle.ppserve.specs.code.TextPieces.{with_bars}
use Rattle.ppserve.proofs.BufferedPrinting.{puts_as, puts_then}
use Rattle.ppserve.proofs.text_output.put_marker.Goals as goal

pub returns : goal.returns
returns g c turn at is =
    let front = puts_then (puts_then (puts_then c.put_end.ensures c.put.ensures) (puts_as (ap decimal is.number) c.put_wide_decimal.ensures)) c.put-2.ensures in
    let name = puts_as (ap with_bars is.name) c.put_text.ensures in
    let flag = puts_as (c.as_bytes.ensures.value ∙ is.flag) c.put-3.ensures in
    puts_then (puts_then (puts_then (puts_then front name) flag) (puts_as (ap system_flag is.system) c.put_system_flag.ensures)) c.put-4.ensures
