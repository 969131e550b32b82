use Rattle.std.proofs.Common.{◌∙◌}
use Rattle.pppool.proofs.SlotFilling.{if_ok_then}
use Rattle.ppserve.proofs.RecordLines.{lines_of_all}
use Rattle.ppserve.proofs.output.print_to_vec.Goals as goal

pub returns : goal.returns
returns c =
    let all = lines_of_all c.args.mode c.as_slice.result.now 0 c.as_slice-2.result.now c.args.outs.now in
    if_ok_then c.print_alone.result c.print_alone.ensures (λ text is.
    let whole = is ∙ all in
    rw (← c.list.view_is) (rw (c.as_slice.ensures, c.as_slice-2.ensures) at whole))
