use Rattle.std.proofs.Common.{sym, ap, ◌∙◌}
use Rattle.ppserve.specs.code.Segments.{from_mark}
use Rattle.ppserve.proofs.SegmentItems.{from_slice}
use Rattle.ppserve.proofs.text_output.skip_to_mark.Goals as goal

pub loop-slice-preserved : goal.loop-slice-preserved
loop-slice-preserved c =
    let step = c.in-Some.ensures {u = tt} in
    sym (ap from_mark step.some ∙ from_slice c.in-Some.slice c.next_before_mark.new.items step.unmarked) ∙ c.loop-slice.invariant
