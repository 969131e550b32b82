use Rattle.ppserve.proofs.Segments.{segment_taken}
use Rattle.ppserve.proofs.text_output.Segment.take.Goals as goal

pub returns-clause-some : goal.returns-clause-some
returns-clause-some c =
    let steps = (c.in_ok-first.ensures {u = tt}).steps in
    segment_taken c.args.systems.now c.pass_mark.new.systems c.in_ok-first.first c.args.items.now c.duplicate-start.result c.next.new.self c.skip_to_mark.new.items
    steps.0 steps.1 c.duplicate-start.ensures c.pass_mark.ensures.flags c.skip_to_mark.ensures
