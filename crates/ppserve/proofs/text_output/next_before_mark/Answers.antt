use Rattle.std.proofs.Common.{◌≡◌, ◌++◌, length, sym, ap, ◌∙◌, arith, length-append}
use Rattle.ppunit.specs.BorrowedItems.{slice_items}
use Rattle.ppserve.proofs.SegmentItems.{unmarked_slice}
use Rattle.ppserve.proofs.text_output.next_before_mark.Goals as goal

pub returns : goal.returns
returns c =
    let s = c.in_ok-slice.slice in
    let step = (c.in_ok-slice.ensures {u = tt}).steps in
    let whole : c.args.items.now ≡ slice_items s ++ c.next.new.self = sym c.duplicate-rest.ensures ∙ step.1 in
    let long = ap length whole in
    record {
      none = tt;
      rest = tt;
      some = whole;
      shorter = omega (arith, long, step.0, length-append (slice_items s) c.next.new.self);
      unmarked = unmarked_slice s c.in_default.not-Mark;
    }
