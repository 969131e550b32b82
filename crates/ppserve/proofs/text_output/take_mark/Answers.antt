use Rattle.std.proofs.Common.{◌≡◌, ◌++◌, refl, sym, ap, ◌∙◌}
use Rattle.ppunit.specs.BorrowedItems.{slice_items}
use Rattle.ppserve.specs.code.Segments.{before_mark, first_segment}
use Rattle.ppserve.proofs.SegmentItems.{unmarked_first}
use Rattle.ppserve.proofs.text_output.take_mark.Goals as goal

pub returns-in_default : goal.returns-in_default
returns-in_default c =
    let s = c.in_ok-mark.field-0 in
    let step = (c.in_ok-mark.ensures {u = tt}).steps in
    let whole : c.args.items.now ≡ slice_items s ++ c.next.new.self = sym c.duplicate-rest.ensures ∙ step.1 in
    record {
      some = tt;
      none = refl;
      unmarked = ap first_segment whole ∙ unmarked_first s c.next.new.self step.0 c.in_default.not-Mark ∙ ap before_mark (sym whole);
    }
