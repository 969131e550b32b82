use Rattle.std.proofs.Common.{◌≡◌, [], ◌∷◌, true, false, sym, ap, ◌∙◌}
use Rattle.std.specs.Prelude.{is_some}
use Rattle.ppunit.specs.declared.units.Item.TheVariants as item
use Rattle.ppprint.specs.Located.{Numbering, location, numbered, turn_of, unnumbered}
use Rattle.ppprint.specs.Text.{Line, empty_line}
use Rattle.ppserve.specs.Output.{barred}
use Rattle.ppserve.specs.code.Segments.{before_mark, first_segment, segment_text}
use Rattle.ppserve.specs.code.TextPieces.{items_left, text_left}
use Rattle.ppserve.proofs.BufferedPrinting.{puts_as, puts_then}
use Rattle.ppserve.proofs.SegmentItems.{mark_segment, segment_left}
use Rattle.ppserve.proofs.text_output.put_segment.Goals as goal

pub returns-in-Some : goal.returns-in-Some
returns-in-Some g c =
    let m = c.in-Some.mark.now in
    let systems = c.args.systems.now in
    let items = c.take_mark.new.items in
    let new = c.mark-step.new.self in
    let n = new.numbering in
    let whole : c.args.segment.now.items ≡ item.Mark m ∷ items = sym c.duplicate-items.ensures ∙ (c.in-Some.ensures {u = tt}).some in
    let numbering = c.mark-step.ensures.numbering ∙ ap (λ (k : Numbering). numbered k.systems m) c.new.ensures.numbering in
    let none = c.mark-step.ensures.step.ends ∙ ap (λ (l : Line). is_some l.last) c.new.ensures.line in
    let text = mark_segment systems m items n new.line c.mark-step.result.ends numbering c.mark-step.ensures.line none in
    puts_as (text ∙ ap (λ z. barred true (segment_text systems (first_segment z))) (sym whole))
    (puts_then (c.put_marker.ensures (turn_of m.row m.sort) (location n m.physical m.row) c.mark-step.ensures.step.marker) c.put_to_mark.ensures)

pub returns-in_default : goal.returns-in_default
returns-in_default g c =
    let systems = c.args.systems.now in
    let items = c.args.segment.now.items in
    let start = c.in_default.ensures {u = tt} in
    let same : c.take_mark.new.items ≡ items = start.none ∙ c.duplicate-items.ensures in
    let unmarked = ap first_segment (sym c.duplicate-items.ensures) ∙ start.unmarked ∙ ap before_mark c.duplicate-items.ensures in
    let p = c.new.result in
    let first : Numbering = record (unnumbered []) { systems = systems } in
    let line = empty_line 0 false in
    let text =
    ap (λ (l : Line). text_left l (items_left p.numbering [] (before_mark c.take_mark.new.items))) c.new.ensures.line
    ∙ ap (λ (k : Numbering). text_left line (items_left k [] (before_mark c.take_mark.new.items))) c.new.ensures.numbering
    ∙ ap (λ z. text_left line (items_left first [] (before_mark z))) same
    ∙ segment_left systems items unmarked in
    puts_as text c.put_to_mark-in_default.ensures
