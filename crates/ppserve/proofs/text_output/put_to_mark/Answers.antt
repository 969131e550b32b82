use Rattle.std.proofs.Common.{◌≡◌, [], ◌++◌, refl, sym, ap, ◌∙◌, append_assoc, append-nil}
use Rattle.ppunit.specs.BorrowedItems.{slice_items}
use Rattle.ppprint.specs.code.Held.{held_tokens}
use Rattle.ppserve.specs.code.Segments.{before_mark}
use Rattle.ppserve.specs.code.TextPieces.{ended, items_left, shown_tokens, text_left}
use Rattle.ppserve.proofs.BarredLines.{end_left}
use Rattle.ppserve.proofs.BufferedPrinting.{puts_as, puts_none, puts_then}
use Rattle.ppserve.proofs.SegmentItems.{before_slice}
use Rattle.ppserve.proofs.TextItems.{end_split, held_few}
use Rattle.ppserve.proofs.text_output.put_to_mark.Goals as goal

pub loop-slice-init : goal.loop-slice-init
loop-slice-init g c = record { held = c.requires; bytes = []; out = puts_none; left = refl }

pub loop-slice-preserved : goal.loop-slice-preserved
loop-slice-preserved g c =
    let inv = c.loop-slice.invariant in
    let step = c.in-Some.ensures {u = tt} in
    let old = c.loop-slice.text in
    let new = c.put_items.new.text in
    let items = c.put_items.ensures.items in
    let more = before_mark c.next_before_mark.new.items in
    let before : before_mark c.loop-slice.items ≡ slice_items c.in-Some.slice ++ more = ap before_mark step.some ∙ before_slice c.in-Some.slice c.next_before_mark.new.items step.unmarked in
    record {
      held = c.put_items.ensures.held;
      bytes = inv.bytes ++ items.bytes;
      out = puts_then inv.out items.out;
      left =
          inv.left
          ∙ ap (λ z. inv.bytes ++ text_left old.printer.line (items_left old.printer.numbering (held_tokens old.held) z)) before
          ∙ ap (λ z. inv.bytes ++ z) (items.left more)
          ∙ sym (append_assoc inv.bytes items.bytes (text_left new.printer.line (items_left new.printer.numbering (held_tokens new.held) more)));
    }

pub returns : goal.returns
returns g c =
    let inv = c.loop-slice.invariant in
    let none = (c.in_default.ensures {u = tt}).none in
    let old = c.loop-slice.text in
    let ts = held_tokens old.held in
    let shown = shown_tokens old.printer.numbering ts in
    let held = c.put_held.ensures.items in
    let line = c.put_held.new.text.printer.line in
    let left =
    inv.left
    ∙ ap (λ z. inv.bytes ++ text_left old.printer.line (items_left old.printer.numbering ts z)) none
    ∙ ap (λ z. inv.bytes ++ text_left old.printer.line z) (end_split old.printer.numbering ts (held_few old.held) ∙ sym (append-nil shown))
    ∙ ap (λ z. inv.bytes ++ z) (held.left [] ∙ ap (λ z. held.bytes ++ z) (end_left line))
    ∙ sym (append_assoc inv.bytes held.bytes _)
    ∙ ap (λ b. inv.bytes ++ held.bytes ++ ended b) (sym c.has_token.ensures) in
    puts_as (sym left) (puts_then (puts_then inv.out held.out) c.put_end.ensures)
