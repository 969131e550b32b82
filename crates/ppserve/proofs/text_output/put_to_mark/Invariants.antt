use Rattle.std.proofs.Common.{◌≡◌, ℕ, true, List, ◌++◌, length}
use Rattle.ppprint.specs.code.Held.{are_parts, held_tokens}
use Rattle.ppserve.specs.code.Printing.{Puts}
use Rattle.ppserve.specs.code.Segments.{before_mark}
use Rattle.ppserve.specs.code.TextPieces.{items_left, text_left}
use Rattle.ppserve.proofs.text_output.put_to_mark.Given as goal

abbrev pub invariant-loop-slice : goal.invariant-loop-slice
invariant-loop-slice g l =
    record {
      held : are_parts 0 (held_tokens l.text.held) ≡ true;
      bytes : List ℕ;
      out : Puts g.W.Sink.written g.W.Sink.has_failed l.initial.writer l.writer l.initial.buf l.buf bytes;
      left : text_left l.initial.text.printer.line (items_left l.initial.text.printer.numbering (held_tokens l.initial.text.held) (before_mark l.initial.items))
          ≡ bytes ++ text_left l.text.printer.line (items_left l.text.printer.numbering (held_tokens l.text.held) (before_mark l.items));
    }

abbrev pub decreases-loop-slice : goal.decreases-loop-slice
decreases-loop-slice g l = length l.items
