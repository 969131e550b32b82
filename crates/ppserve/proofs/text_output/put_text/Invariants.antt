use Rattle.std.proofs.Common.{◌≡◌, ℕ, List, ◌++◌, length}
use Rattle.ppserve.specs.code.Printing.{Puts}
use Rattle.ppserve.specs.code.TextPieces.{with_bars}
use Rattle.ppserve.proofs.text_output.put_text.Given as goal

abbrev pub invariant-loop-end : goal.invariant-loop-end
invariant-loop-end g l =
    record {
      done : List ℕ;
      whole : done ++ with_bars l.rest ≡ with_bars l.text;
      out : Puts g.W.Sink.written g.W.Sink.has_failed l.initial.writer l.writer l.initial.buf l.buf done;
    }

abbrev pub decreases-loop-end : goal.decreases-loop-end
decreases-loop-end g l = length l.rest
