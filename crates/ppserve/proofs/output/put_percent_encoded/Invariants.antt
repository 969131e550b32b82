use Rattle.std.proofs.Common.{◌≡◌, ℕ, List, ◌++◌, length}
use Rattle.ppserve.specs.Output.{percent_encoded}
use Rattle.ppserve.specs.code.Printing.{Puts}
use Rattle.ppserve.proofs.output.put_percent_encoded.Given as goal

abbrev pub invariant-loop-rest : goal.invariant-loop-rest
invariant-loop-rest g l =
    record {
      done : List ℕ;
      whole : done ++ percent_encoded l.rest ≡ percent_encoded l.bytes;
      out : Puts g.W.Sink.written g.W.Sink.has_failed l.initial.writer l.writer l.initial.buf l.buf done;
    }

abbrev pub decreases-loop-rest : goal.decreases-loop-rest
decreases-loop-rest g l = length l.rest
