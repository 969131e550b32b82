use Rattle.std.proofs.Common.{◌≡◌, ℕ, List, ◌++◌, flat_map, length}
use Rattle.ppunit.specs.Chain.{open_places}
use Rattle.ppserve.specs.Output.{in_line}
use Rattle.ppserve.specs.code.Printing.{Puts}
use Rattle.ppserve.proofs.chain.put_ins.Given as goal

abbrev pub invariant-loop-at : goal.invariant-loop-at
invariant-loop-at g l = record {
  done : List ℕ;
  whole : done ++ flat_map in_line (open_places l.rest) ≡ flat_map in_line (open_places l.fn.items);
  out : Puts g.W.Sink.written g.W.Sink.has_failed l.initial.writer l.writer l.initial.buf l.buf done;
}

abbrev pub decreases-loop-at : goal.decreases-loop-at
decreases-loop-at g l = length (open_places l.rest)
