use Rattle.std.proofs.Common.{◌≡◌, List, ◌++◌, flat_map, length}
use Rattle.ppserve.specs.code.Records.{Record, record_lines, remaining_records}
use Rattle.ppserve.specs.code.Printing.{Puts}
use Rattle.ppserve.proofs.output.put_all.Given as goal

abbrev pub invariant-loop-lines : goal.invariant-loop-lines
invariant-loop-lines g l = record {
  done : List Record;
  whole : done ++ remaining_records l.cursor ≡ remaining_records l.fn.cursor;
  out : Puts g.W.Sink.written g.W.Sink.has_failed l.initial.writer l.writer l.initial.buf l.buf (flat_map (record_lines l.names) done);
}

abbrev pub decreases-loop-lines : goal.decreases-loop-lines
decreases-loop-lines g l = length (remaining_records l.cursor)
