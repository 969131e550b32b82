use Rattle.std.proofs.Common.{◌≡◌, List, ◌++◌, flat_map, take}
use Rattle.ppserve.specs.code.Records.{Record, Alike, record_lines, remaining_records}
use Rattle.ppserve.specs.code.Printing.{Puts}
use Rattle.ppserve.proofs.output.put_next.Given as goal

abbrev pub invariant-loop-left : goal.invariant-loop-left
invariant-loop-left g l = record {
  done : List Record;
  whole : done ++ take l.left (remaining_records l.cursor) ≡ take l.count (remaining_records l.fn.cursor);
  out : Puts g.W.Sink.written g.W.Sink.has_failed l.initial.writer l.writer l.initial.buf l.buf (flat_map (record_lines l.names) done);
  alike : Alike l.cursor l.fn.cursor;
}

abbrev pub decreases-loop-left : goal.decreases-loop-left
decreases-loop-left g l = l.left
