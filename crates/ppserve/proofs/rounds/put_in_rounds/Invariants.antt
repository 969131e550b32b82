use Rattle.std.proofs.Common.{◌≡◌, ◌<◌, List, [], ◌++◌, flat_map, length}
use Rattle.std.specs.Prelude.{All}
use Rattle.ppserve.specs.code.Records.{Record, record_lines, remaining_records}
use Rattle.ppserve.specs.code.Printing.{Puts}
use Rattle.ppserve.specs.code.Rounds.{IsAlike, IsEmpty}
use Rattle.ppserve.proofs.rounds.put_in_rounds.Given as goal

abbrev pub invariant-loop-writer : goal.invariant-loop-writer
invariant-loop-writer g l = record {
  done : List Record;
  whole : done ++ remaining_records l.cursor ≡ remaining_records l.fn.cursor;
  out : Puts g.W.Sink.written g.W.Sink.has_failed l.initial.writer l.writer [] [] (flat_map (record_lines l.output.names.now) done);
  empty : All IsEmpty l.pages;
  alike : All (IsAlike l.cursor) l.pages;
  tokens : 0 < l.tokens;
}

abbrev pub decreases-loop-writer : goal.decreases-loop-writer
decreases-loop-writer g l = length (remaining_records l.cursor)
