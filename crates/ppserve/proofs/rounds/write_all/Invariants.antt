use Rattle.std.proofs.Common.{◌≡◌, [], flat_map, take, drop}
use Rattle.std.specs.List.{All, AllWithin}
use Rattle.ppserve.specs.declared.line_cursor.LineCursor.{LineCursor}
use Rattle.ppserve.specs.code.Records.{record_lines}
use Rattle.ppserve.specs.code.Printing.{Puts}
use Rattle.ppserve.specs.code.Rounds.{page_records, IsAlike, IsEmpty}
use Rattle.ppserve.proofs.rounds.write_all.Given as goal

abbrev pub invariant-loop-page : goal.invariant-loop-page
invariant-loop-page g l = record {
  out : Puts g.W.Sink.written g.W.Sink.has_failed l.initial.writer l.writer [] [] (flat_map (record_lines l.names) (flat_map page_records (take l.page-index l.fn.pages)));
  rest : drop l.page-index l.pages ≡ drop l.page-index l.fn.pages;
  empty : AllWithin IsEmpty l.pages 0 l.page-index;
  alike : (c : LineCursor) → All (IsAlike c) l.fn.pages → All (IsAlike c) l.pages;
}
