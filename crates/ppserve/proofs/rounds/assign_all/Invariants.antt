use Rattle.std.proofs.Common.{◌≡◌, ◌<◌, ◌++◌, length, flat_map, take}
use Rattle.std.specs.Prelude.{All}
use Rattle.ppserve.specs.code.Records.{Alike, remaining_records}
use Rattle.ppserve.specs.code.Rounds.{page_records, IsAlike, IsEmpty}
use Rattle.ppserve.proofs.rounds.assign_all.Given as goal

abbrev pub invariant-loop-page : goal.invariant-loop-page
invariant-loop-page l = record {
  records : remaining_records l.fn.cursor ≡ flat_map page_records (take l.page-index l.pages) ++ remaining_records l.cursor;
  fewer : 0 < l.page-index → 0 < length (remaining_records l.fn.cursor) → length (remaining_records l.cursor) < length (remaining_records l.fn.cursor);
  empty : All IsEmpty l.fn.pages → All IsEmpty l.pages;
  alike : All (IsAlike l.fn.cursor) l.pages;
  cursor : Alike l.cursor l.fn.cursor;
}
