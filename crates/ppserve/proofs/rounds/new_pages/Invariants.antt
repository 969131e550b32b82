use Rattle.std.proofs.Common.{◌≡◌, length}
use Rattle.std.specs.Prelude.{All}
use Rattle.ppserve.specs.code.Records.{IsOver}
use Rattle.ppserve.specs.code.Rounds.{IsEmpty}
use Rattle.ppserve.proofs.rounds.new_pages.Given as goal

abbrev pub invariant-loop : goal.invariant-loop
invariant-loop l = record {
  count : length l.pages.items ≡ l.counter;
  empty : All IsEmpty l.pages.items;
  over : All (λ page. IsOver l.output page.start) l.pages.items;
}
