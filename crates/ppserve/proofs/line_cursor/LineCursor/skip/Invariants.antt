use Rattle.std.proofs.Common.{◌≡◌, ◌+◌, ◌≤◌, drop}
use Rattle.ppserve.specs.code.Records.{Alike, remaining_records}
use Rattle.ppserve.proofs.line_cursor.LineCursor.skip.Given as goal

abbrev pub invariant-loop-left : goal.invariant-loop-left
invariant-loop-left l = record {
  rest : remaining_records l.self ≡ drop l.count (remaining_records l.fn.self);
  few : l.count + l.left ≤ l.weight;
  none : l.count ≡ 0 → l.left ≡ l.weight;
  alike : Alike l.self l.fn.self;
}

abbrev pub decreases-loop-left : goal.decreases-loop-left
decreases-loop-left l = l.left
