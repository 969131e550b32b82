use Rattle.std.proofs.Common.{◌∙◌, sym, arith}
use Rattle.ppserve.specs.code.Records.{records_of_lines, remaining_records}
use Rattle.ppserve.proofs.RecordLines.{dropped_past}
use Rattle.ppserve.proofs.line_cursor.LineCursor.skip.Goals as goal

pub loop-left-preserved : goal.loop-left-preserved
loop-left-preserved c =
    let lines = records_of_lines c.next.new.self.systems c.in-Some.lines in
    let count = c.count-more.ensures c.next.new.self.systems in
    let yields = c.in-Some.ensures.yields in
    let old = c.loop-left.invariant in
    record {
      rest = dropped_past c.loop-left.count c.count-more.result (remaining_records c.args.self.now) lines (remaining_records c.next.new.self) count (sym old.rest ∙ yields.2);
      few = omega (arith, old.few, count, yields.1, c.saturating_sub-left.ensures, c.max.ensures);
      none = λ e. absurd (omega (arith, e, count, yields.0));
      alike = record { output = c.next.ensures.alike.output ∙ old.alike.output; flags = c.next.ensures.alike.flags ∙ old.alike.flags };
    }
