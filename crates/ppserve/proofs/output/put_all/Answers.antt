use Rattle.std.proofs.Common.{[], ◌++◌, refl, sym, ap, ◌∙◌, flat_map}
use Rattle.std.proofs.lemmas.Grind.{flat_map-append}
use Rattle.ppserve.specs.code.Records.{record_lines, records_of_lines, remaining_records}
use Rattle.ppserve.proofs.RecordLines.{lines_whole, one_more}
use Rattle.ppserve.proofs.BufferedPrinting.{puts_as, puts_none, puts_then, puts_failed}
use Rattle.ppserve.proofs.output.put_all.Goals as goal

pub loop-lines-init : goal.loop-lines-init
loop-lines-init g c = record { done = []; whole = refl; out = puts_none }

pub returns-then-failed : goal.returns-then-failed
returns-then-failed g c =
    puts_as (lines_whole (record_lines c.args.names.now) c.loop-lines.invariant.done (remaining_records c.loop-lines.cursor) (remaining_records c.args.cursor.now) c.loop-lines.invariant.whole)
    (puts_then c.loop-lines.invariant.out (puts_failed (sym c.failed.ensures ∙ c.if-failed.true)))

pub loop-lines-preserved : goal.loop-lines-preserved
loop-lines-preserved g c = record {
  done = c.loop-lines.invariant.done ++ records_of_lines c.next.new.self.systems c.in-Some.lines;
  whole = one_more _ _ _ _ _ c.loop-lines.invariant.whole c.in-Some.ensures.yields.2;
  out = puts_as (sym (flat_map-append (record_lines c.args.names.now) c.loop-lines.invariant.done (records_of_lines c.next.new.self.systems c.in-Some.lines))) (puts_then c.loop-lines.invariant.out (puts_as (ap (λ fs. flat_map (record_lines c.args.names.now) (records_of_lines fs c.in-Some.lines)) c.systems.ensures) c.put_lines.ensures));
}
