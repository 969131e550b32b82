use Rattle.std.proofs.Common.{◌≡◌, [], ◌++◌, ◌-◌, length, flat_map, take, refl, sym, ap, ◌∙◌, arith}
use Rattle.std.proofs.lemmas.Grind.{flat_map-append}
use Rattle.ppserve.specs.code.Records.{record_lines, records_of_lines, remaining_records}
use Rattle.ppserve.proofs.RecordLines.{lines_whole, one_more, all_done, take_more_of, take_of_none}
use Rattle.ppserve.proofs.BufferedPrinting.{puts_as, puts_none, puts_then, puts_failed}
use Rattle.ppserve.proofs.PageRecords.{alike_then}
use Rattle.ppserve.proofs.output.put_next.Goals as goal

pub loop-left-init : goal.loop-left-init
loop-left-init g c = record { done = []; whole = refl; out = puts_none; alike = record { output = refl; flags = refl } }

pub returns-in_default : goal.returns-in_default
returns-in_default g c = record {
  out =
      puts_as (ap (flat_map (record_lines c.args.names.now)) (all_done _ _ _ c.loop-left.invariant.whole (take_of_none c.loop-left.left _ c.in_default.ensures.yields.0)))
      c.loop-left.invariant.out;
  alike = alike_then c.next.ensures.alike c.loop-left.invariant.alike;
}

pub returns-then-failed : goal.returns-then-failed
returns-then-failed g c =
    let lines = record_lines c.args.names.now in
    let done = c.loop-left.invariant.done in
    let rest = take c.loop-left.left (remaining_records c.loop-left.cursor) in
    record {
      out =
          puts_as (lines_whole lines done rest (take c.args.count (remaining_records c.args.cursor.now)) c.loop-left.invariant.whole)
          (puts_then {t = flat_map lines rest} c.loop-left.invariant.out (puts_failed (sym c.failed.ensures ∙ c.if-failed.true)));
      alike = alike_then c.next.ensures.alike c.loop-left.invariant.alike;
    }

pub loop-left-preserved : goal.loop-left-preserved
loop-left-preserved g c =
    let done = c.loop-left.invariant.done in
    let lines = records_of_lines c.next.new.self.systems c.in-Some.lines in
    let left = c.loop-left.left in
    let rest = remaining_records c.next.new.self in
    let fewer : left - c.count-count.result ≡ left - length lines = ap (λ n. left - n) (c.count-count.ensures c.next.new.self.systems) in
    let next : take left (remaining_records c.loop-left.cursor) ≡ lines ++ take (left - c.count-count.result) rest =
    ap (take left) c.in-Some.ensures.yields.2 ∙ (take_more_of left lines rest c.in-Some.ensures.yields.1 ∙ ap (λ n. lines ++ take n rest) (sym fewer)) in
    record {
      done = done ++ lines;
      whole = one_more _ _ _ _ _ c.loop-left.invariant.whole next;
      out =
          puts_as (sym (flat_map-append (record_lines c.args.names.now) done lines))
          (puts_then c.loop-left.invariant.out (puts_as (ap (λ fs. flat_map (record_lines c.args.names.now) (records_of_lines fs c.in-Some.lines)) c.systems.ensures) c.put_lines.ensures));
      alike = alike_then c.next.ensures.alike c.loop-left.invariant.alike;
    }

pub returns : goal.returns
returns g c =
    let none : c.loop-left.left ≡ 0 = omega (arith, c.loop-left-test.false) in
    record {
      out =
          puts_as (ap (flat_map (record_lines c.args.names.now)) (all_done _ _ _ c.loop-left.invariant.whole (ap (λ n. take n (remaining_records c.loop-left.cursor)) none)))
          c.loop-left.invariant.out;
      alike = c.loop-left.invariant.alike;
    }
