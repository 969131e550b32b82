use Rattle.std.proofs.Common.{[], ◌++◌, flat_map, refl, sym, ap, arith}
use Rattle.std.proofs.lemmas.Grind.{flat_map-append}
use Rattle.ppserve.specs.code.Records.{record_lines}
use Rattle.ppserve.specs.code.Rounds.{page_records}
use Rattle.ppserve.proofs.RecordLines.{one_more}
use Rattle.ppserve.proofs.BufferedPrinting.{puts_as, puts_none, puts_then}
use Rattle.ppserve.proofs.PageRecords.{alike_back, all_alike}
use Rattle.ppserve.proofs.rounds.put_in_rounds.Goals as goal

pub loop-writer-init : goal.loop-writer-init
loop-writer-init g c = record { done = []; whole = refl; out = puts_none; empty = c.requires.empty; alike = c.requires.alike; tokens = c.tokens_in-tokens.ensures (omega arith) }

pub loop-writer-preserved-then-not-write_all : goal.loop-writer-preserved-then-not-write_all
loop-writer-preserved-then-not-write_all g c =
    let lines = record_lines c.args.output.names.now in
    let round = flat_map page_records c.assign_all.new.pages in
    record {
      done = c.loop-writer.invariant.done ++ round;
      whole = one_more _ _ _ _ _ c.loop-writer.invariant.whole c.assign_all.ensures.records;
      out = puts_as (sym (flat_map-append lines c.loop-writer.invariant.done round)) (puts_then c.loop-writer.invariant.out (puts_as (ap (flat_map lines) c.fill_all.ensures.records) c.write_all.ensures.out));
      empty = c.write_all.ensures.empty;
      alike =
          let at = c.loop-writer.cursor in
          let kept = c.write_all.ensures.alike at (c.fill_all.ensures.alike at c.assign_all.ensures.alike) in
          all_alike at c.assign_all.new.cursor c.write_all.new.pages (alike_back c.assign_all.ensures.cursor) kept;
      tokens = omega (arith, c.max-tokens.ensures);
    }

pub loop-writer-preserved : goal.loop-writer-preserved
loop-writer-preserved g c =
    let lines = record_lines c.args.output.names.now in
    let round = flat_map page_records c.assign_all.new.pages in
    record {
      done = c.loop-writer.invariant.done ++ round;
      whole = one_more _ _ _ _ _ c.loop-writer.invariant.whole c.assign_all.ensures.records;
      out = puts_as (sym (flat_map-append lines c.loop-writer.invariant.done round)) (puts_then c.loop-writer.invariant.out (puts_as (ap (flat_map lines) c.fill_all.ensures.records) c.write_all.ensures.out));
      empty = c.write_all.ensures.empty;
      alike =
          let at = c.loop-writer.cursor in
          let kept = c.write_all.ensures.alike at (c.fill_all.ensures.alike at c.assign_all.ensures.alike) in
          all_alike at c.assign_all.new.cursor c.write_all.new.pages (alike_back c.assign_all.ensures.cursor) kept;
      tokens = c.loop-writer.invariant.tokens;
    }
