use Rattle.std.proofs.Common.{take, flat_map, refl, ap}
use Rattle.ppserve.specs.code.Records.{record_lines}
use Rattle.ppserve.proofs.BufferedPrinting.{puts_as}
use Rattle.ppserve.proofs.PageRecords.{alike_then, kept_lines}
use Rattle.ppserve.proofs.rounds.Page.fill.Goals as goal

pub returns-clause-filled : goal.returns-clause-filled
returns-clause-filled c = record {
  lines = λ fine.
      kept_lines c.requires.buf refl refl fine
      (puts_as (ap (λ records. flat_map (record_lines c.args.names.now) (take c.args.self.now.count records)) c.move_to.ensures.records) c.put_next.ensures.out);
  alike = alike_then c.put_next.ensures.alike (alike_then c.move_to.ensures.alike c.requires.alike);
}
