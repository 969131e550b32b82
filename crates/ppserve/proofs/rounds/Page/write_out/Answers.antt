use Rattle.std.proofs.Common.{take, flat_map, refl, ap}
use Rattle.ppserve.specs.code.Records.{record_lines}
use Rattle.ppserve.proofs.BufferedPrinting.{puts_as, puts_here, puts_flushed}
use Rattle.ppserve.proofs.PageRecords.{alike_then}
use Rattle.ppserve.proofs.rounds.Page.write_out.Goals as goal
use Rattle.ppserve.proofs.rounds.Page.write_out.Goals.{then-not-fits, else-not-fits}

pub returns-clause-out : goal.returns-clause-out
returns-clause-out g c = elim c.if-not-fits.branch [
  | then-not-fits w ↦
      puts_flushed w.clear.ensures
      (puts_as (ap (λ records. flat_map (record_lines c.args.names.now) (take c.args.self.now.count records)) w.move_to.ensures.records) w.put_next.ensures.out)
      w.writer-is (ap (λ page. page.buf) w.self-is) c.flush.ensures.out c.flush.ensures.empty
  | else-not-fits w ↦
      puts_flushed refl (puts_here (c.requires.lines w.if-not-fits.false)) w.writer-is (ap (λ page. page.buf) w.self-is) c.flush.ensures.out c.flush.ensures.empty
]

pub returns-clause-empty : goal.returns-clause-empty
returns-clause-empty g c = elim c.if-not-fits.branch [
  | then-not-fits w ↦ record {
    buf = c.flush.ensures.empty;
    unfailed = ap (λ page. page.sink.failed) w.self-is;
    alike = rw w.self-is (alike_then w.put_next.ensures.alike (alike_then w.move_to.ensures.alike c.requires.alike));
  }
  | else-not-fits w ↦ record {
    buf = c.flush.ensures.empty;
    unfailed = rw w.self-is w.if-not-fits.false;
    alike = rw w.self-is c.requires.alike;
  }
]
