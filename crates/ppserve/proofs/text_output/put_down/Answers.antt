use Rattle.ppserve.proofs.BarredLines.{begun_down, ended_down}
use Rattle.ppserve.proofs.BufferedPrinting.{puts_as, puts_then}
use Rattle.ppserve.proofs.text_output.put_down.Goals as goal

pub returns-then-ends : goal.returns-then-ends
returns-then-ends g c = puts_as (ended_down c.args.ends c.args.lines c.if-ends.true c.if-lines-eq0.false) (puts_then c.put.ensures c.put_empty_lines.ensures)

pub returns-else-ends : goal.returns-else-ends
returns-else-ends g c = puts_as (begun_down c.args.ends c.args.lines c.if-ends.false) c.put_empty_lines-else-ends.ensures
