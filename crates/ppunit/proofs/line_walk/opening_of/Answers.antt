use Rattle.std.proofs.Common.{Some}
use Rattle.ppunit.proofs.line_walk.opening_of.Goals as goal

pub returns-clause-opening : goal.returns-clause-opening
returns-clause-opening g c files = λ i. record {
  directory = Some c.args.found.1;
  shown = c.in_ok-shown_name.ensures files c.args.found.0 i;
  system = c.is_system.ensures files i;
  resumption = Some (record { row = c.args.line.now.row; last = c.args.line.now.number });
}
