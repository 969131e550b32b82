use Rattle.std.proofs.Common.{rules}
use Rattle.ppunit.proofs.well_formed.unit_ok.Goals as goal

pub returns-then-are_lines : goal.returns-then-are_lines
returns-then-are_lines g c = search rules
