use Rattle.std.proofs.Common.{rules}
use Rattle.ppunit.proofs.well_formed.is_pair.Goals as goal

pub returns-then-is_digit-2 : goal.returns-then-is_digit-2
returns-then-is_digit-2 c = search rules
