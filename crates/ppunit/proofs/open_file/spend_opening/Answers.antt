use Rattle.std.proofs.Common.{rules}
use Rattle.ppunit.proofs.open_file.spend_opening.Goals as goal

pub returns-then-is_exhausted : goal.returns-then-is_exhausted
returns-then-is_exhausted g c = search rules
