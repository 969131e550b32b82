use Rattle.std.proofs.Common.{rules}
use Rattle.ppunit.proofs.open_file.begin.Goals as goal

pub returns-then-is_left_out : goal.returns-then-is_left_out
returns-then-is_left_out c = search rules
