use Rattle.std.proofs.Common.{rules}
use Rattle.ppshelf.proofs.path.Path.follow_segment.Goals as goal

pub returns-then-eq-2 : goal.returns-then-eq-2
returns-then-eq-2 c = search rules
