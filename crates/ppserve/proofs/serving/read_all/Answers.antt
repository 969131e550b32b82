use Rattle.std.proofs.Common.{rules}
use Rattle.ppserve.proofs.serving.read_all.Goals as goal

pub returns-then-count-eq0-clause-err : goal.returns-then-count-eq0-clause-err
returns-then-count-eq0-clause-err g c = search rules
