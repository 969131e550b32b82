use Rattle.std.proofs.Common.{◌-◌, length}
use Rattle.ppunit.proofs.TextRuns.{RunSoFar}
use Rattle.ppunit.proofs.line_walk.text_end.Given as goal

abbrev pub invariant-loop-end : goal.invariant-loop-end
invariant-loop-end l = RunSoFar l.source l.fn.start l.end

abbrev pub decreases-loop-end : goal.decreases-loop-end
decreases-loop-end l = length l.source - l.end
