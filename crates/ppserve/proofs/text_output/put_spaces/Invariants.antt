use Rattle.std.proofs.Common.{◌-◌, ◌≤◌}
use Rattle.ppprint.specs.Text.{spaces}
use Rattle.ppserve.specs.code.Printing.{Puts}
use Rattle.ppserve.proofs.text_output.put_spaces.Given as goal

abbrev pub invariant-loop-left : goal.invariant-loop-left
invariant-loop-left g l = (l.left ≤ l.count) × Puts g.W.Sink.written g.W.Sink.has_failed l.initial.writer l.writer l.initial.buf l.buf (spaces (l.count - l.left))

abbrev pub decreases-loop-left : goal.decreases-loop-left
decreases-loop-left g l = l.left
