use Rattle.std.proofs.Common.{◌+◌, ◌≤◌, length}
use Rattle.ppunit.specs.code.Contexts.{context_over}
use Rattle.ppunit.specs.code.Preprocessor.{KeepsContext}
use Rattle.ppunit.proofs.FileStack.{StackSoFar}
use Rattle.ppunit.proofs.RemainingWork.{work}
use Rattle.ppunit.proofs.preprocessor.Preprocessor.walk.Given as goal

abbrev pub invariant-loop-file : goal.invariant-loop-file
invariant-loop-file g l = record {
  keeps_context : KeepsContext l.fn.self l.self;
  depth : length l.suspended + l.fn.depth ≤ 200;
  walked : StackSoFar l.fn.depth (context_over l.fn.self.context.now) l.self.pass.now.files l.fn.first.row l.fn.first.lines l.fn.self.state l.suspended l.file l.self.state;
}

abbrev pub decreases-loop-file : goal.decreases-loop-file
decreases-loop-file g l = work l.file l.suspended
