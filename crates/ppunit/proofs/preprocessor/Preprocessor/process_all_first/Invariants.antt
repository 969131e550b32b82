use Rattle.std.proofs.Common.{length}
use Rattle.ppunit.specs.Unit.{before_first, main_name}
use Rattle.ppunit.specs.code.Contexts.{context_over}
use Rattle.ppunit.specs.code.Preprocessor.{KeepsContext}
use Rattle.ppunit.proofs.UnitValue.{FirstSoFar}
use Rattle.ppunit.proofs.preprocessor.Preprocessor.process_all_first.Given as goal

abbrev pub invariant-loop-index : goal.invariant-loop-index
invariant-loop-index g l = record {
  keeps_context : KeepsContext l.fn.self l.self;
  walked : FirstSoFar (context_over l.fn.self.context.now) l.self.pass.now.files l.fn.unit.file (length l.fn.unit.defines.texts) l.fn.unit.first
      (before_first l.fn.unit.file (main_name l.fn.self.context.now.shelf.names l.fn.unit) l.fn.unit.first l.fn.self.state) l.index l.self.state;
}
