use Rattle.std.proofs.Common.{◌≡◌, ◌≤◌, length}
use Rattle.ppmacro.specs.HideSetPool.{HideSetPool}
use Rattle.ppmacro.specs.HideSets.{hidings, AllKnown}
use Rattle.ppmacro.specs.Substituting.{ListsKnown}
use Rattle.ppexpand.specs.Arguments.{gather}
use Rattle.ppexpand.specs.code.ProgramValues.{given_in}
use Rattle.ppexpand.proofs.ResumedSearch.{resumed}
use Rattle.ppexpand.proofs.arguments.gather.Given as goal

abbrev pub invariant-loop-hidden : goal.invariant-loop-hidden
invariant-loop-hidden l = record {
  same : (sets : HideSetPool) → resumed (given_in sets l.arguments.items) (hidings sets l.argument.items) (gather l.depth l.commas (hidings sets l.list)) ≡ gather 0 l.fn.commas (hidings sets l.initial.list);
  arguments_known : (sets : HideSetPool) → AllKnown sets l.initial.list → ListsKnown sets l.arguments.items;
  argument_known : (sets : HideSetPool) → AllKnown sets l.initial.list → AllKnown sets l.argument.items;
  list_known : (sets : HideSetPool) → AllKnown sets l.initial.list → AllKnown sets l.list;
  within : l.depth ≤ length l.argument.items;
}

abbrev pub decreases-loop-hidden : goal.decreases-loop-hidden
decreases-loop-hidden l = length l.list
