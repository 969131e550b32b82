use Rattle.std.proofs.Common.{◌≡◌, ◌≤◌, ◌++◌, length}
use Rattle.ppmacro.specs.HideSets.{hidings, AllKnown}
use Rattle.ppexpand.specs.code.OpenSearch.{open_inside}
use Rattle.ppexpand.proofs.open_invocations.take_inside.Given as goal

abbrev pub invariant-loop-hidden : goal.invariant-loop-hidden
invariant-loop-hidden l = record {
  laid_out : l.taken.items ++ l.list ≡ l.initial.taken.items ++ l.initial.list;
  known : AllKnown l.sets l.list;
  search : open_inside l.depth (hidings l.sets l.list) ≡ open_inside 0 (hidings l.sets l.initial.list);
  within : l.depth ≤ length l.taken.items;
}

abbrev pub decreases-loop-hidden : goal.decreases-loop-hidden
decreases-loop-hidden l = length l.list
