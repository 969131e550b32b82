use Rattle.std.proofs.Common.{◌≡◌, ◌≤◌, length, take}
use Rattle.ppunit.specs.ShownNames as spec
use Rattle.ppunit.proofs.shown_names.folder_of.Given as goal

abbrev pub invariant-loop-end : goal.invariant-loop-end
invariant-loop-end l = record {
  within : l.end ≤ length l.name;
  same : spec.folder_of (take l.end l.name) ≡ spec.folder_of l.name;
}

abbrev pub decreases-loop-end : goal.decreases-loop-end
decreases-loop-end l = l.end
