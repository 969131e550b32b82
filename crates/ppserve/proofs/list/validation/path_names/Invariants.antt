use Rattle.std.proofs.Common.{◌≡◌}
use Rattle.ppserve.specs.Listing.{path_names}
use Rattle.ppserve.proofs.list.validation.path_names.Given as goal

abbrev pub invariant-loop-path : goal.invariant-loop-path
invariant-loop-path l = l.names.items ≡ path_names l.yielded
