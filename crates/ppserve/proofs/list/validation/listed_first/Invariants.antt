use Rattle.std.proofs.Common.{◌≡◌}
use Rattle.ppserve.specs.Listing.{listed_first}
use Rattle.ppserve.proofs.list.validation.listed_first.Given as goal

abbrev pub invariant-loop-path : goal.invariant-loop-path
invariant-loop-path l = l.first.items ≡ listed_first l.names.names l.yielded
