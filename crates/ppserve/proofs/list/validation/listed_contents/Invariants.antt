use Rattle.std.proofs.Common.{◌≡◌}
use Rattle.ppserve.specs.Listing.{contents_of}
use Rattle.ppserve.proofs.list.validation.listed_contents.Given as goal

abbrev pub invariant-loop-file : goal.invariant-loop-file
invariant-loop-file l = l.contents.items ≡ contents_of l.yielded
