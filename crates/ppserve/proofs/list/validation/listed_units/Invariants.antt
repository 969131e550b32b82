use Rattle.std.proofs.Common.{◌≡◌, map}
use Rattle.ppserve.specs.Listing.{listed_unit}
use Rattle.ppserve.proofs.list.validation.listed_units.Given as goal

abbrev pub invariant-loop-unit : goal.invariant-loop-unit
invariant-loop-unit l = l.listed.items ≡ map (listed_unit l.profile l.names.names) l.yielded
