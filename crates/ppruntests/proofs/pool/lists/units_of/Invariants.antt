use Rattle.std.proofs.Common.{◌≡◌, All, length}
use Rattle.pptext.specs.declared.sources.Profile.TheVariants.{C11}
use Rattle.ppunit.specs.Unit.{IsUnitOf}
use Rattle.ppruntests.proofs.pool.lists.units_of.Given as goal

abbrev pub invariant-loop-file : goal.invariant-loop-file
invariant-loop-file l = All (IsUnitOf (length l.shelf.names) C11) l.units.items
