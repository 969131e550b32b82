use Rattle.std.proofs.Common.{◌≡◌, ◌+◌, drop}
use Rattle.ppshelf.specs.Content.{longest}
use Rattle.ppunit.proofs.UnitTest.{size}
use Rattle.ppunit.proofs.well_formed.fits_command.Given as goal

abbrev pub invariant-loop-text : goal.invariant-loop-text
invariant-loop-text l = l.capacity + size l.defines ≡ size (drop l.text-index l.defines) + longest
