use Rattle.std.proofs.Common.{◌≡◌, take}
use Rattle.ppserve.specs.Listing.{shown_directories}
use Rattle.ppserve.proofs.list.validation.shown_directories.Given as goal

abbrev pub invariant-loop-path : goal.invariant-loop-path
invariant-loop-path l = l.directories.items ≡ shown_directories (take l.path-index l.paths)
