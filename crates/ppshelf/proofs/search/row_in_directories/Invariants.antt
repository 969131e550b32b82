use Rattle.std.proofs.Common.{◌++◌}
use Rattle.ppshelf.proofs.SearchResults.{Passed}
use Rattle.ppshelf.proofs.search.row_in_directories.Given as goal

abbrev pub invariant-loop-index : goal.invariant-loop-index
invariant-loop-index g l = Passed l.shelf.names (l.directories.unit.now ++ l.directories.setting.now) l.name l.number l.index
