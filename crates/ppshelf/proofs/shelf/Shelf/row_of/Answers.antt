use Rattle.std.proofs.Common.{rules}
use Rattle.ppshelf.proofs.shelf.Shelf.row_of.Goals as goal

pub returns-clause-row : goal.returns-clause-row
returns-clause-row g c = search rules
