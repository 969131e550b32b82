use Rattle.ppshelf.proofs.SearchResults.{some_first}
use Rattle.ppshelf.proofs.laws.some_row.Goals as goal

pub returns : goal.returns
returns c = some_first
