use Rattle.ppshelf.proofs.SearchResults.{one_first}
use Rattle.ppshelf.proofs.laws.one_row.Goals as goal

pub returns : goal.returns
returns c names candidates a b good = one_first names good candidates a b
