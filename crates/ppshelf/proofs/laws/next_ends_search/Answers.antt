use Rattle.ppshelf.proofs.SearchResults.{behind_ends}
use Rattle.ppshelf.proofs.laws.next_ends_search.Goals as goal

pub returns : goal.returns
returns c = behind_ends
