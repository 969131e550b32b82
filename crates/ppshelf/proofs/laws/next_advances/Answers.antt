use Rattle.ppshelf.proofs.SearchResults.{found_behind}
use Rattle.ppshelf.proofs.laws.next_advances.Goals as goal

pub returns : goal.returns
returns c = found_behind
