use Rattle.std.proofs.lemmas.Result.{IfOk-weaker}
use Rattle.ppshelf.proofs.SearchResults.{first_within}
use Rattle.ppshelf.proofs.search.resolve_next.Goals as goal

pub returns-clause-first : goal.returns-clause-first
returns-clause-first g c = c.row_in_directories.ensures

pub returns-clause-within : goal.returns-clause-within
returns-clause-within g c = IfOk-weaker c.row_in_directories.result _ _ (λ found h. first_within _ _ found h) c.row_in_directories.ensures
