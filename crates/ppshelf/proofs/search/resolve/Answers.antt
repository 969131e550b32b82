use Rattle.std.proofs.lemmas.Result.{IfOk-weaker}
use Rattle.ppshelf.proofs.SearchResults.{first_here, first_later, first_within}
use Rattle.ppshelf.proofs.search.resolve.Goals as goal

pub returns-in-Some-clause-first : goal.returns-in-Some-clause-first
returns-in-Some-clause-first g c = first_here _ _ _ (c.in-Some.row, 0) (rw c.in-Some.is at c.in_ok-in_includer_dir.ensures)

pub returns-clause-first : goal.returns-clause-first
returns-clause-first g c = IfOk-weaker c.row_in_directories.result _ _ (λ found h. first_later _ _ _ found (rw c.in_default.is at c.in_ok-in_includer_dir.ensures) h) c.row_in_directories.ensures

pub returns-in-Some-clause-within : goal.returns-in-Some-clause-within
returns-in-Some-clause-within g c = first_within _ _ _ (rw c.in-Some.is at c.in_ok-in_includer_dir.ensures)

pub returns-clause-within : goal.returns-clause-within
returns-clause-within g c = IfOk-weaker c.row_in_directories.result _ _ (λ found h. first_within _ _ found h) c.row_in_directories.ensures
