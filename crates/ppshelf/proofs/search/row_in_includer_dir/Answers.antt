use Rattle.std.proofs.Common.{rules, Some, []}
use Rattle.std.proofs.lemmas.Result.{IfOk-weaker}
use Rattle.ppshelf.specs.Search.{follow}
use Rattle.ppshelf.proofs.SearchResults.{first_alone}
use Rattle.ppshelf.proofs.search.row_in_includer_dir.Goals as goal

pub returns : goal.returns
returns g c =
    let path = follow (follow (Some []) c.directory_of-directory.result.now) c.args.name.now in
    IfOk-weaker c.row_in_directory.result _ _ (λ row h. let found = first_alone c.args.shelf.now.names 0 path row h in search rules) c.row_in_directory.ensures
