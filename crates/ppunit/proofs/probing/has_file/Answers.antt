use Rattle.std.proofs.Common.{[], ◌∙◌}
use Rattle.ppunit.specs.Directives.{candidates_for}
use Rattle.ppunit.specs.code.Contexts.{search_in_unit}
use Rattle.ppunit.proofs.FileSearch.{found_is}
use Rattle.ppunit.proofs.probing.has_file.Goals as goal

pub returns : goal.returns
returns g c =
    let context = c.args.context.now in
    c.is_some.ensures
    ∙ found_is context.shelf.names (candidates_for (search_in_unit context) c.args.from.row c.args.from.directory c.args.include_name.now)
    c.in_ok-found.found (c.in_ok-found.ensures.finds [])
