use Rattle.std.proofs.Common.{rules, ◌∙◌, ap}
use Rattle.std.proofs.lemmas.Iterator.{YieldsList-from_slice}
use Rattle.std.proofs.lemmas.Iterator.Search.{all_from_yields_List}
use Rattle.ppserve.specs.Drafts.{DraftPath}
use Rattle.ppserve.specs.Listing.{is_known, paths_are_known}
use Rattle.ppserve.proofs.list.validation.paths_are_known.Goals as goal
use borrow.Author.Tests.{tests}

pub returns : goal.returns
returns c = all_from_yields_List (λ (p : DraftPath). is_known c.args.names.now.names p.name) _ _ _ c.all.ensures.ran
    (YieldsList-from_slice c.as_slice.result.now c.iter.ensures.rest)
    (λ x b q k. search (rules, tests))
    ∙ ap (paths_are_known c.args.names.now.names) c.as_slice.ensures
