use Rattle.std.proofs.Common.{rules, ◌∙◌, ap}
use Rattle.std.proofs.lemmas.Iterator.{YieldsList-from_slice}
use Rattle.std.proofs.lemmas.Iterator.Search.{all_from_yields_List}
use Rattle.ppshelf.specs.Names.{is_directory}
use Rattle.ppserve.specs.Drafts.{DraftPath}
use Rattle.ppserve.specs.Listing.{are_directories}
use Rattle.ppserve.proofs.list.validation.are_directories.Goals as goal
use borrow.Author.Tests.{tests}

pub returns : goal.returns
returns c = all_from_yields_List (λ (p : DraftPath). is_directory p.name) _ _ _ c.all.ensures.ran
    (YieldsList-from_slice c.as_slice.result.now c.iter.ensures.rest)
    (λ x b q k. search (rules, tests))
    ∙ ap are_directories c.as_slice.ensures
