use Rattle.std.proofs.Common.{rules, ◌∙◌, ap}
use Rattle.std.proofs.lemmas.Iterator.{YieldsList-from_slice}
use Rattle.std.proofs.lemmas.Iterator.Search.{all_from_yields_List}
use Rattle.ppserve.specs.Drafts.{DraftPath}
use Rattle.ppserve.specs.Listing.{are_shown, is_shown_if_any}
use Rattle.ppserve.proofs.list.validation.are_shown.Goals as goal
use borrow.Author.Tests.{tests}

pub returns : goal.returns
returns c = all_from_yields_List (λ (p : DraftPath). is_shown_if_any p.shown) _ _ _ c.all.ensures.ran
    (YieldsList-from_slice c.as_slice.result.now c.iter.ensures.rest)
    (λ x b q k. search (rules, tests))
    ∙ ap are_shown c.as_slice.ensures
