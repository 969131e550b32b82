use Rattle.std.proofs.Common.{rules, ◌∙◌, ap}
use Rattle.std.specs.List.{list_all}
use Rattle.std.proofs.lemmas.Iterator.{YieldsList-from_slice}
use Rattle.std.proofs.lemmas.Iterator.Search.{all_from_yields_List}
use Rattle.ppunit.specs.WellFormed.{is_one_line}
use Rattle.ppserve.proofs.list.validation.are_lines.Goals as goal
use borrow.Author.Tests.{tests}

pub returns : goal.returns
returns c = all_from_yields_List is_one_line _ _ _ c.all.ensures.ran
    (YieldsList-from_slice c.as_slice.result.now c.iter.ensures.rest)
    (λ x b q k. search (rules, tests))
    ∙ ap (list_all is_one_line) c.as_slice.ensures
