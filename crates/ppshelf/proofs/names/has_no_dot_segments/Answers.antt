use Rattle.std.proofs.Common.{rules, ◌==◌}
use Rattle.std.proofs.lemmas.Iterator.Search.{all_from_yields_List}
use Rattle.std.proofs.lemmas.Iterator.Splits.{YieldsList-from_slice_split}
use Rattle.ppshelf.proofs.names.has_no_dot_segments.Goals as goal
use borrow.Author.Tests.{tests}
use Rattle.ppshelf.specs.code.Paths.{starts_without_dot}

pub returns : goal.returns
returns c = all_from_yields_List starts_without_dot _ _ _ c.all.ensures.ran
    (YieldsList-from_slice_split _ (λ b. b == 47) c.args.text.now c.split.ensures.rest c.split.ensures.done c.split.ensures.closure (λ x b q k. search (rules, tests)))
    (λ x b q k. search (rules, tests))
