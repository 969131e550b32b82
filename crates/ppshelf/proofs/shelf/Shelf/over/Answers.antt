use Rattle.ppshelf.proofs.InitialShelf.{empty_shelf}
use Rattle.std.proofs.Common.{◌∙◌}
use Rattle.ppshelf.proofs.shelf.Shelf.over.Goals as goal

pub invariant_of-result : goal.invariant_of-result
invariant_of-result g c =
    empty_shelf _ c.args.names.names c.in_ok-rows.rows.items _ (c.in_ok-rows.ensures.count ∙ c.len.ensures) c.in_ok-rows.ensures.empty c.requires
