use Rattle.std.proofs.Common.{◌≡◌, ◌∙◌, false, ap, subst, get_or, length}
use Rattle.std.specs.List.{filter, range_with_len}
use Rattle.std.proofs.lemmas.List.{length-replicate}
use Rattle.ppmacro.specs.code.PreparedDefinitions.{AreMarked}
use Rattle.ppmacro.proofs.ExpansionOrders.{marked_parameters}
use Rattle.ppmacro.proofs.pre_expansion.UsedParameters.new.Goals as goal

pub returns-clause-by_parameter : goal.returns-clause-by_parameter
returns-clause-by_parameter c =
    let n = c.args.parameters in
    let marks = c.push_uses.new.marks.items in
    let len : length marks ≡ n = c.push_uses.ensures.len ∙ ap length (c.in_ok-marks.ensures.items_if_clones_equal (λ y e. e)) ∙ length-replicate n false in
    c.in_ok-by_parameter.ensures
    ∙ (λ j. filter (λ i. get_or (c.as_slice.ensures.value j) i false) (range_with_len 0 (length (c.as_slice.ensures.value j))))
    ∙ ap (λ k. filter (λ i. get_or marks i false) (range_with_len 0 k)) len
    ∙ marked_parameters marks n c.args.uses.now len (subst (AreMarked marks) c.in_ok-push_uses.ensures.by_use c.in_ok-push_uses.ensures.marked)
