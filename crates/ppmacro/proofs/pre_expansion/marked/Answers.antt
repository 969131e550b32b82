use Rattle.std.proofs.Common.{◌∙◌, ◌∷◌, ◌++◌, [], false, ap, get_or}
use Rattle.ppmacro.proofs.ExpansionOrders.{filter_skips, filter_takes}
use Rattle.ppmacro.proofs.pre_expansion.marked.Goals as goal

pub loop-index-preserved-then-not-mark : goal.loop-index-preserved-then-not-mark
loop-index-preserved-then-not-mark c = c.loop-index.invariant ∙ filter_skips (λ i. get_or c.args.marks.now i false) c.loop-index.index c.if-not-mark.true

pub loop-index-preserved : goal.loop-index-preserved
loop-index-preserved c =
    let i = c.loop-index.index in
    c.in_ok-push.ensures.items
    ∙ ap (λ is. is ++ i ∷ []) c.loop-index.invariant
    ∙ filter_takes (λ i. get_or c.args.marks.now i false) i c.if-not-mark.false
