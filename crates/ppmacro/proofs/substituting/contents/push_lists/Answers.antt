use Rattle.std.proofs.Common.{◌∙◌, ◌++◌, ◌∷◌, [], Some, ap}
use Rattle.ppmacro.specs.Substituting.{expansions_if_computed}
use Rattle.ppmacro.specs.declared.hidden_token.ArgumentExpansion.TheVariants.{Owned}
use Rattle.ppmacro.proofs.ContentArguments.{owned-more, somes-more}
use Rattle.ppmacro.proofs.substituting.contents.push_lists.Goals as goal

pub loop-tokens-preserved : goal.loop-tokens-preserved
loop-tokens-preserved c = λ given.
    let k = c.loop-tokens.tokens-index in
    let lists = c.args.lists.now in
    let tokens = c.tokens-item.result in
    let copy = c.in_ok-copy.copy in
    ap (expansions_if_computed given) c.in_ok-push.ensures.items
    ∙ owned-more given c.loop-tokens.expanded.items (Owned copy) (Some tokens.items) (λ g. ap Some (c.in_ok-copy.ensures ∙ c.as_slice.ensures.value))
    ∙ ap (λ os. os ++ Some tokens.items ∷ []) (c.loop-tokens.invariant given)
    ∙ somes-more (expansions_if_computed given c.args.expanded.now.items) lists k tokens c.loop-tokens-test.true c.tokens-item.is
