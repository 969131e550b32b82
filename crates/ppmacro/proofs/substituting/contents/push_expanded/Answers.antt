use Rattle.std.proofs.Common.{◌≡◌, ◌∙◌, ◌+◌, ◌++◌, ◌∷◌, [], suc, take, sym, ap, arith, List, Option}
use Rattle.ppmacro.specs.Substitution.{argument_at}
use Rattle.ppmacro.specs.Substituting.{lists_of, expansion_if_computed, expansions_if_computed}
use Rattle.ppmacro.specs.declared.hidden_token.Hidden.{Hidden}
use Rattle.ppmacro.proofs.ContentArguments.{owned-more, taken-more, taken-all}
use Rattle.ppmacro.proofs.substituting.contents.push_expanded.Goals as goal

pub loop-index-preserved : goal.loop-index-preserved
loop-index-preserved c = λ given.
    let gs = c.args.arguments.given.now in
    let es = c.args.arguments.expanded.now in
    let k = c.loop-index.index in
    let e = c.in-Some.expansion.now in
    let v : Option (List Hidden) = expansion_if_computed (argument_at (lists_of gs) k) e in
    let next : suc k ≡ k + 1 = omega arith in
    ap (expansions_if_computed given) c.in_ok-push.ensures.items
    ∙ owned-more given c.loop-index.copy.items c.in_ok-owned.owned v (λ g. c.in_ok-owned.ensures g ∙ ap (λ hs. expansion_if_computed hs e) c.argument_of-argument.ensures)
    ∙ ap (λ os. os ++ v ∷ []) (c.loop-index.invariant given)
    ∙ sym (taken-more gs es k e c.in-Some.ensures.lookup.3.0 c.in-Some.ensures.lookup.1)
    ∙ ap (λ n. take n (expansions_if_computed gs es)) next

pub returns : goal.returns
returns c = λ given.
    c.loop-index.invariant given ∙ taken-all c.args.arguments.given.now c.args.arguments.expanded.now c.loop-index.index (omega (arith, c.loop-index-test.false))
