use Rattle.std.proofs.Common.{arith, ◌≡◌, ◌∙◌, ◌+◌, ◌<◌, ◌∷◌, [], drop, length, map, sym, ap, subst, refl, Ok, true, false}
use Rattle.std.proofs.lemmas.List.{get_or_default}
use Rattle.ppmacro.specs.HideSets.{hidings}
use Rattle.ppmacro.specs.Substitution.{Arguments, chains_tokens, contents_tokens}
use Rattle.ppmacro.specs.Substituting.{lists_of, ListsKnown, arguments_in, as_replacement}
use Rattle.pptext.proofs.ErrorReturns.{stops}
use Rattle.ppmacro.proofs.PoolGrowthLemmas.{keeps-after}
use Rattle.ppmacro.proofs.ChainReplacementLemmas.{drop-item, arguments-keeps, arguments-known}
use Rattle.ppmacro.proofs.ContentArguments.{before_lists, lists-known, lists-go-on, lists-refused}
use Rattle.ppmacro.proofs.substituting.contents.contents_tokens.Goals as goal

pub chains_tokens-requires : goal.chains_tokens-requires
chains_tokens-requires c = arguments-known c.args.arguments.given.now c.args.arguments.expanded.now c.loop-index.invariant.keeps c.requires

pub returns-in_err-tokens-clause-is : goal.returns-in_err-tokens-clause-is
returns-in_err-tokens-clause-is c =
    let s = c.args.sets.now in
    let t = c.loop-index.sets in
    let i = c.loop-index.index in
    let cs = c.args.list.now.contents in
    let content = c.content-content.result in
    let args : Arguments = arguments_in s c.args.arguments.given.now c.args.arguments.expanded.now in
    let less : i < length cs = omega (arith, c.loop-index-test.true, c.content_count-index-end.ensures) in
    let next : drop i cs ≡ content ∷ drop (i + 1) cs = drop-item cs i content less (c.content-content.ensures ∙ get_or_default cs i [] content less) in
    let kept = arguments-keeps c.args.arguments.given.now c.args.arguments.expanded.now c.loop-index.invariant.keeps c.requires in
    let ls = map (hidings t) (lists_of c.loop-index.lists.items) in
    stops _ _ _ _ _ _ c.from_residual-in_err-tokens.ensures.1 c.in_err-tokens.ensures.is (λ fault e.
    lists-refused args c.args.used ls content (drop (i + 1) cs) fault (e ∙ ap (λ a. chains_tokens a c.args.used false true content) kept)
    ∙ ap (λ ds. before_lists ls (contents_tokens args c.args.used ds)) (sym next)
    ∙ c.loop-index.invariant.same)

pub loop-index-preserved : goal.loop-index-preserved
loop-index-preserved c =
    let s = c.args.sets.now in
    let t = c.loop-index.sets in
    let u = c.chains_tokens.new.sets in
    let i = c.loop-index.index in
    let cs = c.args.list.now.contents in
    let content = c.content-content.result in
    let lists = c.loop-index.lists.items in
    let tokens = c.in_ok-tokens.tokens in
    let args : Arguments = arguments_in s c.args.arguments.given.now c.args.arguments.expanded.now in
    let less : i < length cs = omega (arith, c.loop-index-test.true, c.content_count-index-end.ensures) in
    let next : drop i cs ≡ content ∷ drop (i + 1) cs = drop-item cs i content less (c.content-content.ensures ∙ get_or_default cs i [] content less) in
    let kept = arguments-keeps c.args.arguments.given.now c.args.arguments.expanded.now c.loop-index.invariant.keeps c.requires in
    let made : Ok (as_replacement u tokens.items c.in_ok-tokens.field-0-1) ≡ chains_tokens args c.args.used false true content =
    c.in_ok-tokens.ensures.is ∙ ap (λ a. chains_tokens a c.args.used false true content) kept in
    record {
      same = ap (λ vs. before_lists (map (hidings u) (lists_of vs)) (contents_tokens args c.args.used (drop (i + 1) cs))) c.in_ok-push.ensures.items
          ∙ lists-go-on args c.args.used lists tokens content (drop (i + 1) cs) (as_replacement u tokens.items c.in_ok-tokens.field-0-1) c.in_ok-tokens.ensures.keeps c.loop-index.invariant.lists_known made refl
          ∙ ap (λ ds. before_lists (map (hidings t) (lists_of lists)) (contents_tokens args c.args.used ds)) (sym next)
          ∙ c.loop-index.invariant.same;
      lists_known = subst (ListsKnown u) (sym c.in_ok-push.ensures.items) (lists-known lists tokens c.in_ok-tokens.ensures.keeps c.loop-index.invariant.lists_known c.in_ok-tokens.ensures.known);
      keeps = keeps-after c.loop-index.invariant.keeps c.in_ok-tokens.ensures.keeps;
    }
