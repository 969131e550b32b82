use Rattle.std.proofs.Common.{◌≡◌, ◌∙◌, sym, ap, subst, Bool, List, [], ◌∷◌, ◌++◌, append_assoc, rules}
use Rattle.std.proofs.lemmas.List.{map-append}
use Rattle.ppmacro.specs.HideSetPool.{HideSetPool}
use Rattle.ppmacro.specs.HideSets.{hiding, hidings, HasSets, AllKnown}
use Rattle.ppmacro.specs.Substitution.{space_first}
use Rattle.ppmacro.specs.declared.hidden_token.Hidden.{Hidden}
use Rattle.ppmacro.proofs.PoolGrowthLemmas.{known-append}
use Rattle.ppmacro.proofs.substituting.push_spaced.Goals as goal

abbrev marked : Bool → Hidden → Hidden
marked space h = record h { token = record h.token { space = space } }

-- A list after others are appended, the first of them with this leading-space flag.
tokens-following : (s : HideSetPool) (front : List Hidden) (space : Bool) (first : Hidden) (others : List Hidden)
    → hidings s ((front ++ marked space first ∷ []) ++ others) ≡ hidings s front ++ (space_first space (hidings s (first ∷ others))).tokens
tokens-following s front space first others =
    ap (hidings s) (append_assoc front (marked space first ∷ []) others) ∙ map-append (hiding s) front (marked space first ∷ others)

known-rest : (s : HideSetPool) (front : List Hidden) (space : Bool) (first : Hidden) (others : List Hidden)
    → AllKnown s front
    → AllKnown s (first ∷ others)
    → AllKnown s ((front ++ marked space first ∷ []) ++ others)
known-rest s front space first others known more =
    let here : HasSets s (marked space first) = record { hide = more.each.0.hide; extra = more.each.0.extra } in
    known-append (front ++ marked space first ∷ []) others (known-append front (marked space first ∷ []) known (record { each = (here, tt) })) (record { each = more.each.1 })

pub returns-clause-tokens : goal.returns-clause-tokens
returns-clause-tokens c = λ s.
    let front = c.args.tokens.now.items in
    let first = c.in-Some.first.now in
    let others = c.in-Some.others.now in
    let whole : c.push_all.new.tokens.items ≡ (front ++ marked c.args.pending first ∷ []) ++ others =
    c.in_ok-push_all.ensures ∙ ap (λ hs. hs ++ others) (c.in_ok-push.ensures ∙ (λ i. c.in_ok-reserve.ensures.items i ++ c.in_ok-copy_with_space.ensures i ∷ [])) in
    ap (hidings s) whole
    ∙ tokens-following s front c.args.pending first others
    ∙ ap (λ hs. hidings s front ++ (space_first c.args.pending (hidings s hs)).tokens) (sym c.in-Some.ensures.cases.0)

pub returns-clause-known : goal.returns-clause-known
returns-clause-known c = λ s known more.
    let front = c.args.tokens.now.items in
    let first = c.in-Some.first.now in
    let others = c.in-Some.others.now in
    let whole : c.push_all.new.tokens.items ≡ (front ++ marked c.args.pending first ∷ []) ++ others =
    c.in_ok-push_all.ensures ∙ ap (λ hs. hs ++ others) (c.in_ok-push.ensures ∙ (λ i. c.in_ok-reserve.ensures.items i ++ c.in_ok-copy_with_space.ensures i ∷ [])) in
    subst (AllKnown s) (sym whole) (known-rest s front c.args.pending first others known (subst (AllKnown s) c.in-Some.ensures.cases.0 more))

pub returns-clause-pending : goal.returns-clause-pending
returns-clause-pending c = search rules
