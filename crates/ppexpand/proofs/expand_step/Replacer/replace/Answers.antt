use Rattle.std.proofs.Common.{◌≡◌, ◌∙◌, ◌++◌, sym, ap, subst}
use Rattle.std.proofs.lemmas.List.{map-append}
use Rattle.std.specs.FinSet as set
use Rattle.pptext.proofs.ErrorReturns.{raises}
use Rattle.ppmacro.specs.HideSets.{set_at, hiding, hidings, AllKnown}
use Rattle.ppmacro.specs.Patterns.{pattern_chains}
use Rattle.ppmacro.specs.Substitution.{replacement_by}
use Rattle.ppmacro.specs.Substituting.{arguments_in}
use Rattle.ppexpand.proofs.SpaceFlags.{hidings-spaced, known-spaced}
use Rattle.ppmacro.proofs.PoolGrowthLemmas.{hidings-keeps, known-keeps, known-append}
use Rattle.ppexpand.specs.ExpansionStep.{Replaced, space_next, replaced_by}
use Rattle.ppexpand.proofs.expand_step.Replacer.replace.Goals as goal

pub returns-in_err-tokens-clause-is : goal.returns-in_err-tokens-clause-is
returns-in_err-tokens-clause-is c =
    let s = c.args.self.now.sets in
    raises _ _ _ _ _ c.from_residual-in_err-tokens.ensures.1 c.in_err-tokens.ensures.is (λ f same. ap (λ r. replaced_by r (hidings s c.args.list.now))
    (same
    ∙ (λ i. replacement_by (pattern_chains c.args.pattern.now) (arguments_in s c.args.arguments.given.now c.args.arguments.expanded.now)
    (set.insert (set_at s c.args.base) (c.text.ensures i)) (c.used.ensures i) (c.space.ensures i))))

pub returns-clause-is : goal.returns-clause-is
returns-clause-is c =
    let s = c.args.self.now.sets in
    let t = c.substitute_pattern.new.sets in
    let list = c.args.list.now in
    let tokens = c.in_ok-tokens.tokens.items in
    let pending = c.in_ok-tokens.pending in
    let made = c.in_ok-tokens.ensures.is
    ∙ (λ i. replacement_by (pattern_chains c.args.pattern.now) (arguments_in s c.args.arguments.given.now c.args.arguments.expanded.now)
    (set.insert (set_at s c.args.base) (c.text.ensures i)) (c.used.ensures i) (c.space.ensures i)) in
    let spaced : hidings t c.space_next.new.self ≡ space_next pending (hidings s list) =
    ap (hidings t) c.space_next.ensures ∙ hidings-spaced t pending list ∙ ap (space_next pending) (hidings-keeps list c.in_ok-tokens.ensures.keeps c.requires.list) in
    let all : hidings t c.push_all.new.self ≡ hidings t tokens ++ space_next pending (hidings s list) =
    ap (hidings t) c.in_ok-push_all.ensures ∙ map-append (hiding t) tokens c.space_next.new.self ∙ ap (λ hs. hidings t tokens ++ hs) spaced in
    ap Replaced all ∙ ap (λ r. replaced_by r (hidings s list)) made

pub returns-clause-known : goal.returns-clause-known
returns-clause-known c =
    let t = c.substitute_pattern.new.sets in
    let pending = c.in_ok-tokens.pending in
    let list_known = known-spaced t pending c.args.list.now (known-keeps c.args.list.now c.in_ok-tokens.ensures.keeps c.requires.list) in
    let rest : AllKnown t c.space_next.new.self = subst (AllKnown t) (sym c.space_next.ensures) list_known in
    subst (AllKnown t) (sym c.in_ok-push_all.ensures) (known-append c.in_ok-tokens.tokens.items c.space_next.new.self c.in_ok-tokens.ensures.known rest)
