use Rattle.std.proofs.Common.{◌≡◌, ◌∙◌, ◌∷◌, IfSome, sym, ap, subst}
use Rattle.std.specs.FinSet as set
use Rattle.ppmacro.specs.HideSets.{IsKnown, HasSets, hide_of, hiding, hidings, AllKnown}
use Rattle.ppmacro.proofs.PoolGrowthLemmas.{hiding-keeps, hidings-keeps, known-keeps}
use Rattle.ppexpand.specs.ExpansionStep.{Replaced, predefined_value}
use Rattle.ppexpand.proofs.expand_step.Replacer.predefined_step.Goals as goal

pub returns-clause-is : goal.returns-clause-is
returns-clause-is c =
    let s = c.args.self.now.sets in
    let t = c.with_own_name.new.self in
    let keeps = c.in_ok-names_to_hide.ensures.keeps in
    let value : hiding t c.in_ok-predefined_value.field-0 ≡ predefined_value c.args.predefined c.args.env.now (hiding s c.args.name_token.now) (set.insert (hide_of s c.args.name_token.now) c.args.name_token.now.token.text) =
    c.in_ok-predefined_value.ensures.is t ∙ (λ i. predefined_value c.args.predefined c.args.env.now (hiding-keeps c.args.name_token.now keeps c.requires.name_token i) (c.in_ok-names_to_hide.ensures.set i)) in
    let rest : hidings t c.args.list.now ≡ hidings s c.args.list.now = hidings-keeps c.args.list.now keeps c.requires.list in
    ap (λ hs. Replaced (hidings t hs)) c.in_ok-push.ensures ∙ (λ i. Replaced (value i ∷ rest i))

pub returns-clause-known : goal.returns-clause-known
returns-clause-known c =
    let t = c.with_own_name.new.self in
    let names_to_hide = c.in_ok-predefined_value.ensures.names_to_hide in
    let here : HasSets t c.in_ok-predefined_value.field-0 = record { hide = subst (IsKnown t) (sym names_to_hide.0) c.in_ok-names_to_hide.ensures.known; extra = subst (λ o. IfSome o (IsKnown t)) (sym names_to_hide.1) tt } in
    let rest = known-keeps c.args.list.now c.in_ok-names_to_hide.ensures.keeps c.requires.list in
    subst (AllKnown t) (sym c.in_ok-push.ensures) (record { each = (here, rest.each) })
