use Rattle.std.proofs.Common.{◌≡◌, ◌∙◌, ◌∷◌, IfSome, sym, ap, subst}
use Rattle.ppmacro.specs.HideSets.{IsKnown, HasSets, hiding, hidings, AllKnown}
use Rattle.ppmacro.specs.Hiding.{Hiding}
use Rattle.ppmacro.proofs.PoolGrowthLemmas.{hiding-keeps, hidings-keeps, known-keeps}
use Rattle.ppexpand.specs.ExpansionStep.{counter_value}
use Rattle.ppexpand.proofs.expand_step.Replacer.push_number.Goals as goal

pub returns-clause-is : goal.returns-clause-is
returns-clause-is c =
    let s = c.args.self.now.sets in
    let t = c.with_own_name.new.self in
    let keeps = c.in_ok-names_to_hide.ensures.keeps in
    let number = c.args.number in
    let name : Hiding = hiding s c.args.name_token.now in
    let value : hiding t c.in_ok-counter_value.field-0 ≡ counter_value number name =
    c.in_ok-counter_value.ensures.is t ∙ (λ i. record { token = (counter_value number (hiding-keeps c.args.name_token.now keeps c.requires.name_token i)).token; hide = c.in_ok-names_to_hide.ensures.set i }) in
    let rest : hidings t c.args.list.now ≡ hidings s c.args.list.now = hidings-keeps c.args.list.now keeps c.requires.list in
    ap (hidings t) c.in_ok-push.ensures ∙ (λ i. value i ∷ rest i)

pub returns-clause-known : goal.returns-clause-known
returns-clause-known c =
    let t = c.with_own_name.new.self in
    let names_to_hide = c.in_ok-counter_value.ensures.names_to_hide in
    let here : HasSets t c.in_ok-counter_value.field-0 = record { hide = subst (IsKnown t) (sym names_to_hide.0) c.in_ok-names_to_hide.ensures.known; extra = subst (λ o. IfSome o (IsKnown t)) (sym names_to_hide.1) tt } in
    let rest = known-keeps c.args.list.now c.in_ok-names_to_hide.ensures.keeps c.requires.list in
    subst (AllKnown t) (sym c.in_ok-push.ensures) (record { each = (here, rest.each) })
