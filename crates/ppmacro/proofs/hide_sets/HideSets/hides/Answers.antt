use Rattle.std.proofs.Common.{◌≡◌, ◌∙◌, true, false, sym}
use Rattle.std.specs.FinSet as set
use Rattle.ppmacro.specs.HideSets.{set_at, hidden_names}
use Rattle.ppmacro.proofs.AddedNames.{has-first, has-second}
use Rattle.ppmacro.proofs.hide_sets.HideSets.hides.Goals as goal

pub returns-then-has : goal.returns-then-has
returns-then-has c =
    let s = c.args.self.now in
    let hidden = c.args.hidden.now in
    let has : set.contains (set_at s hidden.hide) hidden.token.text ≡ true = (λ i. set.contains (set_at s (sym c.hide.ensures i)) (sym c.text.ensures i)) ∙ sym c.has.ensures ∙ c.if-has.true in
    sym (has-first s hidden.hide hidden.extra hidden.token.text has)

pub returns-in-Some : goal.returns-in-Some
returns-in-Some c =
    let s = c.args.self.now in
    let hidden = c.args.hidden.now in
    let not : set.contains (set_at s hidden.hide) hidden.token.text ≡ false = (λ i. set.contains (set_at s (sym c.hide.ensures i)) (sym c.text.ensures i)) ∙ sym c.has.ensures ∙ c.if-has.false in
    c.has-in-Some.ensures
    ∙ (λ i. set.contains (set_at s c.in-Some.extra) (c.text-in-Some.ensures i))
    ∙ sym (has-second s hidden.hide c.in-Some.extra hidden.token.text not)
    ∙ (λ i. set.contains (hidden_names s hidden.hide ((sym c.in-Some.is ∙ c.extra.ensures) i)) hidden.token.text)
