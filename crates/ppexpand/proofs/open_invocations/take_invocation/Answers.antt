use Rattle.std.proofs.Common.{◌≡◌, ◌∙◌, Bool, ◌&&◌, ◌∷◌, Result, Ok, Err, IfOk, sym, ap}
use Rattle.ppmacro.specs.HideSets.{hiding, hidings}
use Rattle.ppexpand.specs.code.OpenSearch.{open_inside, opens_after_name}
use Rattle.ppexpand.proofs.OpenLists.{stays_open_is}
use Rattle.ppexpand.proofs.open_invocations.take_invocation.Goals as goal

with_same : {E : Type 0} (r : Result Bool E) (a b : Bool) → a ≡ b → IfOk r (λ x. x ≡ b) → IfOk r (λ x. x ≡ a)
with_same (Ok x) a b same h = h ∙ sym same
with_same (Err e) a b same h = tt

pub returns-clause-is : goal.returns-clause-is
returns-clause-is c =
    let sets = c.args.sets.now in
    let paren = hiding sets c.in-Some-next.paren in
    let inside = hidings sets c.next-2.new.self in
    let list = ap (λ hs. opens_after_name (hidings sets hs)) (c.in-Some.ensures ∙ ap (λ hs. c.in-Some.name_token ∷ hs) c.in-Some-next.ensures) in
    let opens = sym c.is_open-opens.ensures ∙ c.if-not-opens.false in
    let own = sym c.hides_nothing-own.ensures ∙ c.if-not-own.false in
    with_same c.take_inside.result _ (open_inside 0 inside)
    (list ∙ stays_open_is paren inside ∙ (λ i. opens i && (own i && open_inside 0 inside))) c.take_inside.ensures.is
