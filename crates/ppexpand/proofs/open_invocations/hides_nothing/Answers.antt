use Rattle.std.proofs.Common.{◌≡◌, ◌∙◌, ℕ, Bool, true, false, not, eqb, IfSome, refl, sym, ap, subst, eqb-true, eq-eqb, true≢false}
use Rattle.ppmacro.specs.HideSets.{IsKnown, hiding}
use Rattle.ppexpand.specs.OpenInvocations.{hides_nothing}
use Rattle.ppexpand.proofs.EmptyHideSets.{another_set, one_set, two_empty, two_sets}
use Rattle.ppexpand.proofs.open_invocations.hides_nothing.Goals as goal

differs : (a b : ℕ) (r : Bool) → r ≡ not (eqb a b) → r ≡ true → a ≡ b → ⊥
differs a b r is h same = true≢false (sym h ∙ is ∙ ap not (eq-eqb a b same))

unless_not : (x : Bool) → not x ≡ false → x ≡ true
unless_not true h = refl
unless_not false h = absurd (true≢false h)

agrees : (a b : ℕ) (r : Bool) → r ≡ not (eqb a b) → r ≡ false → a ≡ b
agrees a b r is h = eqb-true a b (unless_not (eqb a b) (sym is ∙ h))

pub returns-then-ne : goal.returns-then-ne
returns-then-ne c =
    another_set c.args.sets.now c.args.hidden.now c.empty-empty.result c.empty-empty.ensures.set c.empty-empty.ensures.known c.sets_are_unique.ensures c.requires
    (λ same. differs c.hide.result c.empty-empty.result c.ne.result c.ne.ensures c.if-ne.true (c.hide.ensures ∙ same))

pub returns-in-Some : goal.returns-in-Some
returns-in-Some c =
    let sets = c.args.sets.now in
    let m = c.in-Some.extra in
    let empty = c.empty-empty.result in
    let same = sym c.hide.ensures ∙ agrees c.hide.result empty c.ne.result c.ne.ensures c.if-ne.false in
    let two = sym c.extra.ensures ∙ c.in-Some.is in
    let m_known : IsKnown sets m = subst (λ o. IfSome o (IsKnown sets)) two c.requires.extra in
    c.eq.ensures ∙ elim (eqb m empty) as (λ b. eqb m empty ≡ b → b ≡ hides_nothing (hiding sets c.args.hidden.now)) [
      | true ↦ λ h. two_empty sets c.args.hidden.now empty c.empty-empty.ensures.set c.empty-empty.ensures.known c.sets_are_unique.ensures c.requires m same two (eqb-true m empty h)
      | false ↦ λ h. two_sets sets c.args.hidden.now empty c.empty-empty.ensures.set c.empty-empty.ensures.known c.sets_are_unique.ensures c.requires m m_known same two (λ e. true≢false (sym (eq-eqb m empty e) ∙ h))
    ] refl

pub returns-in-None : goal.returns-in-None
returns-in-None c =
    one_set c.args.sets.now c.args.hidden.now c.empty-empty.result c.empty-empty.ensures.set c.empty-empty.ensures.known c.sets_are_unique.ensures c.requires
    (sym c.hide.ensures ∙ agrees c.hide.result c.empty-empty.result c.ne.result c.ne.ensures c.if-ne.false) (sym c.extra.ensures ∙ c.in-None.is)
