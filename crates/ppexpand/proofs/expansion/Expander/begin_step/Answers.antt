use Rattle.std.proofs.Common.{◌≡◌, ◌∙◌, ◌∷◌, ◌++◌, [], List, None, refl, sym, ap, subst, append-nil}
use Rattle.std.proofs.lemmas.List.{map-append}
use Rattle.pptext.proofs.ErrorReturns.{stopped}
use Rattle.ppmacro.specs.HideSets.{hiding, hidings, AllKnown}
use Rattle.ppmacro.proofs.PoolGrowthLemmas.{hidings-keeps, known-keeps, known-append, keeps-after}
use Rattle.ppmacro.specs.Hiding.{Hiding}
use Rattle.ppexpand.specs.declared.meter.Meter.{Meter}
use Rattle.ppexpand.specs.Budget.{count_on}
use Rattle.ppexpand.specs.ExpansionStep.{counter_value}
use Rattle.ppexpand.specs.Expansion.{Expands, done, emits, replaced, counts}
use Rattle.ppexpand.specs.Laws.{Leads, by_emitting, by_replacing, by_counting}
use Rattle.ppexpand.specs.code.ProgramValues.{EndsWith, Advances}
use Rattle.ppexpand.proofs.LoopInvariants.{failed_ends}
use Rattle.ppexpand.proofs.expansion.Expander.begin_step.Goals as goal

pub returns-in_err-action-clause-progress : goal.returns-in_err-action-clause-progress
returns-in_err-action-clause-progress c =
    let macros = c.args.context.now.table.now.macros in
    let env = c.args.context.now.env.now in
    let list = hidings c.args.self.now.replacer.sets c.args.list.now in
    let same = hidings-keeps _ c.in_err-action.ensures.keeps c.requires.emitted_known in
    stopped _ _ _ _ c.from_residual.ensures.1 c.in_err-action.ensures.is (λ f failed level. (failed_ends macros env level c.args.self.now.meter list f failed, same))

pub returns-in-Done-clause-progress : goal.returns-in-Done-clause-progress
returns-in-Done-clause-progress c =
    let macros = c.args.context.now.table.now.macros in
    let env = c.args.context.now.env.now in
    let list = hidings c.args.self.now.replacer.sets c.args.list.now in
    let acted = rw c.in-Done.is at c.in_ok-action.ensures.is in
    let same = hidings-keeps _ c.in_ok-action.ensures.keeps c.requires.emitted_known in
    λ level. (subst (EndsWith macros env level c.args.self.now.meter list None) (sym acted.1) (done (sym acted.0)), same)

pub returns-in-Done-clause-emitted_known : goal.returns-in-Done-clause-emitted_known
returns-in-Done-clause-emitted_known c = known-keeps _ c.in_ok-action.ensures.keeps c.requires.emitted_known

pub returns-in_ok-push_single-in-Emits-clause-progress : goal.returns-in_ok-push_single-in-Emits-clause-progress
returns-in_ok-push_single-in-Emits-clause-progress c =
    let macros = c.args.context.now.table.now.macros in
    let env = c.args.context.now.env.now in
    let list = hidings c.args.self.now.replacer.sets c.args.list.now in
    let s = c.next_step.new.self.sets in
    let next = hidings s c.next_step.new.list in
    let emitted = c.args.emitted.now in
    let token = c.in-Emits.token in
    let acted = rw c.in-Emits.is at c.in_ok-action.ensures.is in
    let shown : hidings s c.push_single.new.self ≡ hidings c.args.self.now.replacer.sets emitted ++ hiding s token ∷ [] =
    ap (hidings s) c.in_ok-push_single-in-Emits.ensures
    ∙ map-append (hiding s) emitted (token ∷ [])
    ∙ ap (λ hs. hs ++ hiding s token ∷ []) (hidings-keeps emitted c.in_ok-action.ensures.keeps c.requires.emitted_known) in
    λ level. (
      hiding s token ∷ [],
      shown,
      subst (λ m. Advances macros env level c.args.self.now.meter list m next (hiding s token ∷ [])) (sym acted.1) (record { prepends_step = λ n out d. emits (sym acted.0) d; leads = by_emitting (sym acted.0) }),
    )

pub returns-in_ok-push_single-in-Emits-clause-emitted_known : goal.returns-in_ok-push_single-in-Emits-clause-emitted_known
returns-in_ok-push_single-in-Emits-clause-emitted_known c =
    let s = c.next_step.new.self.sets in
    let known = rw c.in-Emits.is at c.in_ok-action.ensures.known in
    let before = known-keeps _ c.in_ok-action.ensures.keeps c.requires.emitted_known in
    subst (AllKnown s) (sym c.in_ok-push_single-in-Emits.ensures) (known-append c.args.emitted.now (c.in-Emits.token ∷ []) before (record { each = (known.0, tt) }))

pub returns-in-Replaced-clause-progress : goal.returns-in-Replaced-clause-progress
returns-in-Replaced-clause-progress c =
    let macros = c.args.context.now.table.now.macros in
    let env = c.args.context.now.env.now in
    let list = hidings c.args.self.now.replacer.sets c.args.list.now in
    let next = hidings c.next_step.new.self.sets c.next_step.new.list in
    let acted = rw c.in-Replaced.is at c.in_ok-action.ensures.is in
    let same = hidings-keeps _ c.in_ok-action.ensures.keeps c.requires.emitted_known ∙ sym (append-nil _) in
    λ level. (
      [],
      same,
      subst (λ m. Advances macros env level c.args.self.now.meter list m next []) (sym acted.1) (record { prepends_step = λ n out d. replaced (sym acted.0) d; leads = by_replacing (sym acted.0) }),
    )

pub returns-in-Replaced-clause-emitted_known : goal.returns-in-Replaced-clause-emitted_known
returns-in-Replaced-clause-emitted_known c = known-keeps _ c.in_ok-action.ensures.keeps c.requires.emitted_known

pub returns-in-Invoked-clause-progress : goal.returns-in-Invoked-clause-progress
returns-in-Invoked-clause-progress c =
    let acted = rw c.in-Invoked.is at c.in_ok-action.ensures.is in
    (sym acted.0, refl, acted.1, hidings-keeps _ c.in_ok-action.ensures.keeps c.requires.emitted_known)

pub returns-in-Invoked-clause-emitted_known : goal.returns-in-Invoked-clause-emitted_known
returns-in-Invoked-clause-emitted_known c = known-keeps _ c.in_ok-action.ensures.keeps c.requires.emitted_known

pub returns-in_ok-replace_counter-in-Counts-clause-progress : goal.returns-in_ok-replace_counter-in-Counts-clause-progress
returns-in_ok-replace_counter-in-Counts-clause-progress c =
    let macros = c.args.context.now.table.now.macros in
    let env = c.args.context.now.env.now in
    let before = c.args.self.now.meter in
    let list = hidings c.args.self.now.replacer.sets c.args.list.now in
    let s = c.next_step.new.self.sets in
    let rest = hidings s c.next_step.new.list in
    let token = hiding s c.in-Counts.token in
    let acted = rw c.in-Counts.is at c.in_ok-action.ensures.is in
    let after = c.replace_counter.new.self.meter in
    let next = hidings c.replace_counter.new.self.replacer.sets c.replace_counter.new.list in
    let meters : after ≡ count_on before = c.in_ok-replace_counter-in-Counts.ensures.meter ∙ ap count_on acted.1 in
    let lists : next ≡ counter_value before.counter token ∷ rest = c.in_ok-replace_counter-in-Counts.ensures.is ∙ ap (λ (m : Meter). counter_value m.counter token ∷ rest) acted.1 in
    let same = hidings-keeps _ (keeps-after c.in_ok-action.ensures.keeps c.in_ok-replace_counter-in-Counts.ensures.keeps) c.requires.emitted_known ∙ sym (append-nil _) in
    λ level. (
      [],
      same,
      record {
        prepends_step = λ n out d. counts (sym acted.0) (subst (λ (p : Meter × List Hiding). Expands macros env level p.0 n p.1 out) (λ i. (meters i, lists i)) d);
        leads = subst (λ (p : Meter × List Hiding). Leads macros env level before list p.0 p.1) (λ i. (sym meters i, sym lists i)) (by_counting (sym acted.0));
      },
    )

pub returns-in_ok-replace_counter-in-Counts-clause-emitted_known : goal.returns-in_ok-replace_counter-in-Counts-clause-emitted_known
returns-in_ok-replace_counter-in-Counts-clause-emitted_known c =
    known-keeps _ (keeps-after c.in_ok-action.ensures.keeps c.in_ok-replace_counter-in-Counts.ensures.keeps) c.requires.emitted_known
