use Rattle.std.proofs.Common.{◌≡◌, ◌∙◌, ◌∷◌, [], ◌++◌, true, false, refl, sym, ap, subst, true≢false}
use Rattle.std.specs.FinSet as set
use Rattle.std.proofs.lemmas.Bool.{eqb-true, eq-eqb}
use Rattle.std.proofs.lemmas.Result.{on_ok_weaker}
use Rattle.ppmacro.specs.HideSets.{set_at, hide_of, AllKnown}
use Rattle.ppmacro.specs.Substituting.{tokens_of}
use Rattle.ppmacro.proofs.PoolGrowthLemmas.{set-keeps, known-keeps, known-append, keeps-after}
use Rattle.ppexpand.specs.code.Lists.{next_macro}
use Rattle.ppexpand.proofs.SkippedTokens.{next-known, more-known}
use Rattle.ppexpand.proofs.LoneSteps.{insert-again, has-inserted, known-lone, rest_known, passed_hidden, passed_lone}
use Rattle.ppexpand.proofs.lone_steps.replace_lone.Goals as goal

pub returns-in_default-clause-passed : goal.returns-in_default-clause-passed
returns-in_default-clause-passed c =
    let macros = c.args.context.now.table.now.macros in
    let named = c.requires.named in
    absurd (cc (sym (ap (λ l. next_macro macros (tokens_of l)) c.in_default.ensures.0) ∙ named.named))

pub returns-then-eq-clause-passed : goal.returns-then-eq-clause-passed
returns-then-eq-clause-passed c =
    let macros = c.args.context.now.table.now.macros in
    let env = c.args.context.now.env.now in
    let level = c.args.context.now.level in
    let s = c.args.sets.now in
    let t = c.with.new.self in
    let h = c.in-Some.name_token in
    let named = c.requires.named in
    let keeps = keeps-after c.in_ok-base.ensures.keeps c.in_ok-names_to_hide.ensures.keeps in
    let before : set_at t c.in_ok-base.base ≡ hide_of s h = set-keeps c.in_ok-base.base c.in_ok-names_to_hide.ensures.keeps c.in_ok-base.ensures.known ∙ c.in_ok-base.ensures.set in
    let after : set_at t c.in_ok-names_to_hide.names_to_hide ≡ set.insert (hide_of s h) h.token.text =
    c.in_ok-names_to_hide.ensures.set ∙ (λ i. set.insert (c.in_ok-base.ensures.set i) (c.text.ensures i)) in
    let equal : c.in_ok-names_to_hide.names_to_hide ≡ c.in_ok-base.base = eqb-true _ _ (sym c.eq.ensures ∙ c.if-eq.true) in
    let same : set.insert (hide_of s h) h.token.text ≡ hide_of s h = sym after ∙ ap (set_at t) equal ∙ before in
    let has = ap (λ names. set.contains names h.token.text) (sym same) ∙ has-inserted (hide_of s h) h.token.text in
    on_ok_weaker c.push_single.result
    (λ e. passed_hidden macros env level c.args.meter.now s t h c.args.list.now c.next.new.self c.args.emitted.now named.macro keeps c.requires.list_known c.requires.emitted_known
    c.in-Some.ensures named.named c.push_single.new.self e has)
    c.push_single.ensures

pub returns-clause-passed : goal.returns-clause-passed
returns-clause-passed c =
    let macros = c.args.context.now.table.now.macros in
    let env = c.args.context.now.env.now in
    let level = c.args.context.now.level in
    let s = c.args.sets.now in
    let t = c.with.new.self in
    let h = c.in-Some.name_token in
    let named = c.requires.named in
    let keeps = keeps-after c.in_ok-base.ensures.keeps c.in_ok-names_to_hide.ensures.keeps in
    let after : set_at t c.in_ok-names_to_hide.names_to_hide ≡ set.insert (hide_of s h) h.token.text =
    c.in_ok-names_to_hide.ensures.set ∙ (λ i. set.insert (c.in_ok-base.ensures.set i) (c.text.ensures i)) in
    let again : set.contains (hide_of s h) h.token.text ≡ true → c.in_ok-names_to_hide.names_to_hide ≡ c.in_ok-base.base = λ has.
    let u = c.hide_set_of.new.self in
    let there : set.contains (set_at u c.in_ok-base.base) c.text.result.now ≡ true = (λ i. set.contains (c.in_ok-base.ensures.set i) (c.text.ensures i)) ∙ has in
    let found = c.in_ok-names_to_hide.ensures.there c.in_ok-base.base c.in_ok-base.ensures.known (sym (insert-again (set_at u c.in_ok-base.base) c.text.result.now there)) in
    cc found.0 in
    let free : set.contains (hide_of s h) h.token.text ≡ false =
    elim (set.contains (hide_of s h) h.token.text) as (λ b. set.contains (hide_of s h) h.token.text ≡ b → set.contains (hide_of s h) h.token.text ≡ false) [
      | true ↦ λ has. absurd (true≢false (sym (c.eq.ensures ∙ eq-eqb _ _ (again has)) ∙ c.if-eq.false))
      | false ↦ λ e. e
    ] refl in
    passed_lone macros env level c.args.meter.now s t h c.args.list.now c.next.new.self c.args.emitted.now named.macro keeps c.requires.list_known c.requires.emitted_known
    c.in-Some.ensures named.named c.args.body.now c.in_ok-names_to_hide.names_to_hide c.emit_replacement.new.list c.emit_replacement.new.emitted c.spend_one.result
    named.lone named.chains c.requires.remains free after c.in_ok-emit_replacement.ensures c.spend_one.ensures

pub returns-then-eq-clause-list_known : goal.returns-then-eq-clause-list_known
returns-then-eq-clause-list_known c =
    let named = c.requires.named in
    let keeps = keeps-after c.in_ok-base.ensures.keeps c.in_ok-names_to_hide.ensures.keeps in
    on_ok_weaker c.push_single.result
    (λ _. rest_known c.args.context.now.table.now.macros c.args.context.now.env.now c.args.context.now.level c.args.meter.now c.args.sets.now c.with.new.self c.in-Some.name_token c.args.list.now c.next.new.self
    c.args.emitted.now named.macro keeps c.requires.list_known c.requires.emitted_known c.in-Some.ensures named.named)
    c.push_single.ensures

pub returns-then-eq-clause-emitted_known : goal.returns-then-eq-clause-emitted_known
returns-then-eq-clause-emitted_known c =
    let s = c.args.sets.now in
    let t = c.with.new.self in
    let h = c.in-Some.name_token in
    let keeps = keeps-after c.in_ok-base.ensures.keeps c.in_ok-names_to_hide.ensures.keeps in
    let whole : AllKnown s (h ∷ c.next.new.self) = subst (AllKnown s) c.in-Some.ensures c.requires.list_known in
    let here : AllKnown s (h ∷ []) = record { each = (whole.each.0, tt) } in
    on_ok_weaker c.push_single.result
    (λ e. subst (AllKnown t) (sym e) (known-keeps (c.args.emitted.now ++ h ∷ []) keeps (known-append c.args.emitted.now (h ∷ []) c.requires.emitted_known here)))
    c.push_single.ensures

pub returns-clause-list_known : goal.returns-clause-list_known
returns-clause-list_known c =
    let s = c.args.sets.now in
    let t = c.with.new.self in
    let h = c.in-Some.name_token in
    let named = c.requires.named in
    let keeps = keeps-after c.in_ok-base.ensures.keeps c.in_ok-names_to_hide.ensures.keeps in
    let rest = rest_known c.args.context.now.table.now.macros c.args.context.now.env.now c.args.context.now.level c.args.meter.now s t h c.args.list.now c.next.new.self
    c.args.emitted.now named.macro keeps c.requires.list_known c.requires.emitted_known c.in-Some.ensures named.named in
    let middle = known-lone t c.in_ok-names_to_hide.names_to_hide h.token.used h.token.space c.args.body.now c.next.new.self c.in_ok-names_to_hide.ensures.known rest in
    next-known t _ _ _ _ c.in_ok-emit_replacement.ensures middle

pub returns-clause-emitted_known : goal.returns-clause-emitted_known
returns-clause-emitted_known c =
    let s = c.args.sets.now in
    let t = c.with.new.self in
    let h = c.in-Some.name_token in
    let named = c.requires.named in
    let keeps = keeps-after c.in_ok-base.ensures.keeps c.in_ok-names_to_hide.ensures.keeps in
    let rest = rest_known c.args.context.now.table.now.macros c.args.context.now.env.now c.args.context.now.level c.args.meter.now s t h c.args.list.now c.next.new.self
    c.args.emitted.now named.macro keeps c.requires.list_known c.requires.emitted_known c.in-Some.ensures named.named in
    let middle = known-lone t c.in_ok-names_to_hide.names_to_hide h.token.used h.token.space c.args.body.now c.next.new.self c.in_ok-names_to_hide.ensures.known rest in
    more-known t _ _ _ _ c.in_ok-emit_replacement.ensures middle (known-keeps c.args.emitted.now keeps c.requires.emitted_known)
