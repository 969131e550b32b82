use Rattle.std.proofs.Common.{rules, ◌≡◌, ◌∙◌, ◌∷◌, [], ◌++◌, map, sym, ap, subst}
use Rattle.std.proofs.lemmas.List.{nil_from_length}
use Rattle.std.proofs.lemmas.Result.{on_ok_weaker}
use Rattle.pptext.specs.declared.tokens.Token.{Token}
use Rattle.ppmacro.specs.declared.hidden_token.Hidden.{Hidden}
use Rattle.ppexpand.specs.code.Lists.{placed}
use Rattle.ppexpand.specs.code.Skipping.{HasSkipped}
use Rattle.ppexpand.proofs.SkippedTokens.{skipped-none, skipped-on, skipped-one}
use Rattle.ppexpand.proofs.lone_steps.emit_or_push.Goals as goal

pub loop-first-init : goal.loop-first-init
loop-first-init c = skipped-none c.args.table.now.macros (map (placed c.args.names_to_hide c.args.used) c.args.body.now ++ c.args.list.now) c.args.emitted.now

pub loop-first-preserved : goal.loop-first-preserved
loop-first-preserved c =
    let macros = c.args.table.now.macros in
    let f : Token → Hidden = placed c.args.names_to_hide c.args.used in
    let first = c.in-Some.first.now in
    let others = c.in-Some.others.now in
    let rest = map f c.loop-first.rest.now ++ c.loop-first.list in
    let next = map f others ++ c.loop-first.list in
    let emitted = c.loop-first.emitted in
    let parts : c.loop-first.rest.now ≡ first ∷ others = search rules in
    let one = skipped-one macros (f first) rest next emitted (ap (λ ts. map f ts ++ c.loop-first.list) parts) (sym c.never_expands.ensures ∙ c.if-not-never_expands.false) in
    let emits : c.push_single.new.self ≡ emitted ++ f first ∷ [] = c.in_ok-push_single.ensures ∙ ap (λ h. emitted ++ h ∷ []) c.replacement_token.ensures in
    skipped-on macros (map f c.args.body.now ++ c.args.list.now) c.args.emitted.now rest emitted next c.push_single.new.self c.loop-first.invariant (subst (HasSkipped macros rest emitted next) (sym emits) one)

pub returns-then-not-never_expands : goal.returns-then-not-never_expands
returns-then-not-never_expands c =
    let f : Token → Hidden = placed c.args.names_to_hide c.args.used in
    on_ok_weaker c.push_replacement.result
    (λ e. subst (λ list. HasSkipped c.args.table.now.macros (map f c.args.body.now ++ c.args.list.now) c.args.emitted.now list c.loop-first.emitted) (sym e) c.loop-first.invariant)
    c.push_replacement.ensures

pub returns : goal.returns
returns c =
    let f : Token → Hidden = placed c.args.names_to_hide c.args.used in
    let none : c.loop-first.rest.now ≡ [] = nil_from_length c.loop-first.rest.now c.in_default.ensures.cases in
    subst (λ ts. HasSkipped c.args.table.now.macros (map f c.args.body.now ++ c.args.list.now) c.args.emitted.now (map f ts ++ c.loop-first.list) c.loop-first.emitted) none c.loop-first.invariant
