use Rattle.std.proofs.Common.{rules, ◌≡◌, ◌∙◌, ◌∷◌, [], ◌++◌, map, sym, ap, subst}
use Rattle.std.proofs.lemmas.List.{nil_from_length}
use Rattle.std.proofs.lemmas.Result.{on_ok_weaker}
use Rattle.ppexpand.specs.code.Lists.{placed, spaced, lone_replaced, never_expands}
use Rattle.ppexpand.specs.code.Skipping.{HasSkipped}
use Rattle.ppexpand.proofs.SkippedTokens.{skipped-none, skipped-on, skipped-one}
use Rattle.ppexpand.proofs.lone_steps.emit_replacement.Goals as goal

pub returns-in_default : goal.returns-in_default
returns-in_default c =
    let macros = c.args.table.now.macros in
    let name = c.args.name_token.now.token in
    let list = c.args.list.now in
    let emitted = c.args.emitted.now in
    let none : c.args.body.now ≡ [] = nil_from_length c.args.body.now c.in_default.ensures.cases in
    let whole : c.space_next.new.self ≡ lone_replaced c.args.names_to_hide name.used name.space c.args.body.now list =
    c.space_next.ensures ∙ ap (λ b. spaced b list) c.space-space.ensures ∙ ap (λ ts. lone_replaced c.args.names_to_hide name.used name.space ts list) (sym none) in
    subst (λ l. HasSkipped macros l emitted c.space_next.new.self emitted) whole (skipped-none macros c.space_next.new.self emitted)

pub returns-then-not-never_expands : goal.returns-then-not-never_expands
returns-then-not-never_expands c =
    let macros = c.args.table.now.macros in
    let name = c.args.name_token.now.token in
    let hide = c.args.names_to_hide in
    let list = c.args.list.now in
    let emitted = c.args.emitted.now in
    let first = c.in-Some.first.now in
    let others = c.in-Some.others.now in
    let body : c.args.body.now ≡ first ∷ others = search rules in
    let here : c.replacement_token-token.result ≡ placed hide name.used (record first { space = name.space }) =
    c.replacement_token-token.ensures ∙ (λ i. placed hide (c.used-used.ensures i) (record first { space = c.space-space.ensures i })) in
    let following : c.push_replacement.new.list ≡ map (placed hide name.used) others ++ list = c.in_ok-push_replacement.ensures ∙ (λ i. map (placed hide (c.used-used.ensures i)) others ++ list) in
    let whole : c.replacement_token-token.result ∷ c.push_replacement.new.list ≡ lone_replaced hide name.used name.space c.args.body.now list =
    (λ i. here i ∷ following i) ∙ ap (λ ts. lone_replaced hide name.used name.space ts list) (sym body) in
    on_ok_weaker c.push.result (λ e. subst (λ l. HasSkipped macros l emitted c.push.new.self emitted) (e ∙ whole) (skipped-none macros c.push.new.self emitted)) c.push.ensures

pub returns : goal.returns
returns c =
    let macros = c.args.table.now.macros in
    let name = c.args.name_token.now.token in
    let hide = c.args.names_to_hide in
    let list = c.args.list.now in
    let emitted = c.args.emitted.now in
    let first = c.in-Some.first.now in
    let others = c.in-Some.others.now in
    let body : c.args.body.now ≡ first ∷ others = search rules in
    let token = c.replacement_token-token.result in
    let here : token ≡ placed hide name.used (record first { space = name.space }) =
    c.replacement_token-token.ensures ∙ (λ i. placed hide (c.used-used.ensures i) (record first { space = c.space-space.ensures i })) in
    let next = map (placed hide c.used-used.result) others ++ list in
    let start = lone_replaced hide name.used name.space c.args.body.now list in
    let laid_out : start ≡ token ∷ next =
    ap (λ ts. lone_replaced hide name.used name.space ts list) body ∙ (λ i. sym here i ∷ (map (placed hide (sym c.used-used.ensures i)) others ++ list)) in
    let one = skipped-one macros token start next emitted laid_out (ap (λ h. never_expands macros h.token) here ∙ sym c.never_expands.ensures ∙ c.if-not-never_expands.false) in
    on_ok_weaker c.emit_or_push.result
    (λ k. skipped-on macros start emitted next c.push_single.new.self c.emit_or_push.new.list c.emit_or_push.new.emitted
    (subst (HasSkipped macros start emitted next) (sym c.in_ok-push_single.ensures) one) k)
    c.emit_or_push.ensures
