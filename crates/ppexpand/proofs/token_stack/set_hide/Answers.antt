use Rattle.std.proofs.Common.{◌≡◌, ◌≤◌, ◌++◌, ◌∙◌, sym, ap, map, set, get_or, length, arith, append-nil}
use Rattle.std.proofs.lemmas.List.{take_all, drop_all}
use Rattle.std.proofs.lemmas.List.Edits.{map_over_more}
use Rattle.std.proofs.lemmas.Simd.{map-map}
use Rattle.ppmacro.specs.declared.hidden_token.Hidden.{Hidden}
use Rattle.ppexpand.specs.code.Lists.{with_set}
use Rattle.ppexpand.proofs.token_stack.set_hide.Goals as goal

pub loop-hidden-preserved : goal.loop-hidden-preserved
loop-hidden-preserved c =
    let i = c.loop-hidden.hidden-index in
    let tokens = c.loop-hidden.tokens in
    let here = c.hidden-item.result in
    let item = get_or tokens i here in
    let changed : Hidden → Hidden = λ h. with_set c.args.hide h.token in
    let made : c.set_use.new.self ≡ changed here =
    c.set_use.ensures ∙ (λ k. with_set c.args.hide (record item.token { used = c.used-used.ensures k })) ∙ ap changed (sym c.hidden-item.is) in
    ap (set tokens i) made ∙ map_over_more changed c.args.tokens.now tokens i here c.loop-hidden-test.true c.loop-hidden.invariant c.hidden-item.is

pub returns : goal.returns
returns c =
    let i = c.loop-hidden.hidden-index in
    let tokens = c.args.tokens.now in
    let changed : Hidden → Hidden = λ h. with_set c.args.hide h.token in
    let done : length tokens ≤ i = omega arith in
    c.loop-hidden.invariant
    ∙ (λ k. map changed (take_all i tokens done k) ++ drop_all i tokens done k)
    ∙ append-nil (map changed tokens)
    ∙ sym (map-map (with_set c.args.hide) (λ (h : Hidden). h.token) tokens)
