use Rattle.std.proofs.Common.{rules, ◌≡◌, ◌∙◌, ◌<◌, ◌≤◌, ◌++◌, sym, ap, subst, map, set, get_or, take, length, None, Some, append-nil}
use Rattle.std.proofs.lemmas.List.{map-id, map-set, length-map, get_or-map, take_all, at_drop_all}
use Rattle.std.proofs.lemmas.List.Edits.{map_over_more}
use Rattle.ppmacro.specs.declared.kept_chains.KeptChain.{KeptChain}
use Rattle.ppmacro.specs.Chains.{lenient_parameter, with_variadic}
use Rattle.ppmacro.specs.code.KeptOperands.{operands_at}
use Rattle.ppmacro.specs.code.KeptChains.{chain_at, chains_at}
use Rattle.ppmacro.proofs.chains.end_in_variadic.Goals as goal

pub returns-in_default : goal.returns-in_default
returns-in_default c =
    let chains = chains_at c.args.body.now c.args.chains.now in
    let none : None ≡ lenient_parameter c.args.kind.now = search rules in
    sym (map-id chains) ∙ ap (λ o. map (with_variadic o) chains) none

pub loop-chain-preserved : goal.loop-chain-preserved
loop-chain-preserved c =
    let body = c.args.body.now in
    let i = c.loop-chain.chain-index in
    let kept = c.loop-chain.chains in
    let chains = chains_at body kept in
    let here = c.chain-item.result in
    let at = get_or kept i here in
    let changed = with_variadic (Some c.in-Some.index) in
    let same : length kept ≡ length c.args.chains.now = c.loop-chain.auto.chains in
    let below : i < length kept = subst (λ n. i < n) (sym same) c.loop-chain-test.true in
    let first : i < length (chains_at body c.args.chains.now) = subst (λ n. i < n) (sym (length-map c.args.chains.now (chain_at body))) c.loop-chain-test.true in
    let read : chain_at body here ≡ get_or chains i (chain_at body here) = ap (chain_at body) c.chain-item.is ∙ sym (get_or-map (chain_at body) kept i here (chain_at body here) below) in
    let made : record { space = at.space; operands = operands_at body c.end_chain_in_variadic.new.operands.items } ≡ changed (chain_at body here) =
    ap (λ os. record { space = at.space; operands = os }) c.end_chain_in_variadic.ensures ∙ ap (λ (x : KeptChain). changed (chain_at body x)) (sym c.chain-item.is) in
    map-set (chain_at body) kept i (record at { operands = c.end_chain_in_variadic.new.operands })
    ∙ ap (set chains i) made
    ∙ map_over_more changed (chains_at body c.args.chains.now) chains i (chain_at body here) first c.loop-chain.invariant read

pub returns : goal.returns
returns c =
    let body = c.args.body.now in
    let old = chains_at body c.args.chains.now in
    let i = c.loop-chain.chain-index in
    let past : length old ≤ i = subst (λ n. n ≤ i) (sym (length-map c.args.chains.now (chain_at body))) c.loop-chain-test.false in
    c.loop-chain.invariant
    ∙ at_drop_all (λ cs. map (with_variadic (Some c.in-Some.index)) (take i old) ++ cs) old i past
    ∙ append-nil (map (with_variadic (Some c.in-Some.index)) (take i old))
    ∙ ap (map (with_variadic (Some c.in-Some.index))) (take_all i old past)
    ∙ ap (λ o. map (with_variadic o) old) c.in-Some.ensures
