use Rattle.std.proofs.Common.{◌≡◌, ◌∙◌, ap, ◌++◌, Ok, length, arith}
use Rattle.ppmacro.specs.HideSets.{hidings}
use Rattle.ppmacro.specs.Substitution.{chain_tokens, space_first}
use Rattle.ppmacro.specs.Substituting.{arguments_in}
use Rattle.ppmacro.specs.code.Replacing.{pushed}
use Rattle.ppmacro.proofs.PoolGrowthLemmas.{hidings-keeps, known-keeps}
use Rattle.ppmacro.proofs.JoinedOperands.{one-operand, several-operands, returns-same}
use Rattle.ppmacro.proofs.substituting.push_chain.Goals as goal

pub returns-then-len-eq1-clause-is : goal.returns-then-len-eq1-clause-is
returns-then-len-eq1-clause-is c =
    let s = c.args.sets.now in
    let args = arguments_in s c.args.arguments.given.now c.args.arguments.expanded.now in
    let operands = c.args.chain.now.operands in
    let size : length operands ≡ 1 = omega (arith, c.len.ensures, c.if-len-eq1.true) in
    returns-same _ _ _ _ c.push_operand.ensures.is
    (ap (λ os. pushed (hidings s c.args.tokens.now.items) c.args.space (chain_tokens args c.args.used (record { space = c.args.space; operands = os })))
    (one-operand operands c.at-operand.result size (c.at-operand.ensures c.at-operand.result)))

pub chain_tokens-requires-clause-joined : goal.chain_tokens-requires-clause-joined
chain_tokens-requires-clause-joined c = several-operands c.args.chain.now.operands (λ one. c.if-len-eq1.false (c.len.ensures ∙ one))

pub returns-clause-is : goal.returns-clause-is
returns-clause-is c =
    let s = c.args.sets.now in
    let u = c.chain_tokens.new.sets in
    let front = c.args.tokens.now.items in
    let more = c.in_ok-more.more.items in
    let space = c.args.space in
    let args = arguments_in s c.args.arguments.given.now c.args.arguments.expanded.now in
    let made : Ok (hidings u more) ≡ chain_tokens args c.args.used c.args.chain.now = c.in_ok-more.ensures.is in
    let tokens : hidings u c.append_spaced.new.tokens.items ≡ hidings s front ++ (space_first space (hidings u more)).tokens =
    c.in_ok-pending.ensures.tokens u ∙ ap (λ hs. hs ++ (space_first space (hidings u more)).tokens) (hidings-keeps front c.in_ok-more.ensures.keeps c.requires.tokens) in
    let pending : c.in_ok-pending.pending ≡ (space_first space (hidings u more)).pending = c.in_ok-pending.ensures.pending u in
    (λ i. Ok (record { tokens = tokens i; pending = pending i })) ∙ ap (pushed (hidings s front) space) made

pub returns-clause-known : goal.returns-clause-known
returns-clause-known c =
    let u = c.chain_tokens.new.sets in
    c.in_ok-pending.ensures.known u (known-keeps c.args.tokens.now.items c.in_ok-more.ensures.keeps c.requires.tokens) c.in_ok-more.ensures.known
