use Rattle.std.proofs.Common.{arith, ◌≡◌, ◌∙◌, ◌+◌, refl, sym, ap, ◌∷◌, drop, not, ◌||◌, ◌&&◌, Ok, Err}
use Rattle.ppmacro.specs.HideSets.{hidings}
use Rattle.ppmacro.specs.Substitution.{chain_tokens, chains_tokens}
use Rattle.ppmacro.specs.Substituting.{arguments_in}
use Rattle.ppmacro.specs.code.Replacing.{pushed}
use Rattle.pptext.proofs.ErrorReturns.{stops}
use Rattle.ppmacro.proofs.PoolGrowthLemmas.{keeps-after}
use Rattle.ppmacro.proofs.ChainReplacementLemmas.{marked_behind, drop-item, arguments-keeps, arguments-known, chains-pushed, chains-refused-pushed}
use Rattle.ppmacro.proofs.substituting.chains_tokens.Goals as goal

pub returns-in_err-pending-clause-is : goal.returns-in_err-pending-clause-is
returns-in_err-pending-clause-is c =
    let s = c.args.sets.now in
    let t = c.loop-index.sets in
    let i = c.loop-index.index in
    let cs = c.args.chains.now in
    let chain = c.at-chain.result in
    let front = hidings t c.loop-index.tokens.items in
    let args = arguments_in s c.args.arguments.given.now c.args.arguments.expanded.now in
    let space = c.loop-index.pending || (not c.loop-index.first && chain.space) in
    let next : drop i cs ≡ chain ∷ drop (i + 1) cs = drop-item cs i chain (omega (arith, c.loop-index-test.true, c.len-index-end.ensures)) (c.at-chain.ensures chain) in
    let kept = arguments-keeps c.args.arguments.given.now c.args.arguments.expanded.now c.loop-index.invariant.keeps c.requires in
    stops _ _ _ _ _ _ c.from_residual-in_err-pending.ensures.1 c.in_err-pending.ensures.is (λ fault e.
    let refused : Err fault ≡ pushed front space (chain_tokens args c.args.used chain) = e ∙ (λ j. pushed front (c.space_before-leading.ensures j) (chain_tokens (kept j) c.args.used chain)) in
    chains-refused-pushed args c.args.used c.loop-index.pending c.loop-index.first chain (drop (i + 1) cs) front fault (chain_tokens args c.args.used chain) refl refused
    ∙ ap (λ ds. marked_behind front (chains_tokens args c.args.used c.loop-index.pending c.loop-index.first ds)) (sym next)
    ∙ c.loop-index.invariant.same)

pub loop-index-preserved : goal.loop-index-preserved
loop-index-preserved c =
    let s = c.args.sets.now in
    let t = c.loop-index.sets in
    let u = c.push_chain.new.sets in
    let i = c.loop-index.index in
    let cs = c.args.chains.now in
    let chain = c.at-chain.result in
    let front = hidings t c.loop-index.tokens.items in
    let new = c.push_chain.new.tokens.items in
    let args = arguments_in s c.args.arguments.given.now c.args.arguments.expanded.now in
    let space = c.loop-index.pending || (not c.loop-index.first && chain.space) in
    let next : drop i cs ≡ chain ∷ drop (i + 1) cs = drop-item cs i chain (omega (arith, c.loop-index-test.true, c.len-index-end.ensures)) (c.at-chain.ensures chain) in
    let kept = arguments-keeps c.args.arguments.given.now c.args.arguments.expanded.now c.loop-index.invariant.keeps c.requires in
    let made : Ok (record { tokens = hidings u new; pending = c.in_ok-pending.pending }) ≡ pushed front space (chain_tokens args c.args.used chain) =
    c.in_ok-pending.ensures.is ∙ (λ j. pushed front (c.space_before-leading.ensures j) (chain_tokens (kept j) c.args.used chain)) in
    record {
      same =
          chains-pushed args c.args.used c.loop-index.pending c.loop-index.first chain (drop (i + 1) cs) front (hidings u new) c.in_ok-pending.pending (chain_tokens args c.args.used chain) refl made
          ∙ ap (λ ds. marked_behind front (chains_tokens args c.args.used c.loop-index.pending c.loop-index.first ds)) (sym next)
          ∙ c.loop-index.invariant.same;
      tokens_known = c.in_ok-pending.ensures.known;
      keeps = keeps-after c.loop-index.invariant.keeps c.in_ok-pending.ensures.keeps;
    }

pub push_chain-requires-clause-arguments : goal.push_chain-requires-clause-arguments
push_chain-requires-clause-arguments c = arguments-known c.args.arguments.given.now c.args.arguments.expanded.now c.loop-index.invariant.keeps c.requires
