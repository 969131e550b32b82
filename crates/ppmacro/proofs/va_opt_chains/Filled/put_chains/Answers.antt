use Rattle.std.proofs.Common.{◌≡◌, ◌∙◌, ◌+◌, ◌++◌, ◌∷◌, [], ℕ, map, length, sym, ap, if◌then◌else◌}
use Rattle.ppmacro.specs.Chains.{OperandPart}
use Rattle.ppmacro.specs.VaOptChains.{content_operand}
use Rattle.ppmacro.specs.code.KeptOperands.{operands_at}
use Rattle.ppmacro.specs.code.KeptChains.{chain_at, chains_at, part_at}
use Rattle.ppmacro.specs.code.VaOptLists.{arguments_at}
use Rattle.ppmacro.proofs.VaOptContents.{next-parameter, has-more, singles-more, content-more}
use Rattle.ppmacro.proofs.va_opt_chains.Filled.put_chains.Goals as goal
use Rattle.ppmacro.proofs.va_opt_chains.Filled.put_chains.Goals.{then-first, else-first}

pub loop-chain-preserved : goal.loop-chain-preserved
loop-chain-preserved c =
    let body = c.args.body.now in
    let old = c.args.self.now in
    let now = c.loop-chain.self in
    let first = c.loop-chain.first in
    let yielded = c.loop-chain.yielded in
    let chain = c.in-Some.chain in
    let i : ℕ = old.parameters + length old.arguments.items in
    let j : ℕ = now.parameters + length now.arguments.items in
    let leading : c.if-first.leading ≡ (if first then c.args.space else chain.space) = elim c.if-first.branch [
      | then-first w ↦ w.leading-is ∙ ap (λ b. if b then c.args.space else chain.space) (sym w.if-first.true)
      | else-first w ↦ w.leading-is ∙ ap (λ b. if b then c.args.space else chain.space) (sym w.if-first.false)
    ] in
    let index : j ≡ i + length (chains_at body yielded) =
    next-parameter body i j old.parameters now.parameters old.arguments.items now.arguments.items yielded c.loop-chain.invariant.parameters c.loop-chain.invariant.arguments in
    record {
      parts = c.in_ok-put_chain.ensures.parts
          ∙ ap (λ ps. ps ++ OperandPart c.if-first.leading (content_operand j (operands_at body chain.operands.items)) ∷ []) c.loop-chain.invariant.parts
          ∙ content-more body (map (part_at body) old.parts.items) c.args.space first c.if-first.leading i j yielded chain c.loop-chain.invariant.first leading index;
      arguments = c.in_ok-put_chain.ensures.arguments
          ∙ ap (λ as'. as' ++ (chain_at body chain ∷ []) ∷ []) c.loop-chain.invariant.arguments
          ∙ singles-more body (arguments_at body old.arguments.items) yielded chain;
      first = has-more (chain_at body) yielded chain;
      parameters = c.put_chain.ensures.parameters ∙ c.loop-chain.invariant.parameters;
    }
