use Rattle.std.proofs.Common.{◌≡◌, ◌∙◌, ◌+◌, sym, ap, ◌∷◌, drop, take}
use Rattle.pptext.proofs.ErrorReturns.{stops}
use Rattle.ppmacro.specs.Substituting.{arguments_in}
use Rattle.ppmacro.specs.code.Replacing.{operands_fault}
use Rattle.ppmacro.proofs.JoinedOperands.{item-in-front, none-after-front, fault-more, fault-first}
use Rattle.ppmacro.proofs.substituting.operands.check_literals.Goals as goal

pub loop-index-preserved : goal.loop-index-preserved
loop-index-preserved c =
    let i = c.loop-index.index in
    let front = take c.args.count c.args.operands.now in
    let args = arguments_in c.args.sets.now c.args.arguments.given.now c.args.arguments.expanded.now in
    let next : drop i front ≡ c.at.result ∷ drop (i + 1) front = item-in-front c.args.operands.now c.args.count i c.at.result c.loop-index-test.true c.requires (c.at.ensures c.at.result) in
    record {
      same = fault-more args c.args.used c.at.result (drop (i + 1) front) c.in_ok-check_literal.field-0 c.in_ok-check_literal.ensures
          ∙ ap (operands_fault args c.args.used) (sym next)
          ∙ c.loop-index.invariant.same;
    }

pub returns-in_err-check_literal : goal.returns-in_err-check_literal
returns-in_err-check_literal c =
    let i = c.loop-index.index in
    let front = take c.args.count c.args.operands.now in
    let args = arguments_in c.args.sets.now c.args.arguments.given.now c.args.arguments.expanded.now in
    let next : drop i front ≡ c.at.result ∷ drop (i + 1) front = item-in-front c.args.operands.now c.args.count i c.at.result c.loop-index-test.true c.requires (c.at.ensures c.at.result) in
    stops _ _ _ _ _ _ c.from_residual.ensures.1 c.in_err-check_literal.ensures (λ fault e.
    fault-first args c.args.used c.at.result (drop (i + 1) front) fault e
    ∙ ap (operands_fault args c.args.used) (sym next)
    ∙ c.loop-index.invariant.same)

pub returns : goal.returns
returns c =
    let args = arguments_in c.args.sets.now c.args.arguments.given.now c.args.arguments.expanded.now in
    ap (operands_fault args c.args.used) (sym (none-after-front c.args.operands.now c.args.count c.loop-index.index c.loop-index-test.false))
    ∙ c.loop-index.invariant.same
