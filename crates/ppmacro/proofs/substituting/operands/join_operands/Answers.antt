use Rattle.std.proofs.Common.{◌≡◌, ◌∙◌, ◌+◌, sym, ap, ◌∷◌, drop, take, true}
use Rattle.pptext.proofs.ErrorReturns.{stops}
use Rattle.ppmacro.specs.HideSets.{hidings}
use Rattle.ppmacro.specs.Substitution.{after_ok, operand_tokens, join}
use Rattle.ppmacro.specs.Substituting.{arguments_in}
use Rattle.ppmacro.specs.code.Replacing.{join_operands}
use Rattle.ppmacro.proofs.PoolGrowthLemmas.{keeps-after}
use Rattle.ppmacro.proofs.ChainReplacementLemmas.{arguments-keeps, arguments-known}
use Rattle.ppmacro.proofs.JoinedOperands.{item-in-front, operand-joined, operand-refused}
use Rattle.ppmacro.proofs.substituting.operands.join_operands.Goals as goal

pub join_operand-requires-clause-arguments : goal.join_operand-requires-clause-arguments
join_operand-requires-clause-arguments c = arguments-known c.args.arguments.given.now c.args.arguments.expanded.now c.loop-index.invariant.keeps c.requires.arguments

pub loop-index-preserved : goal.loop-index-preserved
loop-index-preserved c =
    let i = c.loop-index.index in
    let o = c.at-operand.result in
    let used = c.args.used in
    let front = take c.args.count c.args.operands.now in
    let args = arguments_in c.args.sets.now c.args.arguments.given.now c.args.arguments.expanded.now in
    let kept = arguments-keeps c.args.arguments.given.now c.args.arguments.expanded.now c.loop-index.invariant.keeps c.requires.arguments in
    let left = hidings c.loop-index.sets c.loop-index.left.items in
    let next : drop i front ≡ o ∷ drop (i + 1) front = item-in-front c.args.operands.now c.args.count i o c.loop-index-test.true c.requires.count (c.at-operand.ensures o) in
    record {
      same = operand-joined args used left (hidings c.join_operand.new.sets c.join_operand.new.left.items) o (drop (i + 1) front)
          (c.in_ok-has_spelled_kind.ensures.is ∙ (λ j. after_ok (operand_tokens true (kept j) used o) (λ ts. join left ts used)))
          ∙ ap (join_operands args used left) (sym next)
          ∙ c.loop-index.invariant.same;
      left_known = c.in_ok-has_spelled_kind.ensures.known;
      has_spelled_kind = c.in_ok-has_spelled_kind.ensures.has_spelled_kind;
      keeps = keeps-after c.loop-index.invariant.keeps c.in_ok-has_spelled_kind.ensures.keeps;
    }

pub returns-in_err-has_spelled_kind-clause-is : goal.returns-in_err-has_spelled_kind-clause-is
returns-in_err-has_spelled_kind-clause-is c =
    let i = c.loop-index.index in
    let o = c.at-operand.result in
    let used = c.args.used in
    let front = take c.args.count c.args.operands.now in
    let args = arguments_in c.args.sets.now c.args.arguments.given.now c.args.arguments.expanded.now in
    let kept = arguments-keeps c.args.arguments.given.now c.args.arguments.expanded.now c.loop-index.invariant.keeps c.requires.arguments in
    let left = hidings c.loop-index.sets c.loop-index.left.items in
    let next : drop i front ≡ o ∷ drop (i + 1) front = item-in-front c.args.operands.now c.args.count i o c.loop-index-test.true c.requires.count (c.at-operand.ensures o) in
    stops _ _ _ _ _ _ c.from_residual.ensures.1 c.in_err-has_spelled_kind.ensures.is (λ fault e.
    operand-refused args used left o (drop (i + 1) front) fault (e ∙ (λ j. after_ok (operand_tokens true (kept j) used o) (λ ts. join left ts used)))
    ∙ ap (join_operands args used left) (sym next)
    ∙ c.loop-index.invariant.same)
