use Rattle.ppexpr.specs.Conditions.{no_expression}
use Rattle.ppexpr.proofs.ConditionSteps.{evaluates_some}
use Rattle.pptext.proofs.ErrorReturns.{raised, if_settled-weaker}
use Rattle.ppexpr.proofs.conditions.evaluate_shallow.Goals as goal

pub returns-in_default : goal.returns-in_default
returns-in_default c = raised _ _ _ c.bare.ensures (no_expression (rw c.in_default.is at c.in_ok-evaluation.ensures))

pub returns : goal.returns
returns c =
    if_settled-weaker _ _ _
    (λ x h. evaluates_some c.args.at c.args.symbols.now c.in_ok-evaluation.field-0 c.in-Some.evaluation x c.in-Some.is h c.in_ok-evaluation.ensures)
    c.taken.ensures
