use Rattle.ppexpr.specs.Conditions.{EvaluatesTokens, IsCondition, expansion_fault, ill_formed, replaced}
use Rattle.pptext.proofs.ErrorReturns.{if_settled-weaker, stopped}
use Rattle.ppexpr.proofs.conditions.evaluate_replaced.Goals as goal

pub returns-in_err-without_defined : goal.returns-in_err-without_defined
returns-in_err-without_defined c =
    stopped _ _ _ _ c.from_residual.ensures.1 c.in_err-without_defined.ensures (λ f h. rw h.0 (ill_formed h.1))

pub returns-in-Some : goal.returns-in-Some
returns-in-Some c = expansion_fault c.in_ok-without_defined.ensures c.in_ok-fault.ensures c.in-Some.is

pub returns-in-None : goal.returns-in-None
returns-in-None c =
    if_settled-weaker c.evaluate_emitted.result (EvaluatesTokens c.args.at c.expand_list.new.scratch)
    (λ r. IsCondition c.args.table.now.macros c.args.env.now c.args.at c.args.tokens.now c.args.meter.now r c.expand_list.new.meter)
    (λ r h. replaced c.in_ok-without_defined.ensures c.in_ok-fault.ensures c.in-None.is h) c.evaluate_emitted.ensures
