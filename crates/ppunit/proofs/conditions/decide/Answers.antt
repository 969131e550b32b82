use Rattle.std.proofs.Common.{◌≡◌, ◌∙◌, Some, sym, ap, subst}
use Rattle.pptext.specs.declared.directives.Question.{Question}
use Rattle.pptext.specs.Errors.{UnlessOutOfMemory}
use Rattle.pptext.proofs.ErrorReturns.{stopped}
use Rattle.ppunit.specs.States.{State}
use Rattle.ppunit.specs.DirectiveLines.{operands, one_identifier}
use Rattle.ppunit.specs.Conditions.{by_name}
use Rattle.ppunit.specs.code.Contexts.{search_in_unit}
use Rattle.ppunit.proofs.LineDecisions.{decides_quote, decides_name, decides_value}
use Rattle.ppunit.proofs.UnitValue.{on_settled}
use Rattle.ppunit.proofs.conditions.decide.Goals as goal

pub returns-in_err-refuse_unmatched_quote-clause-decides : goal.returns-in_err-refuse_unmatched_quote-clause-decides
returns-in_err-refuse_unmatched_quote-clause-decides g c =
    stopped _ _ _ _ c.from_residual.ensures.1 c.in_err-refuse_unmatched_quote.ensures
    (λ fault quote number. decides_quote (search_in_unit c.args.context.now) c.args.row c.args.state.now c.args.directive c.args.line.now number fault (sym quote))

pub returns-in-Some-Defined-clause-decides : goal.returns-in-Some-Defined-clause-decides
returns-in-Some-Defined-clause-decides g c =
    let wanted = c.in-Some-Defined.wanted in
    let line = c.args.line.now in
    let named = subst (λ (s : State). UnlessOutOfMemory c.by_name.result (λ taken. taken ≡ by_name wanted s.macros line (one_identifier (operands line)))) c.state.view_is c.by_name.ensures in
    on_settled c.by_name.result
    (λ taken is number. decides_name (search_in_unit c.args.context.now) c.args.row c.args.state.now c.args.directive line number wanted taken
    (sym c.in_ok-refuse_unmatched_quote.ensures) (sym c.question.ensures ∙ c.in-Some-Defined.is ∙ ap (λ (q : Question). Some q) c.in-Some-Defined.field-0-is) is)
    named

pub returns-in-Some-Value-clause-decides : goal.returns-in-Some-Value-clause-decides
returns-in-Some-Value-clause-decides g c =
    on_settled c.by_condition.result
    (λ taken is number. decides_value (search_in_unit c.args.context.now) c.args.row c.args.state.now c.args.directive c.args.line.now number c.by_condition.new.state.meter taken
    (sym c.in_ok-refuse_unmatched_quote.ensures) (sym c.question.ensures ∙ c.in-Some-Value.is ∙ ap (λ (q : Question). Some q) c.in-Some-Value.field-0-is) is)
    c.by_condition.ensures.is
