use Rattle.std.proofs.Common.{◌∙◌, Option, Some, ap}
use Rattle.pptext.specs.declared.tokens.Fault.{Fault}
use Rattle.pptext.proofs.ErrorReturns.{stopped}
use Rattle.ppunit.specs.Directives.{refusal, or_fault}
use Rattle.ppunit.specs.DirectiveLines.{operands}
use Rattle.ppunit.proofs.UnitValue.{on_settled}
use Rattle.ppunit.proofs.line_walk.refuse_line.Goals as goal

pub returns-in_err-refuse_unmatched_quote : goal.returns-in_err-refuse_unmatched_quote
returns-in_err-refuse_unmatched_quote c =
    let refused = refusal c.args.state.now.waiting (Some c.args.line.now.directive) (operands c.args.line.now.tokens) in
    stopped _ _ _ _ c.from_residual.ensures.1 c.in_err-refuse_unmatched_quote.ensures (λ fault quote. ap (λ (q : Option Fault). or_fault q refused) quote)

pub returns : goal.returns
returns c =
    let refused = refusal c.args.state.now.waiting (Some c.args.line.now.directive) (operands c.args.line.now.tokens) in
    on_settled c.refuse_among_arguments.result (λ r is. is ∙ ap (λ (q : Option Fault). or_fault q refused) c.in_ok-refuse_unmatched_quote.ensures)
    c.refuse_among_arguments.ensures
