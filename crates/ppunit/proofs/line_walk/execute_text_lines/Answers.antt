use Rattle.std.proofs.Common.{List, Some, None, subst}
use Rattle.pptext.specs.declared.tokens.Token.{Token}
use Rattle.pptext.proofs.ErrorReturns.{stopped}
use Rattle.ppunit.specs.Directives.{EmitsText}
use Rattle.ppunit.proofs.TextRuns.{run_advances}
use Rattle.ppunit.proofs.line_walk.execute_text_lines.Goals as goal

pub returns-in_err-emit_text-clause-text_lines : goal.returns-in_err-emit_text-clause-text_lines
returns-in_err-emit_text-clause-text_lines c context files depth row one =
    stopped _ _ _ _ c.from_residual.ensures.1 c.in_err-emit_text.ensures (λ fault gives.
    run_advances c.args.profile context files depth row c.args.source.now c.args.index c.text_end-end.result c.args.state.now c.emit_text.new.state (Some fault) one
    c.requires.index c.requires.text c.text_end-end.ensures.text_lines
    (subst (λ (z : List Token). EmitsText c.args.profile c.args.state.now z (record { state = c.emit_text.new.state; fault = Some fault })) c.tokens_between.ensures
    gives))

pub returns-clause-text_lines : goal.returns-clause-text_lines
returns-clause-text_lines c context files depth row one =
    run_advances c.args.profile context files depth row c.args.source.now c.args.index c.text_end-end.result c.args.state.now c.emit_text.new.state None one
    c.requires.index c.requires.text c.text_end-end.ensures.text_lines
    (subst (λ (z : List Token). EmitsText c.args.profile c.args.state.now z (record { state = c.emit_text.new.state; fault = None })) c.tokens_between.ensures
    c.in_ok-emit_text.ensures)
