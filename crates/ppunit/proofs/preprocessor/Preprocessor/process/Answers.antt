use Rattle.std.proofs.Common.{Option, Some, Ok, sym, ap, ◌∙◌, subst}
use Rattle.ppshelf.specs.Files.{Files}
use Rattle.pptext.proofs.ErrorReturns.{stopped}
use Rattle.ppunit.specs.States.{Progress}
use Rattle.ppunit.specs.code.Contexts.{context_over}
use Rattle.ppunit.specs.code.Opening.{Entered, opening_in}
use Rattle.ppunit.specs.Group.{OpensFile}
use Rattle.ppunit.specs.code.Walk.{Leads}
use Rattle.ppunit.proofs.UnitValue.{entered_stops, entered_ends}
use Rattle.ppunit.proofs.preprocessor.Preprocessor.process.Goals as goal

pub returns-in_err-entered-clause-opened : goal.returns-in_err-entered-clause-opened
returns-in_err-entered-clause-opened g c =
    stopped _ _ _ _ c.from_residual.ensures.1 c.in_err-entered.ensures.opened (λ fault leads. leads)

pub returns-in_err-walked-clause-opened : goal.returns-in_err-walked-clause-opened
returns-in_err-walked-clause-opened g c =
    let into : Files → Progress → Type 0 = λ more m. OpensFile (context_over c.args.self.now.context.now more) c.args.depth c.args.at c.args.self.now.state c.args.opening.row
    (opening_in c.args.self.now.context.now.shelf.names c.args.opening) m in
    let enters = subst (λ (z : Option Entered). Leads (context_over c.args.self.now.context.now) c.open.new.self.pass.now.files c.args.depth into c.open.new.self.state (Ok z))
    (c.in-Some.is ∙ ap (λ (e : Entered). Some e) (sym c.into_parts-parts.ensures ∙ sym c.parts.view_is)) c.in_ok-entered.ensures.opened in
    stopped _ _ _ _ c.from_residual-in_err-walked.ensures.1 (rw c.open.ensures.keeps_context.context at c.in_err-walked.ensures.walk)
    (λ fault walks. entered_stops (context_over c.args.self.now.context.now) c.open.new.self.pass.now.files c.walk-walked.new.self.pass.now.files c.args.depth into
    c.open.new.self.state c.walk-walked.new.self.state c.restore_context.new.self _ fault c.walk-walked.ensures.keeps_context.grows enters c.restore_context.ensures walks)

pub returns-clause-opened : goal.returns-clause-opened
returns-clause-opened g c =
    let into : Files → Progress → Type 0 = λ more m. OpensFile (context_over c.args.self.now.context.now more) c.args.depth c.args.at c.args.self.now.state c.args.opening.row
    (opening_in c.args.self.now.context.now.shelf.names c.args.opening) m in
    let enters = subst (λ (z : Option Entered). Leads (context_over c.args.self.now.context.now) c.open.new.self.pass.now.files c.args.depth into c.open.new.self.state (Ok z))
    (c.in-Some.is ∙ ap (λ (e : Entered). Some e) (sym c.into_parts-parts.ensures ∙ sym c.parts.view_is)) c.in_ok-entered.ensures.opened in
    entered_ends (context_over c.args.self.now.context.now) c.open.new.self.pass.now.files c.walk-walked.new.self.pass.now.files c.args.depth into
    c.open.new.self.state c.walk-walked.new.self.state c.restore_context.new.self c.resume.new.self _ c.walk-walked.ensures.keeps_context.grows enters
    c.restore_context.ensures c.in_ok-resume.ensures (rw c.open.ensures.keeps_context.context at c.in_ok-walked.ensures.walk)
