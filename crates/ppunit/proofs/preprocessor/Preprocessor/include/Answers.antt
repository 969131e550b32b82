use Rattle.std.proofs.Common.{◌≡◌, ℕ, suc, ◌+◌, List, Some, sym, ap, ◌∙◌, subst, arith}
use Rattle.pptext.specs.declared.tokens.Fault.{Fault}
use Rattle.pptext.proofs.ErrorReturns.{raised, stopped}
use Rattle.pptext.specs.Errors.{UnlessOutOfMemory}
use Rattle.ppshelf.specs.Files.{Files}
use Rattle.ppunit.specs.States.{State, Progress, with_meter}
use Rattle.ppunit.specs.code.Opening.{opening_in}
use Rattle.ppunit.specs.code.Walk.{Leads}
use Rattle.ppunit.specs.code.Contexts.{context_over}
use Rattle.ppunit.specs.DirectiveLines.{line_fault}
use Rattle.ppunit.specs.code.Lines.{directed}
use Rattle.ppunit.specs.Including.{IncludeName}
use Rattle.ppunit.specs.Directives.{FindsFile}
use Rattle.ppunit.specs.Group.{ExecutesInclude, OpensFile}
use Rattle.ppunit.proofs.LineDecisions.{none_of}
use Rattle.ppunit.proofs.ControlLines.{leads_included}
use Rattle.ppunit.proofs.UnitValue.{on_settled}
use Rattle.ppunit.proofs.preprocessor.Preprocessor.include.Goals as goal

pub returns-in_err-include_name-clause-includes : goal.returns-in_err-include_name-clause-includes
returns-in_err-include_name-clause-includes g c =
    stopped _ _ _ _ c.from_residual.ensures.1 c.in_err-include_name.ensures.names (λ fault asks more grows.
    subst (λ (z : State). ExecutesInclude (context_over c.args.self.now.context.now more) c.args.depth c.args.line.now.row c.args.directory c.args.self.now.state
    (directed c.args.line.now.directive c.args.line.now.tokens c.args.line.now.number) (record { state = z; fault = Some fault })) (sym c.in_err-include_name.ensures.rest)
    (ExecutesInclude.operand_fault asks))

pub returns-in_default-clause-includes : goal.returns-in_default-clause-includes
returns-in_default-clause-includes g c =
    let name = c.as_bytes-name.ensures ∙ ap (λ (z : IncludeName). z.name) c.include_name.view_is in
    let same : line_fault 31 c.args.line.now.tokens c.as_bytes-name.result.now ≡ line_fault 31 c.args.line.now.tokens c.in_ok-include_name.include_name.name =
    ap (λ (z : List ℕ). line_fault 31 c.args.line.now.tokens z) name in
    raised _ _ _ c.line_fault.ensures (λ more grows.
    let context = context_over c.args.self.now.context.now more in
    let line = directed c.args.line.now.directive c.args.line.now.tokens c.args.line.now.number in
    let finds =
    subst (FindsFile context c.args.line.now.row c.args.directory c.in_ok-include_name.include_name) (none_of c.in_ok-found.field-0 c.in_default.not-Some)
    (c.in_ok-found.ensures.finds more) in
    let missing = ExecutesInclude.missing c.in_ok-include_name.include_name c.in_ok-include_name.ensures.names finds in
    subst (λ (z : State). ExecutesInclude context c.args.depth c.args.line.now.row c.args.directory c.args.self.now.state line
    (record { state = z; fault = Some (line_fault 31 c.args.line.now.tokens c.as_bytes-name.result.now) })) (sym c.in_ok-include_name.ensures.rest)
    (subst (λ (z : Fault). ExecutesInclude context c.args.depth c.args.line.now.row c.args.directory c.args.self.now.state line
    (record { state = with_meter c.args.self.now.state c.read_include_name.new.state.meter; fault = Some z })) (sym same) missing))

pub returns-clause-includes : goal.returns-clause-includes
returns-clause-includes g c =
    let deeper : c.args.depth + 1 ≡ suc c.args.depth = omega arith in
    let how = opening_in c.args.self.now.context.now.shelf.names c.in_ok-opening.opening in
    let opened = subst (λ (z : ℕ). UnlessOutOfMemory c.open.result (λ outcome. Leads (context_over c.args.self.now.context.now) c.open.new.self.pass.now.files (c.args.depth + 1)
    (λ (more : Files) (m : Progress). OpensFile (context_over c.args.self.now.context.now more) (c.args.depth + 1) c.hash_place.result
    (with_meter c.args.self.now.state c.read_include_name.new.state.meter) z how m)
    c.open.new.self.state outcome)) c.in_ok-opening.ensures.row (rw c.in_ok-include_name.ensures.rest at c.open.ensures.opened) in
    on_settled c.open.result
    (λ r leads. leads_included (context_over c.args.self.now.context.now) c.open.new.self.pass.now.files c.args.depth (c.args.depth + 1)
    c.args.line.now.row c.args.directory c.in-Some.found c.hash_place.result (directed c.args.line.now.directive c.args.line.now.tokens c.args.line.now.number)
    c.args.self.now.state c.open.new.self.state c.read_include_name.new.state.meter c.in_ok-include_name.include_name how r deeper c.hash_place.ensures c.in_ok-include_name.ensures.names
    (λ more. subst (FindsFile (context_over c.args.self.now.context.now more) c.args.line.now.row c.args.directory c.in_ok-include_name.include_name) c.in-Some.is
    (c.in_ok-found.ensures.finds more))
    (rw c.in_ok-include_name.ensures.rest at c.in_ok-opening.ensures.opening)
    leads)
    opened
