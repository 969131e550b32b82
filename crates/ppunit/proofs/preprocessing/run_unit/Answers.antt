use Rattle.std.proofs.Common.{rules, ◌≡◌, Option, Result, IfOk, subst}
use Rattle.std.proofs.lemmas.Result.{IfOk-weaker}
use Rattle.pptext.specs.declared.tokens.Fault.{Fault}
use Rattle.std.specs.declared.alloc.AllocError.{AllocError as Memory}
use Rattle.ppshelf.specs.Files.{Files, Extends}
use Rattle.ppunit.specs.States.{State, Progress, output}
use Rattle.ppunit.specs.code.Contexts.{context_over}
use Rattle.ppunit.specs.Unit.{Translates, state_before}
use Rattle.ppunit.proofs.preprocessing.run_unit.Goals as goal

pub returns-clause-grows : goal.returns-clause-grows
returns-clause-grows g c = subst (λ (z : Files). Extends z c.args.pass.now.files) (search rules) c.first_fault-outcome.ensures.keeps_context.grows

pub returns-clause-value : goal.returns-clause-value
returns-clause-value g c =
    let unit = c.args.unit.now in
    let From : Files → State → Progress → Type 0 = λ z s r. Translates (context_over c.args.context.now z) unit s r in
    let files = c.first_fault-outcome.new.self.pass.now.files in
    let Ended : Result (Option Fault) Memory → Type 0 = λ e.
    IfOk e (λ fault. From files c.in_ok-state.state (record { state = c.first_fault-outcome.new.self.state; fault = fault })) in
    subst (λ (z : Files). IfOk c.into_output.result (λ out. (r : Progress) × From z (state_before c.args.keeps c.args.setting.now) r × (out ≡ output r))) (search rules)
    (IfOk-weaker c.into_output.result _ (λ out. (r : Progress) × From files (state_before c.args.keeps c.args.setting.now) r × (out ≡ output r))
    (λ out ends.
    let r : Progress = record { state = c.first_fault-outcome.new.self.state; fault = ends.0 } in
    let translated : From files c.in_ok-state.state r = subst Ended ends.1 c.first_fault-outcome.ensures.translated in
    (r, subst (λ (s : State). From files s r) c.in_ok-state.ensures translated, ends.2))
    c.into_output.ensures)
