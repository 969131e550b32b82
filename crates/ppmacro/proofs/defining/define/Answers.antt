use Rattle.std.proofs.Common.{◌≡◌, ◌∙◌, Ok, refl, sym, ap}
use Rattle.std.specs.FinMap as table
use Rattle.ppmacro.specs.Define.{check_define, insert_definition, after_define}
use Rattle.ppmacro.specs.code.Defining.{unless_conflicting}
use Rattle.pptext.proofs.ErrorReturns.{stopped}
use Rattle.ppmacro.proofs.TableFreeDefinitions.{conflict-last, fault-first}
use Rattle.ppmacro.proofs.defining.define.Goals as goal

pub returns-in_err-name-clause-defined : goal.returns-in_err-name-clause-defined
returns-in_err-name-clause-defined c =
    let m = c.args.table.now.macros in
    stopped _ _ _ _ c.from_residual.ensures.1 c.in_err-name.ensures (λ f is. (ap (insert_definition m) (fault-first c.args.profile m c.args.at c.args.line.now f (sym is)), refl))

pub returns-clause-defined : goal.returns-clause-defined
returns-clause-defined c =
    let m = c.args.table.now.macros in
    let p = c.args.profile in
    let at = c.args.at in
    let line = c.args.line.now in
    let d = c.name.inside.definition in
    let is : check_define p table.empty at line ≡ Ok c.in_ok-name.field-0 = sym c.in_ok-name.ensures in
    let prepared = (λ i. record { kind = d.kind; body = sym c.as_slice.ensures i }) ∙ sym c.in_ok-prepared.ensures in
    let same : c.in_ok-name.field-0 ≡ record { name = c.name-2.inside.bytes.now; definition = c.in_ok-prepared.prepared } =
    sym c.name.view_is ∙ (λ i. record { name = sym c.name-2.view_is i; definition = prepared i }) in
    let final : insert_definition m (unless_conflicting p m at (record { name = c.name-2.inside.bytes.now; definition = c.in_ok-prepared.prepared })) ≡ after_define p m at line =
    ap (λ n. insert_definition m (unless_conflicting p m at n)) (sym same) ∙ ap (insert_definition m) (sym (conflict-last p m at line c.in_ok-name.field-0 is)) in
    rw final at c.insert_definition.ensures.defined
