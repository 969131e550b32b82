use Rattle.std.proofs.Common.{◌≡◌, ◌∙◌, ap, subst}
use Rattle.std.proofs.lemmas.Result.{IfOk-weaker}
use Rattle.ppshelf.specs.Files.{Agree, ShelfView}
use Rattle.ppunit.specs.States.{Progress, output}
use Rattle.ppunit.specs.code.Contexts.{UnitContext, context_over}
use Rattle.ppunit.specs.Unit.{IsUnit, Translates, initial_state}
use Rattle.ppunit.proofs.UnitValue.{whole_unit}
use Rattle.ppunit.proofs.DependencyIndices.{unit_within}
use Rattle.ppunit.proofs.preprocessing.preprocess.Goals as goal

pub returns-clause-is : goal.returns-clause-is
returns-clause-is g c =
    let unit = c.args.unit.now in
    let Of : UnitContext → Progress → Type 0 = λ l r.
    Translates (context_over l c.run_unit-output.new.pass.files) unit (initial_state c.args.setting.now) r in
    IfOk-weaker c.run_unit-output.result (λ out. (r : Progress) × Of c.new-context.result r × (out ≡ output r))
    (IsUnit c.args.shelf.now.names c.run_unit-output.new.pass.files c.args.setting.now unit)
    (λ out gives.
    whole_unit c.args.shelf.now.names c.args.shelf.now.profile c.run_unit-output.new.pass.files c.args.setting.now unit _ _ _ gives.0 out
    c.requires.profile c.as_slice.ensures c.as_slice-2.ensures c.of-showing.ensures (subst (λ l. Of l gives.0) c.new-context.ensures gives.1) gives.2)
    c.run_unit-output.ensures.value

pub returns-clause-deps : goal.returns-clause-deps
returns-clause-deps g c =
    IfOk-weaker _ _ _ (λ out is. unit_within c.args.shelf.now.names c.run_unit-output.new.pass.files c.args.setting.now c.args.unit.now out is c.requires.unit.0)
    (returns-clause-is g c)

pub returns-clause-capped : goal.returns-clause-capped
returns-clause-capped g c =
    IfOk-weaker _ _ _ (λ out is. c.budget_caps_units.ensures c.args.shelf.now.names c.run_unit-output.new.pass.files c.args.setting.now c.args.unit.now out
    c.names_are_distinct.ensures.names is)
    (returns-clause-is g c)

pub returns-clause-within : goal.returns-clause-within
returns-clause-within g c =
    IfOk-weaker _ _ _ (λ out is. c.stays_in_budget.ensures c.args.shelf.now.names c.run_unit-output.new.pass.files c.args.setting.now c.args.unit.now out)
    (returns-clause-is g c)

pub returns-clause-filled : goal.returns-clause-filled
returns-clause-filled g c =
    let P : ShelfView → Type 0 = λ s. Agree (s.filled) c.run_unit-output.new.pass.files in
    subst P (c.run_unit-output.ensures.shelf ∙ ap (λ (l : UnitContext). l.shelf) c.new-context.ensures) c.contents_permitted.ensures.filled
