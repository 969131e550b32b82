use Rattle.std.proofs.Common.{◌∙◌, [], true, false, refl, ap, subst}
use Rattle.ppunit.specs.States.{Progress, output}
use Rattle.ppunit.specs.code.Contexts.{UnitContext, context_over}
use Rattle.ppunit.specs.Unit.{Translates, state_before, without_items}
use Rattle.ppunit.proofs.UnitValue.{whole_unit}
use Rattle.ppunit.proofs.UnkeptItems.{with_items, unit_any}
use Rattle.ppunit.proofs.preprocessing.preprocess_without_items.Goals as goal

pub returns-clause-is : goal.returns-clause-is
returns-clause-is g c =
    let unit = c.args.unit.now in
    let Of : UnitContext → Progress → Type 0 = λ l r.
    Translates (context_over l c.run_unit.new.pass.files) unit (state_before false c.args.setting.now) r in
    let value = c.in_ok-deps.ensures.value in
    let r : Progress = value.0 in
    let kept = unit_any true _ [] (subst (λ l. Of l r) c.new-context.ensures value.1) in
    let whole : Progress = with_items true kept.0 r in
    record {
      whole = output whole;
      value = whole_unit c.args.shelf.now.names c.args.shelf.now.profile c.run_unit.new.pass.files c.args.setting.now unit _ _ _ whole (output whole)
          c.requires.profile c.as_slice.ensures c.as_slice-2.ensures c.of-showing.ensures kept.1 refl;
      is_output = (λ i. record { items = c.new.ensures i; deps = c.in_ok-deps.field-0.deps; fault = c.in_ok-deps.field-0.fault }) ∙ ap without_items value.2;
    }
