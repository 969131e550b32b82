use Rattle.std.proofs.Common.{◌∙◌, refl, subst}
use Rattle.pppool.proofs.SlotFilling.{if_ok_then}
use Rattle.pppool.specs.declared.retention.Retain.{Retain}
use Rattle.ppserve.specs.code.Runs.{AreRetainedOverSome, list_over}
use Rattle.ppserve.proofs.ServedOutput.{can_run, printed_output}
use Rattle.ppserve.proofs.in_memory.print_run.Goals as goal

pub run-requires-clause-units : goal.run-requires-clause-units
run-requires-clause-units g c =
    can_run (list_over c.args.run.shelf c.args.run.setting c.args.run.units) c.args.run.shelf.names c.as_slice-units.result.now c.requires.runnable refl c.as_slice-units.ensures

pub returns : goal.returns
returns g c =
    let run = c.args.run in
    let P : Retain → Type 0 = λ r. AreRetainedOverSome g.D.Disk.may r run.shelf run.setting c.as_slice-units.result.now c.in_ok-outs.outs.items in
    let kept = subst P c.needed_retention.ensures c.in_ok-outs.ensures in
    if_ok_then c.print_output.result c.print_output.ensures (λ p is. printed_output p.any_fault p.text.items is _ (list_over run.shelf run.setting run.units) run.shelf c.in_ok-outs.outs.items refl
    (c.as_slice-names.ensures ∙ c.names.ensures.names) c.as_slice-units.ensures c.as_slice.ensures.value kept)
