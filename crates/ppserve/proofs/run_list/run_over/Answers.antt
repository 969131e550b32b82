use Rattle.std.proofs.Common.{◌∙◌, refl}
use Rattle.ppserve.proofs.Delivery.{delivers_as}
use Rattle.ppserve.proofs.ServedOutput.{can_run, printed_output}
use Rattle.ppserve.specs.code.Runs.{list_over}
use Rattle.ppserve.proofs.run_list.run_over.Goals as goal

pub run_batch-requires-clause-units : goal.run_batch-requires-clause-units
run_batch-requires-clause-units g c κs within =
    can_run (list_over c.args.run.shelf c.args.run.setting c.args.run.units) c.args.run.shelf.names c.as_slice-units.result.now c.requires.runnable refl c.as_slice-units.ensures

pub returns : goal.returns
returns g c =
    delivers_as (λ any text is. printed_output any text is _ (list_over c.args.run.shelf c.args.run.setting c.args.run.units) c.args.run.shelf c.in_ok-outs.outs.items refl
    (c.as_slice-names.ensures ∙ c.names.ensures.names) c.as_slice-units.ensures c.as_slice.ensures.value c.in_ok-outs.ensures) c.print-outcome.ensures
