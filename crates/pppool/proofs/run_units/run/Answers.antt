use Rattle.pppool.proofs.RetainedOutputs.{all_kept}
use Rattle.pppool.proofs.SlotFilling.{are_within, are_capped}
use Rattle.pppool.proofs.run_units.run.Goals as goal

pub returns-clause-value : goal.returns-clause-value
returns-clause-value g c = all_kept c.args.batch.now.shelf.now.names c.run_retaining.new.pass.files c.args.batch.now.setting.now c.args.batch.now.units.now c.in_ok-outs.outs.items c.in_ok-outs.ensures.retained

pub returns-clause-within : goal.returns-clause-within
returns-clause-within g c =
    are_within c.stays_in_budget.ensures c.args.batch.now.shelf.now.names c.run_retaining.new.pass.files c.args.batch.now.setting.now c.args.batch.now.units.now c.in_ok-outs.outs.items (returns-clause-value g c)

pub returns-clause-capped : goal.returns-clause-capped
returns-clause-capped g c =
    let batch = c.args.batch.now in
    are_capped c.budget_caps_units.ensures batch.shelf.now.names c.run_retaining.new.pass.files batch.setting.now batch.units.now c.in_ok-outs.outs.items c.names_are_distinct.ensures.names
    (returns-clause-value g c)
