use Rattle.std.proofs.Common.{◌∙◌}
use Rattle.pppool.specs.code.Workers.{result_units}
use Rattle.pppool.proofs.WorkerResults.{stays_push, covers_push}
use Rattle.pppool.proofs.workers.Worker.work_block.Goals as goal

pub loop-unit-preserved : goal.loop-unit-preserved
loop-unit-preserved g c =
    let k = c.loop-unit.invariant in
    let e = c.in_ok-work_unit.ensures in
    let mid = result_units c.loop-unit.self.results.items in
    let new = result_units c.work_unit.new.self.results.items in
    (e.seat ∙ k.0, e.shelf, e.results, stays_push (result_units c.args.self.now.results.items) mid new c.loop-unit.unit e.result_units k.3, covers_push _ c.loop-unit.unit mid new e.result_units k.4)
