use Rattle.std.proofs.Common.{List, sym, subst, ap, ◌∙◌}
use Rattle.ppunit.specs.declared.units.Unit.{Unit as UnitOfList}
use Rattle.pppool.specs.code.Workers.{IsRetained, UnitResult, AreUnitResults, result_units}
use Rattle.pppool.proofs.WorkerResults.{answers_push, answered_push}
use Rattle.pppool.proofs.workers.Worker.work_unit.Goals as goal

pub returns-clause-results : goal.returns-clause-results
returns-clause-results g c =
    let job = c.args.job.now in
    let new = c.unit_output-outcome.new.pass.files in
    let P : List UnitResult → Type 0 = AreUnitResults job.retain job.shelf.now new job.setting.now job.units.now in
    let e = c.in_ok-out.ensures in
    let out = c.in_ok-out.out in
    let Q : UnitOfList → Type 0 = λ u. IsRetained job.retain (job.shelf.now.names) new job.setting.now u out in
    subst P (sym c.in_ok-push.ensures.items)
    (answers_push c.growth.ensures job.retain job.shelf.now c.args.self.now.pass.files new job.setting.now job.units.now c.args.self.now.results.items c.args.unit c.index-job-unit.result out
    e.grows c.requires.results c.requires.unit c.index-job-unit.is (subst Q (sym c.index-job-unit.is) e.is))

pub returns-clause-result_units : goal.returns-clause-result_units
returns-clause-result_units g c =
    ap result_units c.in_ok-push.ensures.items ∙ answered_push c.args.self.now.results.items (record { unit = c.args.unit; out = c.in_ok-out.out })
