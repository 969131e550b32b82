use Rattle.std.proofs.Common.{◌≡◌, ℕ, ◌<◌, ◌≤◌}
use Rattle.ppshelf.specs.Events.{times}
use Rattle.pppool.specs.code.Workers.{AreUnitResults, result_units}
use Rattle.pppool.proofs.workers.Worker.work_block.Given as goal

abbrev pub invariant-loop-unit : goal.invariant-loop-unit
invariant-loop-unit g l =
    (l.self.seat ≡ l.initial.self.seat)
    × (l.self.pass.shelf ≡ l.job.shelf.now)
    × AreUnitResults l.job.retain l.job.shelf.now l.self.pass.files l.job.setting.now l.job.units.now l.self.results.items
    × ((i : ℕ) → 0 < times i (result_units l.initial.self.results.items) → 0 < times i (result_units l.self.results.items))
    × ((i : ℕ) → l.first ≤ i → i < l.unit → 0 < times i (result_units l.self.results.items))
