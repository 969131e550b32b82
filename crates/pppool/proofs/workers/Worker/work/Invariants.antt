use Rattle.std.proofs.Common.{◌≡◌, ◌-◌, length}
use Rattle.pppool.specs.code.Workers.{AreUnitResults, AllHaveResults, result_units}
use Rattle.pppool.proofs.SeatJoining.{next_claim}
use Rattle.pppool.proofs.workers.Worker.work.Given as goal

abbrev pub invariant-loop-number : goal.invariant-loop-number
invariant-loop-number g l =
    (l.self.seat.desk ≡ l.job.desk.now)
    × (l.self.pass.shelf ≡ l.job.shelf.now)
    × AreUnitResults l.job.retain l.job.shelf.now l.self.pass.files l.job.setting.now l.job.units.now l.self.results.items
    × AllHaveResults (length l.job.units.now) l.job.block l.self.seat.claims (result_units l.self.results.items)

abbrev pub decreases-loop-number : goal.decreases-loop-number
decreases-loop-number g l = l.job.desk.now.plan.blocks - next_claim l.self.seat.claims
