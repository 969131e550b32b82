use Rattle.std.proofs.Common.{◌≡◌, ap, length, ◌∙◌, ◌++◌, ◌∷◌, []}
use Rattle.pppool.specs.Desk.{SeatView}
use Rattle.pppool.specs.code.Workers.{result_units}
use Rattle.pppool.proofs.WorkerResults.{all_answered_push}
use Rattle.pppool.proofs.SeatJoining.{nearer}
use Rattle.pppool.proofs.workers.Worker.work.Goals as goal

pub loop-number-smaller : goal.loop-number-smaller
loop-number-smaller g c =
    let e = c.in_ok-work_block.ensures in
    let s = c.in-Some.ensures.some in
    let claims : c.work_block.new.self.seat.claims ≡ c.loop-number.self.seat.claims ++ c.in-Some.number ∷ [] = ap (λ (v : SeatView). v.claims) e.seat ∙ s.3 in
    nearer c.loop-number.self.seat.claims c.work_block.new.self.seat.claims c.in-Some.number c.args.job.now.desk.now.plan.blocks s.2 s.1 claims

pub loop-number-preserved : goal.loop-number-preserved
loop-number-preserved g c =
    let k = c.loop-number.invariant in
    let e = c.in_ok-work_block.ensures in
    let s = c.in-Some.ensures in
    let claims : c.work_block.new.self.seat.claims ≡ c.loop-number.self.seat.claims ++ c.in-Some.number ∷ [] = ap (λ (v : SeatView). v.claims) e.seat ∙ s.some.3 in (
      ap (λ (v : SeatView). v.desk) e.seat ∙ s.desk,
      e.shelf,
      e.results,
      all_answered_push (length c.args.job.now.units.now) c.args.job.now.block c.in-Some.number c.loop-number.self.seat.claims c.work_block.new.self.seat.claims
          (result_units c.loop-number.self.results.items) (result_units c.work_block.new.self.results.items)
          claims k.3 e.stay e.block_complete,
    )
