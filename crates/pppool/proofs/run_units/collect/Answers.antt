use Rattle.std.proofs.Common.{◌≡◌, List, sym, ap, subst, length, All, true}
use Rattle.std.proofs.lemmas.List.Elements.{All-push}
use Rattle.pppool.specs.Desk.{SeatView}
use Rattle.pppool.proofs.SlotFilling.{slots_empty, filled_none, filled_push, none_at, none_told, one_more}
use Rattle.pppool.proofs.run_units.collect.Goals as goal

pub loop-finished-init : goal.loop-finished-init
loop-finished-init g c =
    let job = c.args.job.now in
    let none = c.new-seats.ensures.items in
    let slots = c.in_ok-slots.slots.items in (
      c.requires.shelf,
      (λ row x e. e),
      none_at job.desk.now c.new-seats.result.items none,
      slots_empty job.retain job.shelf.now c.args.pass.now.files job.setting.now job.units.now slots c.in_ok-slots.ensures,
      filled_none (length job.units.now) job.block c.new-seats.result.items slots none,
      none_told c.new-seats.result.items none,
      ap length none,
    )

pub loop-finished-preserved : goal.loop-finished-preserved
loop-finished-preserved g c =
    let job = c.args.job.now in
    let k = c.loop-finished.invariant in
    let e = c.absorb-seat.ensures in
    let pushed = c.in_ok-push.ensures.items in
    let At : SeatView → Type 0 = λ s. s.desk ≡ job.desk.now in
    let Told : SeatView → Type 0 = λ s. s.found_empty ≡ true in
    let Q : List SeatView → Type 0 = All Told in
    let P : List SeatView → Type 0 = All At in (
      e.shelf,
      (λ row x h. e.grows row x (k.1 row x h)),
      subst P (sym pushed) (All-push At c.loop-finished.seats.items c.absorb-seat.result k.2 e.seat.0),
      e.slots,
      filled_push (length job.units.now) job.block c.loop-finished.seats.items c.push.new.self.items c.absorb-seat.result c.loop-finished.slots.items c.absorb-seat.new.slots.items pushed k.4 e.slots_stay e.claims_filled,
      subst Q (sym pushed) (All-push Told c.loop-finished.seats.items c.absorb-seat.result k.5 e.seat.1),
      one_more _ _ _ _ _ pushed k.6,
    )

pub returns-in_err-push-clause-grows : goal.returns-in_err-push-clause-grows
returns-in_err-push-clause-grows g c = λ row x h. c.absorb-seat.ensures.grows row x (c.loop-finished.invariant.1 row x h)
