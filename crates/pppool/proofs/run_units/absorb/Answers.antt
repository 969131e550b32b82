use Rattle.std.proofs.Common.{ℕ, ◌≡◌, ◌<◌, ◌/◌, List, Option, None, sym, ap, ◌∙◌, subst, length, IsSome, get_or}
use Rattle.ppshelf.specs.Files.{Extends, PassView}
use Rattle.ppunit.specs.declared.units.UnitOut.{UnitOut}
use Rattle.ppshelf.specs.Events.{times}
use Rattle.pppool.specs.Desk.{SeatView}
use Rattle.pppool.specs.code.Workers.{UnitResult, AreUnitResults, FitSlots, filled_slots}
use Rattle.pppool.proofs.WorkerResults.{answers_grow}
use Rattle.pppool.proofs.SlotFilling.{slots_grow, slots_placed, placed_stays, placed_fills, within_slots, slots_long}
use Rattle.pppool.proofs.run_units.absorb.Goals as goal

pub fill_slots-requires : goal.fill_slots-requires
fill_slots-requires g c =
    let job = c.args.job.now in
    let slots = c.args.slots.now.items in
    let old = c.args.worker.pass.files in
    let P : List UnitResult → Type 0 = λ l. (k : ℕ) (d : UnitResult) → k < length l → (get_or l k d).unit < length slots in
    let same = ap (λ v. v.items) c.into_parts-seat.ensures.2 in
    subst P (sym same) (within_slots job.retain job.shelf.now c.args.pass.now.files old job.setting.now job.units.now slots c.args.worker.results.items c.requires.slots c.requires.done.values)

pub returns-clause-slots : goal.returns-clause-slots
returns-clause-slots g c =
    let job = c.args.job.now in
    let shelf = job.shelf.now in
    let setting = job.setting.now in
    let units = job.units.now in
    let new = c.meet.new.pass.files in
    let theirs : Extends new c.args.worker.pass.files = let P : PassView → Type 0 = λ k. Extends new k.files in subst P c.into_parts-seat.ensures.1 c.meet.ensures.theirs in
    let all : AreUnitResults job.retain shelf new setting units c.args.worker.results.items = answers_grow c.growth.ensures job.retain shelf c.args.worker.pass.files new setting units c.args.worker.results.items theirs c.requires.done.values in
    let old : FitSlots job.retain shelf new setting units c.args.slots.now.items = slots_grow c.growth.ensures job.retain shelf c.args.pass.now.files new setting units c.args.slots.now.items c.meet.ensures.grows c.requires.slots in
    let P : List (Option UnitOut) → Type 0 = FitSlots job.retain shelf new setting units in
    let e : c.fill_slots.new.slots.items ≡ filled_slots c.args.slots.now.items c.args.worker.results.items = c.fill_slots.ensures ∙ ap (λ v. filled_slots c.args.slots.now.items v.items) c.into_parts-seat.ensures.2 in
    subst P (sym e) (slots_placed job.retain shelf new setting units c.args.slots.now.items c.args.worker.results.items old all)

pub returns-clause-slots_stay : goal.returns-clause-slots_stay
returns-clause-slots_stay g c i h =
    let P : List (Option UnitOut) → Type 0 = λ l. IsSome (get_or l i None) in
    subst P (sym c.fill_slots.ensures) (placed_stays c.args.slots.now.items c.into_parts-seat.result.2.items i h)

pub returns-clause-claims_filled : goal.returns-clause-claims_filled
returns-clause-claims_filled g c i w h =
    let job = c.args.job.now in
    let slots = c.args.slots.now.items in
    let P : List (Option UnitOut) → Type 0 = λ l. IsSome (get_or l i None) in
    let e : c.fill_slots.new.slots.items ≡ filled_slots slots c.args.worker.results.items = c.fill_slots.ensures ∙ ap (λ v. filled_slots slots v.items) c.into_parts-seat.ensures.2 in
    let Q : SeatView → Type 0 = λ s. 0 < times (i / job.block) s.claims in
    let claimed : 0 < times (i / job.block) c.args.worker.seat.claims = subst Q c.into_parts-seat.ensures.0 h in
    let long = slots_long job.retain job.shelf.now c.args.pass.now.files job.setting.now job.units.now slots c.requires.slots i w in
    subst P (sym e) (placed_fills slots c.args.worker.results.items i long (c.requires.done.all i w claimed))
