use Rattle.std.proofs.Common.{ℕ, ◌≡◌, ◌<◌, ◌/◌, ◌∙◌, List, length, ap, sym, subst, Option, arith}
use Rattle.std.proofs.lemmas.Bool.{false≢true}
use Rattle.ppshelf.specs.Files.{Agree, ShelfView}
use Rattle.ppunit.specs.declared.units.UnitOut.{UnitOut}
use Rattle.pppool.specs.declared.seat_state.Plan.{Plan}
use Rattle.pppool.specs.Desk.{claims_of}
use Rattle.pppool.specs.code.Workers.{FitSlots}
use Rattle.pppool.proofs.SeatJoining.{closes}
use Rattle.pppool.proofs.SlotFilling.{all_full, are_kept, are_within, are_capped, if_ok_then}
use Rattle.pppool.proofs.run_units.run_retaining.Goals as goal

pub prove-unreachable-requires : goal.prove-unreachable-requires
prove-unreachable-requires g c =
    let seats = c.in_ok-seats.seats.items in
    let plan = ap (λ (p : Plan). p.seats) c.in_ok-desk.ensures.plan in
    let same : length seats ≡ c.in_ok-desk.desk.plan.seats = c.in_ok-seats.ensures.count ∙ (c.in_ok-desk.ensures.count ∙ sym plan) in
    let closed = closes seats c.in_ok-desk.desk.plan.seats same (omega (arith, plan, c.get.ensures.bounds.0)) c.in_ok-seats.ensures.drained in
    false≢true (sym c.if-prove.true ∙ (c.close-all_claimed.ensures.value ∙ closed))

pub take_all-requires : goal.take_all-requires
take_all-requires g c =
    let e = c.in_ok-seats.ensures in
    let batch = c.args.batch.now in
    let Q : ℕ → Type 0 = λ n. (i : ℕ) → i < length batch.units.now → i / batch.block < n in
    let blocks = ap (λ (p : Plan). p.blocks) c.in_ok-desk.ensures.plan in
    all_full c.args.retain batch.shelf.now c.run_workers-gathered.new.pass.files batch.setting.now batch.units.now batch.block c.in_ok-desk.desk.plan.blocks (claims_of c.in_ok-seats.seats.items)
    c.in_ok-seats.slots.items
    e.slots e.full (c.close-all_claimed.ensures.whole c.if-prove.false) (subst Q (sym blocks) c.block_count.ensures.all)

pub returns-clause-retained : goal.returns-clause-retained
returns-clause-retained g c =
    let files = c.run_workers-gathered.new.pass.files in
    let P : List (Option UnitOut) → Type 0 = FitSlots c.args.retain c.args.batch.now.shelf.now files c.args.batch.now.setting.now c.args.batch.now.units.now in
    if_ok_then c.take_all.result c.take_all.ensures (λ v is. are_kept c.args.retain c.args.batch.now.shelf.now files c.args.batch.now.setting.now c.args.batch.now.units.now v.items (subst P is c.in_ok-seats.ensures.slots))

pub returns-clause-within : goal.returns-clause-within
returns-clause-within g c =
    let files = c.run_workers-gathered.new.pass.files in
    let names = c.args.batch.now.shelf.now.names in
    if_ok_then c.take_all.result (returns-clause-retained g c) (λ v retained. record {
      retained = retained;
      within = are_within c.stays_in_budget.ensures names files c.args.batch.now.setting.now c.args.batch.now.units.now retained.wholes retained.values;
    })

pub returns-clause-capped : goal.returns-clause-capped
returns-clause-capped g c =
    let files = c.run_workers-gathered.new.pass.files in
    let names = c.args.batch.now.shelf.now.names in
    if_ok_then c.take_all.result (returns-clause-retained g c) (λ v retained. record {
      retained = retained;
      capped = are_capped c.budget_caps_units.ensures names files c.args.batch.now.setting.now c.args.batch.now.units.now retained.wholes c.names_are_distinct.ensures.names retained.values;
    })

pub returns-clause-filled : goal.returns-clause-filled
returns-clause-filled g c =
    let P : ShelfView → Type 0 = λ s. Agree (s.filled) c.run_workers-gathered.new.pass.files in
    subst P c.run_workers-gathered.ensures.shelf c.contents_permitted-2.ensures.filled
