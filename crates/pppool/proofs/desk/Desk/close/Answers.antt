use Rattle.std.proofs.Common.{ℕ, ◌≡◌, ◌+◌, ◌<◌, ap, sym, ◌∙◌, arith, get_or}
use Rattle.atomic_table.specs.Table.{Me}
use Rattle.pppool.specs.declared.seat_state.SeatState.{SeatState}
use Rattle.pppool.specs.declared.seat_state.Plan.{Plan}
use Rattle.std.proofs.lemmas.Bool.{eqb-true, false≢true}
use Rattle.ppshelf.specs.Events.{times}
use Rattle.pppool.specs.Desk.{DeskId, once_below, any_empty, claims_of}
use Rattle.pppool.proofs.ClaimSteps.{joins, whole, at_most_once, claims_blocks}
use Rattle.pppool.proofs.SeatTotals.{times_at}
use Rattle.pppool.proofs.SeatJoining.{front_all, last_all, times_popped, joined_times, empty_popped, marked_now, or_when_true, or_when_false, none_claimed}
use Rattle.pppool.proofs.desk.Desk.close.Goals.{then-found_empty-2, else-found_empty-2}
use Rattle.pppool.proofs.desk.Desk.close.Goals as goal

pub loop-other-init : goal.loop-other-init
loop-other-init c =
    let e = c.into_parts-all.ensures in
    let p = c.in-Some.ensures in
    let own = last_all c.args.self c.args.seats.items c.pop.new.self.items c.in-Some.one p.items c.requires in (
      e.desk.0 ∙ (ap (λ (d : DeskId). d.table) own ∙ ap (λ (d : DeskId). d.table) (sym c.self.view_is)),
      e.seat.0,
      e.desk.1 ∙ (ap (λ (d : DeskId). d.plan) own ∙ ap (λ (d : DeskId). d.plan) (sym c.self.view_is)),
      omega arith,
      omega arith,
      (λ x. times_popped x c.args.seats.items c.pop.new.self.items c.in-Some.one c.into_parts-all.result.0.me.0.claims p.items e.seat.2),
      empty_popped c.args.seats.items c.pop.new.self.items c.in-Some.one c.into_parts-all.result.1 p.items e.found_empty.0,
      marked_now c.into_parts-all.result.1 c.into_parts-all.result.0.me.0.empty_claims e.found_empty.1,
      front_all c.args.self c.args.seats.items c.pop.new.self.items c.in-Some.one p.items c.requires,
    )

pub join_seat-requires : goal.join_seat-requires
join_seat-requires c =
    let k = c.loop-other.invariant in
    let e = c.into_parts-seat.ensures in
    let p = c.in-Some-pop.ensures in
    let t = c.self.inside.table.shared in
    let own = last_all c.args.self c.loop-other.seats.items c.pop-in-loop-other.new.self.items c.in-Some-pop.other p.items k.8 in (
      k.0,
      e.desk.0 ∙ (ap (λ (d : DeskId). d.table) own ∙ ap (λ (d : DeskId). d.table) (sym c.self.view_is)),
      e.seat.0,
      omega (arith, c.self.invariant.1),
      joins t.key c.loop-other.all.id c.into_parts-seat.result.0.id c.loop-other.all.me.0 c.into_parts-seat.result.0.me.0 k.4,
    )

pub loop-other-preserved-then-found_empty : goal.loop-other-preserved-then-found_empty
loop-other-preserved-then-found_empty c =
    let k = c.loop-other.invariant in
    let e = c.into_parts-seat.ensures in
    let p = c.in-Some-pop.ensures in
    let j = c.join_seat.ensures in
    let seats : c.join_seat.new.seat.me.0.seats ≡ c.loop-other.all.me.0.seats + c.into_parts-seat.result.0.me.0.seats = ap (λ (m : Me ℕ SeatState). m.0.seats) j.2 in
    let empty_claims : c.join_seat.new.seat.me.0.empty_claims ≡ c.loop-other.all.me.0.empty_claims + c.into_parts-seat.result.0.me.0.empty_claims = ap (λ (m : Me ℕ SeatState). m.0.empty_claims) j.2 in (
      j.0 ∙ k.0,
      ap (λ (m : Me ℕ SeatState). m.1) j.2 ∙ k.1,
      ap (λ (m : Me ℕ SeatState). m.0.plan) j.2 ∙ k.2,
      omega arith,
      omega arith,
      (λ x. joined_times x c.loop-other.seats.items c.pop-in-loop-other.new.self.items c.in-Some-pop.other c.loop-other.all.me.0.claims
          c.into_parts-seat.result.0.me.0.claims c.join_seat.new.seat.me.0.claims _ (ap (λ (m : Me ℕ SeatState). m.0.claims) j.2) p.items e.seat.2 (k.5 x)),
      or_when_true c.loop-other.found_empty (any_empty c.loop-other.seats.items) (any_empty c.pop-in-loop-other.new.self.items) (any_empty c.args.seats.items) c.if-found_empty.true k.6,
      (λ is. let m = k.7 is in omega arith),
      front_all c.args.self c.loop-other.seats.items c.pop-in-loop-other.new.self.items c.in-Some-pop.other p.items k.8,
    )

pub loop-other-preserved : goal.loop-other-preserved
loop-other-preserved c =
    let k = c.loop-other.invariant in
    let e = c.into_parts-seat.ensures in
    let p = c.in-Some-pop.ensures in
    let j = c.join_seat.ensures in
    let seats : c.join_seat.new.seat.me.0.seats ≡ c.loop-other.all.me.0.seats + c.into_parts-seat.result.0.me.0.seats = ap (λ (m : Me ℕ SeatState). m.0.seats) j.2 in
    let empty_claims : c.join_seat.new.seat.me.0.empty_claims ≡ c.loop-other.all.me.0.empty_claims + c.into_parts-seat.result.0.me.0.empty_claims = ap (λ (m : Me ℕ SeatState). m.0.empty_claims) j.2 in (
      j.0 ∙ k.0,
      ap (λ (m : Me ℕ SeatState). m.1) j.2 ∙ k.1,
      ap (λ (m : Me ℕ SeatState). m.0.plan) j.2 ∙ k.2,
      omega arith,
      omega arith,
      (λ x. joined_times x c.loop-other.seats.items c.pop-in-loop-other.new.self.items c.in-Some-pop.other c.loop-other.all.me.0.claims
          c.into_parts-seat.result.0.me.0.claims c.join_seat.new.seat.me.0.claims _ (ap (λ (m : Me ℕ SeatState). m.0.claims) j.2) p.items e.seat.2 (k.5 x)),
      empty_popped c.loop-other.seats.items c.pop-in-loop-other.new.self.items c.in-Some-pop.other c.into_parts-seat.result.1 p.items e.found_empty.0
          ∙ or_when_false c.loop-other.found_empty (any_empty c.loop-other.seats.items) (any_empty c.args.seats.items) c.if-found_empty.false k.6,
      (λ is. let m = marked_now c.into_parts-seat.result.1 c.into_parts-seat.result.0.me.0.empty_claims e.found_empty.1 is in omega arith),
      front_all c.args.self c.loop-other.seats.items c.pop-in-loop-other.new.self.items c.in-Some-pop.other p.items k.8,
    )

pub returns-clause-no_repeats : goal.returns-clause-no_repeats
returns-clause-no_repeats c x =
    let k = c.loop-other.invariant in
    let v = c.close_with.ensures.values.2 in
    let a = at_most_once c.self.inside.table.shared.key v.0 c.loop-other.all.id c.loop-other.all.me.0 v.1.0 v.1.1 x in
    let none = none_claimed x c.loop-other.seats.items (omega (arith, c.in_default-pop.ensures.cases.0, c.loop-other.seats.ok.0)) in
    let e = k.5 x in
    omega arith

pub returns-clause-blocks : goal.returns-clause-blocks
returns-clause-blocks c k e w =
    let inv = c.loop-other.invariant in
    let v = c.close_with.ensures.values.2 in
    let claims = claims_of c.args.seats.items in
    let x = get_or claims k e in
    let none = none_claimed x c.loop-other.seats.items (omega (arith, c.in_default-pop.ensures.cases.0, c.loop-other.seats.ok.0)) in
    let sum = inv.5 x in
    let here : 0 < times x claims = times_at claims k e w in
    let key : c.self.inside.table.shared.key ≡ c.args.self.plan = c.self.invariant.0 ∙ ap (λ (d : DeskId). d.plan) c.self.view_is in
    let same : c.self.inside.table.shared.key.blocks ≡ c.args.self.plan.blocks = ap (λ (q : Plan). q.blocks) key in
    let below = claims_blocks c.self.inside.table.shared.key v.0 c.loop-other.all.id c.loop-other.all.me.0 v.1.0 v.1.1 x (omega arith) in
    omega arith

pub returns-clause-whole : goal.returns-clause-whole
returns-clause-whole c is x =
    let k = c.loop-other.invariant in
    let v = c.close_with.ensures.values.2 in
    let none = none_claimed x c.loop-other.seats.items (omega (arith, c.in_default-pop.ensures.cases.0, c.loop-other.seats.ok.0)) in
    let e = k.5 x in
    let key : c.self.inside.table.shared.key ≡ c.args.self.plan = c.self.invariant.0 ∙ ap (λ (d : DeskId). d.plan) c.self.view_is in
    let key_seats : c.self.inside.table.shared.key.seats ≡ c.self.inside.plan.seats = ap (λ (q : Plan). q.seats) c.self.invariant.0 in
    let blocks : once_below x c.self.inside.table.shared.key.blocks ≡ once_below x c.args.self.plan.blocks = ap (λ (q : Plan). once_below x q.blocks) key in
    elim c.if-found_empty-2.branch [
      | then-found_empty-2 w ↦
          let same : c.len-count.result ≡ c.self.inside.plan.seats = eqb-true _ _ (sym w.whole-is ∙ is) in
          let all : c.loop-other.all.me.0.seats ≡ c.self.inside.table.shared.key.seats = let z = c.in_default-pop.ensures.cases.0 in omega arith in
          let r = whole c.self.inside.table.shared.key v.0 c.loop-other.all.id c.loop-other.all.me.0 v.1.0 v.1.1 all (k.7 w.if-found_empty-2.true) x in
          omega arith
      | else-found_empty-2 w ↦ absurd (false≢true (sym w.if-found_empty-2.false ∙ (sym w.whole-is ∙ is)))
    ]
