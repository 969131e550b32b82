use Rattle.std.proofs.Common.{◌≡◌, ◌-◌, ap, sym, arith, [], subst, refl, rules}
use Rattle.atomic_table.specs.Table.{Splits}
use Rattle.pppool.specs.declared.seat_state.SeatState.{SeatState}
use Rattle.pppool.specs.Desk.{seat_state, ClaimInvariant, plan_of}
use Rattle.pppool.proofs.ClaimSteps.{splits}
use Rattle.pppool.proofs.desk.Desk.new.Goals as goal

pub split_seat-seat-requires : goal.split_seat-seat-requires
split_seat-seat-requires c =
    let k = c.loop.invariant in
    let t = c.in_ok-table.table.shared in
    let me : seat_state [] 0 (c.args.seats - c.loop.counter) (plan_of c.args.blocks c.args.seats) ≡ c.loop.first.me.0 = ap (λ m. m.0) (sym k.1) in
    let P : SeatState → Type 0 = λ v. Splits (ClaimInvariant t.key) c.loop.first.id v (seat_state v.claims v.empty_claims (v.seats - 1) v.plan) (seat_state [] 0 1 v.plan) in
    (k.0, omega (arith, c.in_ok-table.ensures.0), subst P me (splits t.key c.loop.first.id (seat_state [] 0 (c.args.seats - c.loop.counter) (plan_of c.args.blocks c.args.seats)) (omega arith) refl refl))

pub returns-clause-count : goal.returns-clause-count
returns-clause-count c = search rules
