use Rattle.std.proofs.Common.{◌≡◌, ◌-◌, [], length, All}
use Rattle.pppool.specs.Desk.{seat_state, new_seat}
use Rattle.pppool.proofs.desk.Desk.new.Given as goal

abbrev pub invariant-loop : goal.invariant-loop
invariant-loop l =
    (l.first.table_id ≡ l.table.shared.table_id)
    × (l.first.me ≡ (seat_state [] 0 (l.seats - l.counter) l.plan, []))
    × (length l.all.items ≡ l.counter)
    × All (λ s. s ≡ new_seat (record { table = l.table.shared.table_id; plan = l.plan })) l.all.items
