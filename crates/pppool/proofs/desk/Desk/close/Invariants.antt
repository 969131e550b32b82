use Rattle.std.proofs.Common.{ℕ, ◌≡◌, ◌+◌, ◌<◌, [], All, true, vec_len, ◌||◌}
use Rattle.ppshelf.specs.Events.{times}
use Rattle.pppool.specs.Desk.{claims_of, any_empty}
use Rattle.pppool.proofs.desk.Desk.close.Given as goal

abbrev pub invariant-loop-other : goal.invariant-loop-other
invariant-loop-other l =
    (l.all.table_id ≡ l.self-inside.table.shared.table_id)
    × (l.all.me.1 ≡ [])
    × (l.all.me.0.plan ≡ l.self-inside.plan)
    × (l.all.me.0.seats + vec_len l.seats ≡ l.count)
    × (0 < l.all.me.0.seats)
    × ((x : ℕ) → times x l.all.me.0.claims + times x (claims_of l.seats.items) ≡ times x (claims_of l.fn.seats.items))
    × ((l.found_empty || any_empty l.seats.items) ≡ any_empty l.fn.seats.items)
    × ((l.found_empty ≡ true) → 0 < l.all.me.0.empty_claims)
    × All (λ s. s.desk ≡ l.fn.self) l.seats.items

abbrev pub decreases-loop-other : goal.decreases-loop-other
decreases-loop-other l = vec_len l.seats
