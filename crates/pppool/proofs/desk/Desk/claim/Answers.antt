use Rattle.std.proofs.Common.{◌≡◌, ℕ, ◌+◌, ◌%◌, ◌^◌, ap, sym, ◌∙◌, arith, List, [], subst, if◌then◌else◌, Bool, rules}
use mathlib.Core.Option.{none}
use Rattle.atomic_table.specs.Table.{Me, Allows, step}
use Rattle.pppool.specs.declared.seat_state.SeatState.{SeatState}
use Rattle.pppool.specs.Desk.{DeskId, SeatView, ClaimInvariant, Claims}
use Rattle.pppool.proofs.ClaimSteps.{claims}
use Rattle.pppool.proofs.desk.Desk.claim.Goals as goal

pub fetch_add-found-requires : goal.fetch_add-found-requires
fetch_add-found-requires c =
    let t = c.self.inside.table.shared in
    let s = c.seat.inside.seat in
    let inv = c.seat.invariant in
    let desk : s.table_id ≡ t.table_id = ap (λ (v : SeatView). v.desk.table) c.seat.view_is ∙ (ap (λ (d : DeskId). d.table) c.requires ∙ ap (λ (d : DeskId). d.table) (sym c.self.view_is)) in
    let unmarked : s.me.0.empty_claims ≡ 0 = inv.2 ∙ ap (λ (b : Bool). if b then 1 else 0) c.if-seat.false in
    let P : Me ℕ SeatState → Type 0 = λ m. Allows (ClaimInvariant t.key) t.table_id.slots s.id m 0 (λ n. (n + 1) % 2 ^ 64) (Claims (step t.table_id.slots 0 1 0 none) m) in
    let me : (s.me.0, []) ≡ s.me = ap (λ (l : List _). (s.me.0, l)) (sym inv.0) in
    (desk, omega (arith, c.self.invariant.1), subst P me (claims t.key t.table_id.slots s.id s.me.0 inv.1 unmarked))

pub returns-then-found-self-clause-some : goal.returns-then-found-self-clause-some
returns-then-found-self-clause-some c = search rules
