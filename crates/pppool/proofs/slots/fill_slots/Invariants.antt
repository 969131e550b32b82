use Rattle.std.proofs.Common.{◌≡◌, length}
use Rattle.pppool.specs.code.Workers.{filled_slots}
use Rattle.pppool.proofs.slots.fill_slots.Given as goal

abbrev pub invariant-loop-unit_result : goal.invariant-loop-unit_result
invariant-loop-unit_result l =
    (length l.slots.items ≡ length l.initial.slots.items)
    × (l.slots.items ≡ filled_slots l.initial.slots.items l.yielded)
