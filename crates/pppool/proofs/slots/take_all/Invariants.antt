use Rattle.std.proofs.Common.{◌≡◌, map, Some}
use Rattle.pppool.proofs.slots.take_all.Given as goal

abbrev pub invariant-loop-slot : goal.invariant-loop-slot
invariant-loop-slot l = l.yielded ≡ map Some l.all.items
