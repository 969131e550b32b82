use Rattle.std.proofs.Common.{◌≡◌, map, take}
use Rattle.std.specs.List.{join_with_byte}
use Rattle.ppshelf.proofs.path.Path.name.Given as goal

abbrev pub invariant-loop-i : goal.invariant-loop-i
invariant-loop-i l = l.name.items ≡ join_with_byte 47 (take l.i (map (λ s. s.now) l.segment-items))
