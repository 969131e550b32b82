use Rattle.std.proofs.Common.{◌≡◌, ◌+◌, length, Some}
use Rattle.std.specs.Option.{option_copied, option_map_or}
use Rattle.ppshelf.specs.Search.{follow, walk}
use Rattle.ppshelf.specs.code.Paths.{segments_left}
use Rattle.ppshelf.proofs.path.Path.follow.Given as goal

abbrev pub invariant-loop-rest : goal.invariant-loop-rest
invariant-loop-rest l = follow (Some l.initial.self) l.fn.text ≡ walk (Some l.self) (segments_left (option_copied l.rest))

abbrev pub decreases-loop-rest : goal.decreases-loop-rest
decreases-loop-rest l = option_map_or (λ t. length t.now + 1) l.rest 0
