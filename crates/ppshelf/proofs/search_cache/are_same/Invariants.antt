use Rattle.std.proofs.Common.{◌≡◌, take}
use Rattle.ppshelf.proofs.search_cache.are_same.Given as goal

abbrev pub invariant-loop-index : goal.invariant-loop-index
invariant-loop-index l = take l.index l.copies ≡ take l.index l.texts
