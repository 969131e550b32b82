use Rattle.std.proofs.Common.{rules, arith}
use Rattle.std.proofs.lemmas.Grind.{common_steps}
use Rattle.ppshelf.proofs.search_cache.SearchCache.new.Goals as goal

pub invariant_of-result : goal.invariant_of-result
invariant_of-result g c = record { done = search rules; count = let h = c.in_ok-vec.ensures.len in let k = c.in_ok-vec.field-0.ok in grind (arith, common_steps) }
