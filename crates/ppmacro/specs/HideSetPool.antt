-- Hide sets by number.
use Rattle.std.specs.Prelude.{List}
use Rattle.pptext.specs.declared.hashing.Hashing.{Hashing}
use Rattle.ppmacro.specs.Names.{HideSet}
use Rattle.ppmacro.specs.PairCache.{CachedPairs}

-- The sets in the order of their numbers, which count from 0, the cached unions and intersections of pairs, and how names, sets and
-- pairs are hashed.
pub record HideSetPool : Type 0 where
  pub sets : List HideSet
  pub unions : CachedPairs
  pub intersections : CachedPairs
  pub hashing : Hashing
