-- The tables of the pool of hide sets and of a macro's parameters, with how their keys are hashed. Only contracts of private functions and the view of private
-- fields use them.
use Rattle.std.specs.Prelude.{List}
use Rattle.pptext.specs.declared.hashing.Hashing.{Hashing}
use Rattle.ppmacro.specs.Names.{Name}
use Rattle.ppmacro.specs.PairCache.{CachedPairs}
use Rattle.ppmacro.specs.declared.macros.MacroKind.{MacroKind}

-- Names in the order of their numbers.
pub record HashedNames : Type 0 where
  pub names : List Name
  pub hashing : Hashing

-- Cached results of pairs.
pub record HashedPairs : Type 0 where
  pub results : CachedPairs
  pub hashing : Hashing

-- The kind of a macro, with an index of its parameters.
pub record HashedParameters : Type 0 where
  pub kind : MacroKind
  pub hashing : Hashing
