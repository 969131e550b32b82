-- A list of translation units, as contracts see it.
use Rattle.std.specs.Prelude.{ℕ, List}
use Rattle.ppunit.specs.declared.units.Setting.{Setting}
use Rattle.ppunit.specs.declared.units.Unit.{Unit as UnitOfList}

-- The setting of all units, the files' names in order, their contents if the list holds them, and the units
pub record CompilationList : Type 0 where
  pub setting : Setting
  pub names : List (List ℕ)
  pub contents : List (List ℕ)
  pub units : List UnitOfList
