-- What is kept of the units' outputs.
use Rattle.std.specs.Prelude.{◌≡◌, ℕ, List, map}
use Rattle.ppshelf.specs.Files.{Files}
use Rattle.ppunit.specs.declared.units.Unit.{Unit as UnitOfList}
use Rattle.ppunit.specs.declared.units.Setting.{Setting}
use Rattle.ppunit.specs.declared.units.UnitOut.{UnitOut}
use Rattle.ppunit.specs.Unit.{without_items}
use Rattle.ppunit.specs.Units.{AreUnits, AreInBudget, AreCapped}
use Rattle.pppool.specs.declared.retention.Retain.{Retain}
use Rattle.pppool.specs.declared.retention.Retain.TheVariants.{Everything, WithoutItems}

-- what is kept of an output
abbrev pub retained : Retain → UnitOut → UnitOut
retained Everything out = out
retained WithoutItems out = without_items out

-- these are what is kept of the units' values over these files, in order
pub record AreRetained (retain : Retain) (names : List (List ℕ)) (files : Files) (setting : Setting)
    (units : List UnitOfList) (outs : List UnitOut) : Type 0 where
  pub wholes : List UnitOut
  pub values : AreUnits names files setting units wholes
  pub same : outs ≡ map (retained retain) wholes

-- these are what is kept of the units' values; each unit's replacements and opened files total at most the budget
pub record AreRetainedInBudget (retain : Retain) (names : List (List ℕ)) (files : Files) (setting : Setting)
    (units : List UnitOfList) (outs : List UnitOut) : Type 0 where
  pub retained : AreRetained retain names files setting units outs
  pub within : AreInBudget names files setting units retained.wholes

-- these are what is kept of the units' values, each of which is what the budget leaves of the unit's value without one
pub record AreRetainedCapped (retain : Retain) (names : List (List ℕ)) (files : Files) (setting : Setting)
    (units : List UnitOfList) (outs : List UnitOut) : Type 0 where
  pub retained : AreRetained retain names files setting units outs
  pub capped : AreCapped names files setting units retained.wholes
