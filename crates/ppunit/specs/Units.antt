-- The values of a list of units.
use Rattle.std.specs.Prelude.{ℕ, List}
use Rattle.std.specs.List.{AllZip}
use Rattle.ppshelf.specs.Files.{Files}
use Rattle.ppunit.specs.declared.units.Setting.{Setting}
use Rattle.ppunit.specs.declared.units.Unit.{Unit as UnitOfList}
use Rattle.ppunit.specs.declared.units.UnitOut.{UnitOut}
use Rattle.ppunit.specs.Unit.{IsUnit}
use Rattle.ppunit.specs.Capped.{IsInBudget, IsCappedOver}

-- these outputs are the values of the units over these files, in order
abbrev pub AreUnits : List (List ℕ) → Files → Setting → List UnitOfList → List UnitOut → Type 0
AreUnits names files setting units outs = AllZip (λ unit out. IsUnit names files setting unit out) units outs

-- each unit's replacements and opened files total at most the budget
abbrev pub AreInBudget : List (List ℕ) → Files → Setting → List UnitOfList → List UnitOut → Type 0
AreInBudget names files setting units outs = AllZip (λ unit out. IsInBudget names files setting unit out) units outs

-- each output is what the budget leaves of the unit's value without a budget, over these files and any larger set
abbrev pub AreCapped : List (List ℕ) → Files → Setting → List UnitOfList → List UnitOut → Type 0
AreCapped names files setting units outs = AllZip (λ unit out. IsCappedOver names files setting unit out) units outs
