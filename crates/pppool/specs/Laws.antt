-- Theorems about the values of a list.
use Rattle.std.specs.Prelude.{◌≡◌, ◌↔◌, ℕ, List, length, All}
use Rattle.std.specs.List.{AllZip}
use Rattle.ppshelf.specs.Names.{AreNames}
use Rattle.ppshelf.specs.Files.{Files, Extends, Agree}
use Rattle.ppunit.specs.declared.units.Unit.{Unit as UnitOfList}
use Rattle.ppunit.specs.declared.units.Setting.{Setting}
use Rattle.ppunit.specs.declared.units.UnitOut.{UnitOut}
use Rattle.ppunit.specs.Unit.{IsUnit, HasRows}
use Rattle.ppunit.specs.Units.{AreUnits}
use Rattle.ppunit.specs.Laws.{KnowsAll}
use Rattle.pppool.specs.declared.retention.Retain.{Retain}
use Rattle.pppool.specs.Retained.{AreRetained}

-- the values of units over some files, such as those that one worker knows, are their values over any larger set, such
-- as those that all workers know
abbrev pub ListGrows : Type 0
ListGrows =
    (names : List (List ℕ)) (files more : Files) (setting : Setting) (units : List UnitOfList) (results : List UnitOut)
    → Extends more files → AreUnits names files setting units results → AreUnits names more setting units results

-- two file maps agree if one map extends both, such as those of two passes that were merged into one pass
abbrev pub JoinedAgree : Type 0
JoinedAgree = (one two all : Files) → Extends all one → Extends all two → Agree one two

-- over these files the unit has this value and no other
abbrev pub IsOnlyValue : List (List ℕ) → Files → Setting → UnitOfList → UnitOut → Type 0
IsOnlyValue names files setting unit out = (other : UnitOut) → IsUnit names files setting unit other ↔ (other ≡ out)

-- The value of each unit over one set of files is its only value over any larger set.
abbrev pub EachHasOneValue : Type 0
EachHasOneValue =
    (names : List (List ℕ)) (files more : Files) (setting : Setting) (units : List UnitOfList) (results : List UnitOut)
    → AreNames names
    → AreUnits names files setting units results
    → Extends more files
    → AllZip (λ unit out. IsOnlyValue names more setting unit out) units results

-- What is kept of the units' values over one set of files is the only such list over any larger set.
abbrev pub RetainsOneList : Type 0
RetainsOneList =
    (retain : Retain) (names : List (List ℕ)) (files more : Files) (setting : Setting) (units : List UnitOfList) (outs others : List UnitOut)
    → AreNames names
    → AreRetained retain names files setting units outs
    → Extends more files
    → AreRetained retain names more setting units others ↔ (others ≡ outs)

-- if each file's content is known, units whose files are among them have values, with any budget and without one
abbrev pub HasSomeValues : Type 0
HasSomeValues =
    (names : List (List ℕ)) (files : Files) (setting : Setting) (units : List UnitOfList)
    → KnowsAll names files
    → All (HasRows (length names)) units
    → (results : List UnitOut) × AreUnits names files setting units results
