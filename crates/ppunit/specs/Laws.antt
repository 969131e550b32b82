-- Theorems about units.
use Rattle.std.specs.Prelude.{◌≡◌, ℕ, ◌<◌, List, length, IsSome}
use Rattle.ppshelf.specs.Names.{AreNames}
use Rattle.ppshelf.specs.Files.{Files, file_at, Extends}
use Rattle.ppunit.specs.declared.units.Unit.{Unit as UnitOfList}
use Rattle.ppunit.specs.declared.units.Setting.{Setting}
use Rattle.ppunit.specs.declared.units.UnitOut.{UnitOut}
use Rattle.ppunit.specs.Unit.{IsUnit, HasRows, count}
use Rattle.ppunit.specs.Chain.{chain, without_main}
use Rattle.ppunit.specs.IncludeStack.{include_stack}

-- over the same files a unit has one value and one count
abbrev pub HasOneValue : Type 0
HasOneValue =
    (names : List (List ℕ)) (files : Files) (setting : Setting) (unit : UnitOfList) (a b : UnitOut)
    → AreNames names
    → (p : IsUnit names files setting unit a) (q : IsUnit names files setting unit b)
    → (a ≡ b) × (count p ≡ count q)

-- the value of a unit over some files is its value over any larger set of files, with the same count
abbrev pub Grows : Type 0
Grows =
    (names : List (List ℕ)) (files more : Files) (setting : Setting) (unit : UnitOfList) (out : UnitOut)
    → Extends more files
    → (p : IsUnit names files setting unit out)
    → (q : IsUnit names more setting unit out) × (count q ≡ count p)

-- each file's content is known
abbrev pub KnowsAll : List (List ℕ) → Files → Type 0
KnowsAll names files = (row : ℕ) → row < length names → IsSome (file_at files row)

-- if each file's content is known and the unit's files are among them, the unit has a value, with any budget and without
-- one
abbrev pub HasSomeValue : Type 0
HasSomeValue =
    (names : List (List ℕ)) (files : Files) (setting : Setting) (unit : UnitOfList)
    → KnowsAll names files
    → HasRows (length names) unit
    → (out : UnitOut) × IsUnit names files setting unit out

-- the include chain, which the items of a value say, is the include stack of its derivation, without the unit's own file
abbrev pub ChainIsStack : Type 0
ChainIsStack =
    (names : List (List ℕ)) (files : Files) (setting : Setting) (unit : UnitOfList) (out : UnitOut)
    → (p : IsUnit names files setting unit out)
    → chain out.items ≡ without_main (include_stack p)
