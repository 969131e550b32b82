-- A unit with a budget, compared with the same unit without one.
use Rattle.std.specs.Prelude.{◌≡◌, ◌↔◌, ◌⊎◌, ℕ, ◌<◌, ◌≤◌, List, length, Option, None, Some}
use Rattle.pptext.specs.declared.tokens.Fault.{Fault}
use Rattle.ppexpand.specs.Laws.{IsPrefix}
use Rattle.ppshelf.specs.Names.{AreNames}
use Rattle.ppshelf.specs.Files.{Files, Extends}
use Rattle.ppunit.specs.declared.units.Unit.{Unit as UnitOfList}
use Rattle.ppunit.specs.declared.units.Setting.{Setting}
use Rattle.ppunit.specs.declared.units.UnitOut.{UnitOut}
use Rattle.ppunit.specs.Unit.{IsUnit, HasRows, count}
use Rattle.ppunit.specs.Laws.{KnowsAll}

-- the unit's fault has this number
abbrev pub HasFault : ℕ → UnitOut → Type 0
HasFault number out = (f : Fault) × (out.fault ≡ Some f) × (f.number ≡ number)

-- The value `out` of a unit with the budget b, compared with the whole: its value without a budget, which takes the
-- given number of replacements and opened files. Items and dependencies are prefixes. `out` is the whole exactly if the
-- whole takes at most b; otherwise its fault is 35.
pub record CapsUnit (b replaced_and_opened : ℕ) (whole out : UnitOut) : Type 0 where
  pub items : IsPrefix out.items whole.items
  pub deps : IsPrefix out.deps whole.deps
  pub exactly : (out ≡ whole) ↔ (replaced_and_opened ≤ b)
  pub short : b < replaced_and_opened → HasFault 35 out

abbrev pub unlimited : Setting → Setting
unlimited setting = record setting { budget = None }

-- n is at most the budget, if there is one
abbrev pub AtMost : Option ℕ → ℕ → Type 0
AtMost None n = Unit {0}
AtMost (Some b) n = n ≤ b

-- in each derivation of this value, the unit's replacements and opened files total at most its budget
abbrev pub IsInBudget : List (List ℕ) → Files → Setting → UnitOfList → UnitOut → Type 0
IsInBudget names files setting unit out = (p : IsUnit names files setting unit out) → AtMost setting.budget (count p)

-- over these files the unit has a value without a budget, and `out` is what the budget b leaves of it
pub record HasWhole (b : ℕ) (names : List (List ℕ)) (files : Files) (setting : Setting) (unit : UnitOfList) (out : UnitOut) : Type 0 where
  pub whole : UnitOut
  pub value : IsUnit names files (unlimited setting) unit whole
  pub capped : CapsUnit b (count value) whole out

-- Over these files and any larger set: `out` is what the budget leaves of each value that the unit has without a
-- budget; and if each file is known, the unit has such a value.
pub record IsCappedOver (names : List (List ℕ)) (files : Files) (setting : Setting) (unit : UnitOfList) (out : UnitOut) : Type 0 where
  pub each : (b : ℕ) (more : Files) (whole : UnitOut)
      → setting.budget ≡ Some b
      → Extends more files
      → (p : IsUnit names more (unlimited setting) unit whole)
      → CapsUnit b (count p) whole out
  pub some : (b : ℕ) (more : Files)
      → setting.budget ≡ Some b
      → Extends more files
      → KnowsAll names more
      → HasRows (length names) unit
      → HasWhole b names more setting unit out

-- ---- theorems

-- replacements and opened files total at most the budget
abbrev pub StaysInBudget : Type 0
StaysInBudget =
    (names : List (List ℕ)) (files : Files) (setting : Setting) (unit : UnitOfList) (out : UnitOut)
    → IsInBudget names files setting unit out

-- the value with a budget is a prefix, and the whole exactly if the budget suffices
abbrev pub BudgetCaps : Type 0
BudgetCaps =
    (names : List (List ℕ)) (files : Files) (setting : Setting) (unit : UnitOfList) (out : UnitOut)
    → AreNames names
    → IsUnit names files setting unit out
    → IsCappedOver names files setting unit out

-- without a budget no unit ends in fault 35
abbrev pub OnlyBudgetsRefuse : Type 0
OnlyBudgetsRefuse =
    (names : List (List ℕ)) (files : Files) (setting : Setting) (unit : UnitOfList) (out : UnitOut)
    → setting.budget ≡ None
    → IsUnit names files setting unit out
    → ¬ HasFault 35 out

-- ---- two budgets

-- the value `out` with a budget, compared with the value `more` with a larger one: a prefix, and equal unless its fault
-- is 35
pub record GivesNoLess (out more : UnitOut) : Type 0 where
  pub items : IsPrefix out.items more.items
  pub deps : IsPrefix out.deps more.deps
  pub same : (out ≡ more) ⊎ HasFault 35 out

abbrev pub with_budget : Setting → Option ℕ → Setting
with_budget setting budget = record setting { budget = budget }

-- over these files the unit has a value with this budget, or with none, and `out` is a prefix of it
pub record HasNoLess (larger : Option ℕ) (names : List (List ℕ)) (files : Files) (setting : Setting) (unit : UnitOfList) (out : UnitOut) : Type 0 where
  pub more : UnitOut
  pub value : IsUnit names files (with_budget setting larger) unit more
  pub no_less : GivesNoLess out more

-- Over these files and any larger set: `out` is a prefix of each value that the unit has with this budget, or with
-- none; and if each file is known, the unit has such a value.
pub record GivesNoLessOver (larger : Option ℕ) (names : List (List ℕ)) (files : Files) (setting : Setting) (unit : UnitOfList) (out : UnitOut) : Type 0 where
  pub each : (wider : Files) (more : UnitOut)
      → Extends wider files
      → IsUnit names wider (with_budget setting larger) unit more
      → GivesNoLess out more
  pub some : (wider : Files)
      → Extends wider files
      → KnowsAll names wider
      → HasRows (length names) unit
      → HasNoLess larger names wider setting unit out

-- with a larger budget, or with none, the value of a unit is at least as long
abbrev pub LargerBudgetsGiveNoLess : Type 0
LargerBudgetsGiveNoLess =
    (names : List (List ℕ)) (files : Files) (setting : Setting) (unit : UnitOfList) (b : ℕ) (larger : Option ℕ) (out : UnitOut)
    → AreNames names
    → AtMost larger b
    → IsUnit names files (with_budget setting (Some b)) unit out
    → GivesNoLessOver larger names files setting unit out
