-- Units in blocks, and the results of the blocks that a worker claims. Only contracts of private functions and models
-- of private types cite this.
use Rattle.std.specs.Prelude.{◌≡◌, ℕ, ◌<◌, ◌/◌, List, [], ◌∷◌, length, All, Option, Some, None, IfSome, IsSome, true, slice_index_or, slice_set}
use Rattle.std.specs.List.{AllZip}
use Rattle.ppshelf.specs.Files.{Files, ShelfView, PassView}
use Rattle.ppunit.specs.declared.units.Unit.{Unit as UnitOfList}
use Rattle.ppunit.specs.declared.units.Setting.{Setting}
use Rattle.ppunit.specs.declared.units.UnitOut.{UnitOut}
use Rattle.ppunit.specs.Unit.{IsUnit}
use Rattle.pppool.specs.Retained.{retained}
use Rattle.pppool.specs.declared.retention.Retain.{Retain}
use Rattle.ppshelf.specs.Events.{times}
use Rattle.pppool.specs.Desk.{DeskId, SeatView}

-- this is what is kept of the unit's value
pub record IsRetained (retain : Retain) (names : List (List ℕ)) (files : Files) (setting : Setting) (unit : UnitOfList) (out : UnitOut) : Type 0 where
  pub whole : UnitOut
  pub value : IsUnit names files setting unit whole
  pub same : out ≡ retained retain whole

-- what is kept of a unit's output, with the unit's number in the list
pub record UnitResult : Type 0 where
  pub unit : ℕ
  pub out : UnitOut

-- the output is what is kept of the value of the unit with its number
pub record IsUnitResult (retain : Retain) (shelf : ShelfView) (files : Files) (setting : Setting) (units : List UnitOfList) (a : UnitResult) : Type 0 where
  pub within : a.unit < length units
  pub value : (d : UnitOfList) → IsRetained retain shelf.names files setting (slice_index_or units a.unit d) a.out

abbrev pub AreUnitResults : Retain → ShelfView → Files → Setting → List UnitOfList → List UnitResult → Type 0
AreUnitResults retain shelf files setting units results = All (λ a. IsUnitResult retain shelf files setting units a) results

-- the numbers of the units that have outputs
abbrev pub result_units : List UnitResult → List ℕ
result_units [] = []
result_units (a ∷ rest) = a.unit ∷ result_units rest

-- of `count` units, in blocks of this size, each unit of one of these blocks has an output
abbrev pub AllHaveResults : ℕ → ℕ → List ℕ → List ℕ → Type 0
AllHaveResults count block blocks units = (i : ℕ) → i < count → 0 < times (i / block) blocks → 0 < times i units

-- The result of a worker: a seat that found no block left, a pass, and outputs, over what the pass knows, of all units
-- of the blocks that the seat claimed.
pub record IsDone (retain : Retain) (desk : DeskId) (shelf : ShelfView) (setting : Setting)
    (units : List UnitOfList) (block : ℕ) (seat : SeatView) (pass : PassView) (results : List UnitResult) : Type 0 where
  pub at_desk : seat.desk ≡ desk
  pub found_empty : seat.found_empty ≡ true
  pub of_shelf : pass.shelf ≡ shelf
  pub values : AreUnitResults retain shelf pass.files setting units results
  pub all : AllHaveResults (length units) block seat.claims (result_units results)

-- each slot is empty or has what is kept of its unit's value
abbrev pub FitSlots : Retain → ShelfView → Files → Setting → List UnitOfList → List (Option UnitOut) → Type 0
FitSlots retain shelf files setting units slots = AllZip (λ unit slot. IfSome slot (λ out. IsRetained retain shelf.names files setting unit out)) units slots

-- the slots with these outputs in the slots of their units
abbrev pub filled_slots : List (Option UnitOut) → List UnitResult → List (Option UnitOut)
filled_slots slots [] = slots
filled_slots slots (a ∷ rest) = filled_slots (slice_set slots a.unit (Some a.out)) rest

-- of `count` units, in blocks of this size, each unit of one of these blocks has its value in its slot
abbrev pub AllFilled : ℕ → ℕ → List ℕ → List (Option UnitOut) → Type 0
AllFilled count block blocks slots = (i : ℕ) → i < count → 0 < times (i / block) blocks → IsSome (slice_index_or slots i None)
