-- The steps of opening a file (6.10.2). Only contracts of private functions and models of private types cite this.
use Rattle.std.specs.Prelude.{◌≡◌, ℕ, ◌<◌, ◌≤◌, ◌^◌, List, [], Bool, true, false, Option, None, Some, Ok, Err, ◌⊎◌, length}
use Rattle.pptext.specs.declared.tokens.Place.{Place}
use Rattle.pptext.specs.declared.tokens.Fault.{Fault}
use Rattle.pptext.specs.Lines.{LogicalLine}
use Rattle.pptext.specs.Tokens.{fault}
use Rattle.ppexpand.specs.Budget.{is_exhausted}
use Rattle.ppshelf.specs.Content.{Content, unreadable, IsRead}
use Rattle.ppshelf.specs.Files.{Files, ShelfView, file_at}
use Rattle.ppshelf.specs.Names.{name_in}
use Rattle.ppunit.specs.ShownNames.{shown_or_own}
use Rattle.ppunit.specs.declared.states.FileContext.{FileContext}
use Rattle.ppunit.specs.declared.states.Resumption.{Resumption}
use Rattle.ppunit.specs.States.{State, Opening, file_context, with_one_spent, begun, leaving, running}
use Rattle.ppunit.specs.Group.{depth_limit}
use Rattle.ppunit.specs.States.{is_macro_name}
use Rattle.pptext.specs.Guard.{GuardedBy}

-- a file that is being processed: its index in the file table, its lines, and the index of the next line
pub record OpenFile : Type 0 where
  pub row : ℕ
  pub lines : List LogicalLine
  pub index : ℕ

-- a file that was just opened, the context of the file that includes it, and where that goes on
pub record Entered : Type 0 where
  pub file : OpenFile
  pub outer : FileContext
  pub resumption : Option Resumption

-- a file that is to be opened: its index, the number of the directory in which it was found, its shown name unless that is its
-- name, whether it is a system header, and where the including file goes on after it
pub record ToOpen : Type 0 where
  pub row : ℕ
  pub directory : Option ℕ
  pub shown : Option (List ℕ)
  pub system : Bool
  pub resumption : Option Resumption

-- how it is opened under this shown name
abbrev pub shown_as : List ℕ → ToOpen → Opening
shown_as shown f = record { directory = f.directory; shown = shown; system = f.system; resumption = f.resumption }

-- how it is opened
abbrev pub opening_in : List (List ℕ) → ToOpen → Opening
opening_in names f = shown_as (shown_or_own names f.row f.shown) f

-- why a file of this name isn't opened: it is too deep, or else the budget is exhausted
abbrev pub IsRefusedOpening : ℕ → Place → List ℕ → State → Fault → Type 0
IsRefusedOpening depth at name s f =
    ((depth_limit < depth) × (f ≡ fault 32 at name)) ⊎ ((depth ≤ depth_limit) × (is_exhausted s.meter ≡ true) × (f ≡ fault 35 at []))

-- one opening is spent from the budget, unless there is such a fault, which changes nothing
abbrev pub SpendsOpening : ℕ → Place → List ℕ → State → State → Option Fault → Type 0
SpendsOpening depth at name s t None = (depth ≤ depth_limit) × (is_exhausted s.meter ≡ false) × (t ≡ with_one_spent s)
SpendsOpening depth at name s t (Some f) = (t ≡ s) × IsRefusedOpening depth at name s f

-- the file at index `row` has these lines
abbrev pub HasLines : ShelfView → Files → ℕ → List LogicalLine → Type 0
HasLines shelf files row lines = (content : Content) × (file_at files row ≡ Some content) × IsRead shelf.profile row content (Ok lines)

-- the file can't be read, a fault located at `at`, or its lines have a fault
abbrev pub HasFault : ShelfView → Files → ℕ → Place → Fault → Type 0
HasFault shelf files row at f =
    ((file_at files row ≡ Some unreadable) × (f ≡ fault 6 at (name_in shelf.names row)))
    ⊎ ((content : Content) × (file_at files row ≡ Some content) × IsRead shelf.profile row content (Err f))

-- the lines are one if-section under a guard, and the guard is defined
abbrev pub IsLeftOut : State → List LogicalLine → Type 0
IsLeftOut s lines = (x : List ℕ) × GuardedBy lines x × (is_macro_name s.macros x ≡ true)

-- A file of these lines is entered and left at once where no invocation waits; or it is entered, and its first line is next.
abbrev pub Begins : Place → ℕ → Opening → List LogicalLine → State → State → Option Entered → Type 0
Begins at row how lines s t None = (s.waiting ≡ []) × IsLeftOut s lines × (running t ≡ leaving s how (running (begun at s row how)))
Begins at row how lines s t (Some e) =
    (e ≡ record { file = record { row = row; lines = lines; index = 0 }; outer = file_context s; resumption = how.resumption }) × (length lines < 2 ^ 64)
    × (t ≡ begun at s row how)
