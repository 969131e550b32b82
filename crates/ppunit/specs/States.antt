-- The state of phase 4 in a unit (5.1.1.2, 6.10).
use Rattle.std.specs.Prelude.{ℕ, ◌+◌, pos, ◌+ℤ◌, nat_abs, Bool, true, false, if◌then◌else◌, List, [], ◌∷◌, ◌++◌, Option, Some, None}
use Rattle.std.specs.Option.{is_some}
use Rattle.std.specs.FinMap as table
use Rattle.pptext.specs.declared.tokens.Place.{Place}
use Rattle.pptext.specs.declared.tokens.Token.{Token}
use Rattle.pptext.specs.declared.tokens.Fault.{Fault}
use Rattle.pptext.specs.declared.sources.Profile.{Profile}
use Rattle.ppexpand.specs.FileNames.{literal}
use Rattle.ppmacro.specs.Names.{Name, Macros}
use Rattle.ppmacro.specs.declared.pushed_macros.PushedMacro.{PushedMacro}
use Rattle.ppmacro.specs.PushedMacros.{with_pushed, macros_after_pop, pushed_after_pop}
use Rattle.ppexpand.specs.declared.env.Env.{Env}
use Rattle.ppexpand.specs.declared.meter.Meter.{Meter}
use Rattle.ppexpand.specs.Budget.{spend_one}
use Rattle.ppshelf.specs.Files.{Files}
use Rattle.ppunit.specs.Dependencies.{has_row, with_row}
use Rattle.ppunit.specs.declared.states.FileContext.{FileContext}
use Rattle.ppunit.specs.declared.states.Resumption.{Resumption}
use Rattle.ppunit.specs.declared.units.Item.{Item}
use Rattle.ppunit.specs.declared.units.Item.TheVariants as item
use Rattle.ppunit.specs.declared.units.Mark.{Mark}
use Rattle.ppunit.specs.declared.units.MarkSort.{MarkSort}
use Rattle.ppunit.specs.declared.units.MarkSort.TheVariants.{Enter, Leave}
use Rattle.ppunit.specs.declared.units.ShownDirectory.{ShownDirectory}
use Rattle.ppunit.specs.declared.units.UnitOut.{UnitOut}

-- how the files of a unit are shown: whether the unit shows names, and how the directories that are searched are shown, the
-- unit's before the setting's
pub record Showing : Type 0 where
  pub shows_names : Bool
  pub directories : List ShownDirectory

-- the context of a unit, which stays constant: the names of all files, their profile, their known contents, the directories
-- that are searched, the unit's before the setting's, and how files are shown
pub record Context : Type 0 where
  pub names : List (List ℕ)
  pub profile : Profile
  pub files : Files
  pub unit_directories : List (List ℕ)
  pub setting_directories : List (List ℕ)
  pub showing : Showing

-- what a search for a file depends on: the context of a unit without the contents of files
pub record Search : Type 0 where
  pub names : List (List ℕ)
  pub profile : Profile
  pub unit_directories : List (List ℕ)
  pub setting_directories : List (List ℕ)

abbrev pub search_of : Context → Search
search_of context =
    record {
      names = context.names;
      profile = context.profile;
      unit_directories = context.unit_directories;
      setting_directories = context.setting_directories;
    }

-- the state of phase 4
pub record State : Type 0 where
  pub macros : Macros
  -- whether items are kept
  pub keeps : Bool
  -- the items that were emitted, if they are kept
  pub items : List Item
  -- the indices of the opened files, in the order of their first opening
  pub deps : List ℕ
  -- those of them that are not read again
  pub once : List ℕ
  -- the macros that `#pragma push_macro` keeps, the last one at the end
  pub pushed : List PushedMacro
  -- the meter of its expansions and opened files, which has the remaining budget
  pub meter : Meter
  -- the values of the predefined names
  pub env : Env
  -- the number of the directory in which the current file was found; the main file has none
  pub directory : Option ℕ
  -- the shown name of the current file: what stands before the names of headers that are found next to it
  pub shown : List ℕ
  -- whether the current file is a system header
  pub system : Bool
  -- the indices of the files that were system headers
  pub system_rows : List ℕ
  -- the tokens of an invocation whose `)` is still to come, behind directives (6.10.3, paragraph 11)
  pub waiting : List Token

-- the context of the current file
abbrev pub file_context : State → FileContext
file_context s = record { env = s.env; directory = s.directory; shown = s.shown; system = s.system }

-- the state with this context
abbrev pub in_file_context : FileContext → State → State
in_file_context c s = record s { env = c.env; directory = c.directory; shown = c.shown; system = c.system }

-- a unit is still running, or has stopped at its first fault
pub record Progress : Type 0 where
  pub state : State
  pub fault : Option Fault

abbrev pub running : State → Progress
running s = record { state = s; fault = None }

abbrev pub stopped : State → Fault → Progress
stopped s f = record { state = s; fault = Some f }

-- the items after others were emitted
abbrev pub kept : Bool → List Item → List Item → List Item
kept true items more = items ++ more
kept false items more = items

abbrev pub emitted : State → List Item → State
emitted s items = record s { items = kept s.keeps s.items items }

-- the state in which the file at index `row` is a dependency
abbrev pub with_dependency : State → ℕ → State
with_dependency s row = record s { deps = with_row row s.deps }

-- whether the name is a macro name
abbrev pub is_macro_name : Macros → Name → Bool
is_macro_name macros name = is_some (table.get macros name)

-- the state in which the file at index `row` isn't read again
abbrev pub with_once : State → ℕ → State
with_once s row = record s { once = with_row row s.once }

-- the state in which what the name is, a macro or none, is kept
abbrev pub with_macro_pushed : State → Name → State
with_macro_pushed s name = record s { pushed = with_pushed s.macros name s.pushed }

-- the state in which the name is what it was when it was kept last, if it was, and that is no longer kept
abbrev pub with_macro_popped : State → Name → State
with_macro_popped s name = record s { macros = macros_after_pop s.macros name s.pushed; pushed = pushed_after_pop name s.pushed }

-- the state with this meter
abbrev pub with_meter : State → Meter → State
with_meter s meter = record s { meter = meter }

-- the state in which these tokens wait
abbrev pub with_waiting : State → List Token → State
with_waiting s tokens = record s { waiting = tokens }

-- the state in which one is taken from the budget, for an opened file
abbrev pub with_one_spent : State → State
with_one_spent s = with_meter s (spend_one s.meter)

-- the output of a unit
abbrev pub output : Progress → UnitOut
output r = record { items = r.state.items; deps = r.state.deps; fault = r.fault }

-- ---- marks

-- the mark of the line after a physical line of the file at index `row`: the presumed name and number of that line are those of
-- the environment, and the file is a system header if it is one of `system_rows`
abbrev pub mark_in : Env → List ℕ → MarkSort → ℕ → ℕ → Mark
mark_in env system_rows sort row last =
    record {
      sort = sort;
      row = row;
      physical = last + 1;
      line = nat_abs (pos (last + 1) +ℤ env.shift);
      name = env.name;
      system = has_row row system_rows;
    }

abbrev pub mark : State → MarkSort → ℕ → ℕ → Mark
mark s sort row last = mark_in s.env s.system_rows sort row last

abbrev pub marked : State → MarkSort → ℕ → ℕ → State
marked s sort row last = emitted s (item.Mark (mark s sort row last) ∷ [])

-- the state in which the current file has this presumed name, from its first line on
abbrev pub named : State → List ℕ → State
named s name = record s { env = record s.env { name = literal name; shift = pos 0 } }

-- the state in which the file at index `row`, if the flag is set, is a system header from here on
abbrev pub with_system_row : Bool → State → ℕ → State
with_system_row system s row = record s { system_rows = if system then with_row row s.system_rows else s.system_rows }

-- ---- opened files

-- how a file is opened: the number of the directory in which it was found (the unit's own file has none), its shown name,
-- whether it is a system header, and where the including file goes on after it (the unit's own file has no such file)
pub record Opening : Type 0 where
  pub directory : Option ℕ
  pub shown : List ℕ
  pub system : Bool
  pub resumption : Option Resumption

-- a file has its own names, line numbers and directory number
abbrev pub in_file : State → ℕ → Opening → State
in_file s row how = with_system_row how.system (record (named s how.shown) { directory = how.directory; shown = how.shown; system = how.system }) row

-- a file begins with them, and with a mark; `at` is the location of the include line
abbrev pub begun : Place → State → ℕ → Opening → State
begun at s row how = marked (in_file s row how) (Enter at) row 0

-- a file that is read is a dependency, and begins
abbrev pub entering : Place → State → ℕ → Opening → State
entering at s row how = begun at (with_dependency s row) row how

-- the including file goes on with a mark, unless the unit has stopped
abbrev pub resumed_by : Resumption → State → Option Fault → Progress
resumed_by resumption s None = running (marked s Leave resumption.row resumption.last)
resumed_by resumption s (Some f) = stopped s f

abbrev pub resumed : Option Resumption → Progress → Progress
resumed None m = m
resumed (Some resumption) m = resumed_by resumption m.state m.fault

-- after a file the context of the including file is restored, and that goes on
abbrev pub leaving : State → Opening → Progress → Progress
leaving s how m = resumed how.resumption (record m { state = in_file_context (file_context s) m.state })
