-- The value of a unit: phases 1 to 4 of its definitions and its file.
use Rattle.std.specs.Prelude.{◌≡◌, ℕ, suc, Bool, true, false, ◌||◌, ◌+◌, ◌<◌, pos, List, [], ◌∷◌, ◌++◌, All, length, Some, None, Ok, Err}
use Rattle.std.specs.List.{list_any}
use Rattle.std.specs.Option.{is_some}
use Rattle.pptext.specs.declared.tokens.Place.{Place}
use Rattle.pptext.specs.declared.tokens.Fault.{Fault}
use Rattle.pptext.specs.declared.sources.Profile.{Profile}
use Rattle.pptext.specs.Lines.{LogicalLine}
use Rattle.pptext.specs.Sources.{Reads}
use Rattle.pptext.specs.Tree.{GroupParts, Tree}
use Rattle.ppmacro.specs.Predefined.{initial_macros}
use Rattle.ppexpand.specs.Budget.{new_meter}
use Rattle.ppshelf.specs.Files.{Files}
pub use Rattle.ppunit.specs.CommandFile.{CommandMacros, command_file, command_line, command_text}
use Rattle.ppunit.specs.declared.units.Unit.{Unit as UnitOfList}
use Rattle.ppunit.specs.declared.units.Setting.{Setting}
use Rattle.ppunit.specs.declared.units.FirstFile.{FirstFile}
use Rattle.ppunit.specs.declared.units.ShownDirectory.{ShownDirectory}
use Rattle.ppunit.specs.declared.units.MarkSort.TheVariants as mark_sort
use Rattle.ppunit.specs.declared.units.UnitOut.{UnitOut}
use Rattle.ppunit.specs.States.{State, Context, Progress, Showing, Opening, running, stopped, named, marked, output}
use Rattle.ppunit.specs.ShownNames.{shown_or_own}
use Rattle.ppunit.specs.Directives.{at_end}
use Rattle.ppunit.specs.Group.{ExecutesGroup, OpensFile}
use Rattle.ppunit.specs.Counts.{count_group, count_opening}

-- a unit begins with the predefined names (6.10.8.1), in GNU C with `__COUNTER__` too, and nothing else; the flag says whether its items are kept
abbrev pub state_before : Bool → Setting → State
state_before keeps setting =
    record {
      macros = initial_macros setting.profile;
      keeps = keeps;
      items = [];
      deps = [];
      once = [];
      pushed = [];
      meter = new_meter setting.budget;
      env = record
          { name = []; shift = pos 0; date = setting.date; time = setting.time; profile = setting.profile };
      directory = None;
      shown = [];
      system = false;
      system_rows = [];
      waiting = [];
    }

abbrev pub initial_state : Setting → State
initial_state setting = state_before true setting

-- the location of the file's first byte
abbrev pub first_place : ℕ → Place
first_place row = record { file = row; line = 1; col = 1 }

-- phases 1 to 4 of a unit's definitions, before its file
pub data Defines (context : Context) (defines : List (List ℕ)) : State → Progress → Type 0 where
  unread : {s : State} {f : Fault}
      → Reads context.profile command_file (command_text defines) (Err f)
      → Defines context defines s (stopped s f)
  processed : {s : State} {lines : List LogicalLine} {parts : GroupParts} {m : Progress}
      → Reads context.profile command_file (command_text defines) (Ok lines)
      → Tree lines parts
      → ExecutesGroup context 0 command_file (running s) parts m
      → Defines context defines s (at_end m)

-- ---- the files that are read before the unit's own (gcc's manual, `-include`)

-- such a file is opened as if an include line of the unit's definitions named it: it is found next to the unit's file, with
-- which the unit goes on
abbrev pub first_opening : List (List ℕ) → ℕ → FirstFile → Opening
first_opening names main f =
    record {
      directory = Some 0;
      shown = shown_or_own names f.file f.shown;
      system = f.system;
      resumption = Some (record { row = main; last = 0 });
    }

-- the location of its include line, which would be this line of the definitions
abbrev pub first_file_place : ℕ → Place
first_file_place number = record { file = command_file; line = number; col = 1 }

-- the files one after the other, the first by this line, up to a fault; they are one level deeper than the unit's own file
pub data OpensFirst (context : Context) (main : ℕ) : ℕ → State → List FirstFile → Progress → Type 0 where
  all_read : {number : ℕ} {s : State} → OpensFirst context main number s [] (running s)
  first_fault : {number : ℕ} {s t : State} {file : FirstFile} {files : List FirstFile} {f : Fault}
      → OpensFile context 1 (first_file_place number) s file.file (first_opening context.names main file) (stopped t f)
      → OpensFirst context main number s (file ∷ files) (stopped t f)
  first_read : {number : ℕ} {s t : State} {file : FirstFile} {files : List FirstFile} {m : Progress}
      → OpensFile context 1 (first_file_place number) s file.file (first_opening context.names main file) (running t)
      → OpensFirst context main (suc number) t files m
      → OpensFirst context main number s (file ∷ files) m

-- before the first of them the unit's own file has its name, and a mark
abbrev pub before_first : ℕ → List ℕ → List FirstFile → State → State
before_first main shown [] s = s
before_first main shown (file ∷ files) s = marked (named s shown) mark_sort.Line main 0

-- ---- the unit

-- the unit's own file is opened
abbrev pub main_opening : List ℕ → Opening
main_opening shown = record { directory = None; shown = shown; system = false; resumption = None }

-- the name under which the unit's own file is shown
abbrev pub main_name : List (List ℕ) → UnitOfList → List ℕ
main_name names unit = shown_or_own names unit.file unit.shown

-- the definitions, the files that are read first, and then the unit's file
pub data Translates (context : Context) (unit : UnitOfList) : State → Progress → Type 0 where
  definitions_fault : {s t : State} {f : Fault}
      → Defines context unit.defines.texts s (stopped t f)
      → Translates context unit s (stopped t f)
  fault_before_main : {s t u : State} {f : Fault}
      → Defines context unit.defines.texts s (running t)
      → OpensFirst context unit.file (suc (length unit.defines.texts)) (before_first unit.file (main_name context.names unit) unit.first t) unit.first (stopped u f)
      → Translates context unit s (stopped u f)
  translated : {s t u : State} {m : Progress}
      → Defines context unit.defines.texts s (running t)
      → OpensFirst context unit.file (suc (length unit.defines.texts)) (before_first unit.file (main_name context.names unit) unit.first t) unit.first (running u)
      → OpensFile context 0 (first_place unit.file) u unit.file (main_opening (main_name context.names unit)) m
      → Translates context unit s m

-- some directory is shown by a name that the list says
abbrev pub some_is_shown : List ShownDirectory → Bool
some_is_shown = list_any (λ (d : ShownDirectory). is_some d.shown)

-- a unit shows names if the list says how its file, or a directory that is searched, is shown
abbrev pub showing_of : Setting → UnitOfList → Showing
showing_of setting unit =
    record {
      shows_names = is_some unit.shown || (some_is_shown unit.search_shown || some_is_shown setting.search_shown);
      directories = unit.search_shown ++ setting.search_shown;
    }

abbrev pub context_of_unit : List (List ℕ) → Files → Setting → UnitOfList → Context
context_of_unit names files setting unit =
    record {
      names = names;
      profile = setting.profile;
      files = files;
      unit_directories = unit.search;
      setting_directories = setting.search;
      showing = showing_of setting unit;
    }

-- the unit's file and those that are read first are among `rows` files
abbrev pub HasRows : ℕ → UnitOfList → Type 0
HasRows rows unit = (unit.file < rows) × All (λ (f : FirstFile). f.file < rows) unit.first

-- a unit over `rows` files, whose definitions have the profile
abbrev pub IsUnitOf : ℕ → Profile → UnitOfList → Type 0
IsUnitOf rows profile unit = HasRows rows unit × (unit.defines.profile ≡ profile)

-- ---- the count

abbrev pub count_defines : {context : Context} {defines : List (List ℕ)} {s : State} {m : Progress} → Defines context defines s m → ℕ
count_defines (unread reads) = 0
count_defines (processed reads tree here) = count_group here

abbrev pub count_first : {context : Context} {main number : ℕ} {s : State} {files : List FirstFile} {m : Progress}
    → OpensFirst context main number s files m
    → ℕ
count_first all_read = 0
count_first (first_fault opens) = count_opening opens
count_first (first_read opens rest) = count_opening opens + count_first rest

abbrev pub count_translates : {context : Context} {unit : UnitOfList} {s : State} {m : Progress} → Translates context unit s m → ℕ
count_translates (definitions_fault here) = count_defines here
count_translates (fault_before_main here first) = count_defines here + count_first first
count_translates (translated here first opens) = count_defines here + (count_first first + count_opening opens)

-- ---- the value

-- the value of a unit over these files
pub record IsUnit (names : List (List ℕ)) (files : Files) (setting : Setting) (unit : UnitOfList) (out : UnitOut) : Type 0 where
  pub progress : Progress
  pub translates : Translates (context_of_unit names files setting unit) unit (initial_state setting) progress
  pub is_output : out ≡ output progress

-- an output without its items
abbrev pub without_items : UnitOut → UnitOut
without_items out = record { items = []; deps = out.deps; fault = out.fault }

-- the value of a unit over these files, but for its items
pub record IsUnitWithoutItems (names : List (List ℕ)) (files : Files) (setting : Setting) (unit : UnitOfList) (out : UnitOut) : Type 0 where
  pub whole : UnitOut
  pub value : IsUnit names files setting unit whole
  pub is_output : out ≡ without_items whole

-- the number of replacements and opened files of a unit, including the main file
abbrev pub count : {names : List (List ℕ)} {files : Files} {setting : Setting} {unit : UnitOfList} {out : UnitOut}
    → IsUnit names files setting unit out
    → ℕ
count p = count_translates p.translates
