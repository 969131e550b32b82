-- The list of translation units that bytes hold, or why they are refused.
use Rattle.std.specs.Prelude.{◌≡◌, ℕ, ◌-◌, ◌^◌, ◌≤◌, ◌&&◌, not, Bool}
use Rattle.std.specs.Prelude.{true, false, List, [], All, if◌then◌else◌, nat_lt, nat_le, codes, length, map, Option, Some, None, unwrap_or}
use Rattle.std.specs.Option.{is_some}
use Rattle.std.specs.List.{list_all}
use Rattle.std.specs.Str.{is_utf8, bytes_eq}
use Rattle.serde_json.specs.Data.{Data}
use Rattle.serde_json.specs.Read.{read}
use Rattle.pptext.specs.declared.sources.Profile.{Profile}
use Rattle.pptext.specs.declared.sources.Profile.TheVariants.{C11, Later, Gnu}
use Rattle.ppshelf.specs.Content.{longest}
use Rattle.ppshelf.specs.Files.{max_rows}
use Rattle.ppshelf.specs.Names.{AreNames, are_names, is_directory, is_name_byte, row_among}
use Rattle.ppunit.specs.WellFormed.{is_date, is_time, is_one_line, is_setting, is_unit}
use Rattle.ppunit.specs.Unit.{command_text}
use Rattle.ppunit.specs.declared.units.Setting.{Setting}
use Rattle.ppunit.specs.declared.units.Unit.{Unit as UnitOfList}
use Rattle.ppunit.specs.declared.units.ShownDirectory.{ShownDirectory}
use Rattle.ppunit.specs.declared.units.FirstFile.{FirstFile}
use Rattle.ppserve.specs.Drafting.{draft}
use Rattle.ppserve.specs.CompilationList.{CompilationList}
use Rattle.ppserve.specs.Drafts.{DraftFile, DraftPath, DraftUnit, DraftBudget, Missing, Integer, Other, DraftSetting, Draft}

-- a list, or the number of its refusal
pub data Verdict : Type 0 where
  accepted : CompilationList → Verdict
  refused : ℕ → Verdict

-- the JSON value that bytes hold
unfoldable pub json_value : List ℕ → Option Data
json_value bytes = if is_utf8 bytes then read bytes else None

abbrev pub names_of : List DraftFile → List (List ℕ)
names_of files = map (λ (f : DraftFile). f.name) files

abbrev pub contents_of : List DraftFile → List (List ℕ)
contents_of files = map (λ (f : DraftFile). f.content) files

-- the largest number of bytes in a list
abbrev pub max_input : ℕ
max_input = 2 ^ 28

-- the files' names are in normal form and distinct
abbrev pub names_hold : List DraftFile → Bool
names_hold files = are_names (names_of files)

abbrev pub contents_fit : List DraftFile → Bool
contents_fit = list_all (λ (f : DraftFile). nat_le (length f.content) longest)

abbrev pub commands_fit : List DraftUnit → Bool
commands_fit = list_all (λ (u : DraftUnit). nat_le (length (command_text u.defines)) longest)

abbrev pub sizes_hold : Draft → Bool
sizes_hold d = nat_le (length d.files) max_rows && nat_le (length d.units) max_rows && contents_fit d.files && commands_fit d.units

abbrev pub is_known : List (List ℕ) → List ℕ → Bool
is_known names name = is_some (row_among name names)

abbrev pub paths_are_known : List (List ℕ) → List DraftPath → Bool
paths_are_known names = list_all (λ (p : DraftPath). is_known names p.name)

-- a unit's file, and those that are read first, are among the names
abbrev pub unit_is_known : List (List ℕ) → DraftUnit → Bool
unit_is_known names u = is_known names u.file && paths_are_known names u.first

abbrev pub are_known : List (List ℕ) → List DraftUnit → Bool
are_known names = list_all (unit_is_known names)

abbrev pub times_hold : DraftSetting → Bool
times_hold s = is_date s.date && is_time s.time

-- each definition is one line
abbrev pub lines_hold : List DraftUnit → Bool
lines_hold = list_all (λ (u : DraftUnit). list_all is_one_line u.defines)

abbrev pub are_directories : List DraftPath → Bool
are_directories = list_all (λ (p : DraftPath). is_directory p.name)

-- each search path is a directory name
abbrev pub directories_hold : Draft → Bool
directories_hold d = are_directories d.setting.search && list_all (λ (u : DraftUnit). are_directories u.search) d.units

-- the largest number of bytes in a shown name
abbrev pub longest_shown : ℕ
longest_shown = 4096

-- a name under which a file or a directory may be shown, in no normal form: 1 to 4,096 bytes, none of which is a control
-- character of ASCII
abbrev pub is_shown : List ℕ → Bool
is_shown s = nat_le 1 (length s) && nat_le (length s) longest_shown && list_all is_name_byte s

abbrev pub is_shown_if_any : Option (List ℕ) → Bool
is_shown_if_any None = true
is_shown_if_any (Some s) = is_shown s

abbrev pub are_shown : List DraftPath → Bool
are_shown = list_all (λ (p : DraftPath). is_shown_if_any p.shown)

abbrev pub unit_is_shown : DraftUnit → Bool
unit_is_shown u = is_shown_if_any u.shown && are_shown u.first && are_shown u.search

-- each shown name is one
abbrev pub shown_hold : Draft → Bool
shown_hold d = are_shown d.setting.search && list_all unit_is_shown d.units

-- the profile with this name
abbrev pub profile_named : List ℕ → Option Profile
profile_named t =
    if bytes_eq t (codes "c11") then Some C11 else (
    if bytes_eq t (codes "later") then Some Later else (
    if bytes_eq t (codes "gnu") then Some Gnu else None))

abbrev pub profile_holds : DraftSetting → Bool
profile_holds s = is_some (profile_named s.profile)

abbrev pub profile_of : DraftSetting → Profile
profile_of s = unwrap_or (profile_named s.profile) C11

-- the largest budget of a list
abbrev pub max_budget : ℕ
max_budget = 2 ^ 32 - 1

-- no budget, or an integer that isn't too large
abbrev pub is_budget : DraftBudget → Bool
is_budget Missing = true
is_budget (Integer n) = nat_le n max_budget
is_budget Other = false

abbrev pub budget_holds : DraftSetting → Bool
budget_holds s = is_budget s.budget

-- the budget of each unit, if there is one
abbrev pub budget_of : DraftBudget → Option ℕ
budget_of Missing = None
budget_of (Integer n) = Some n
budget_of Other = None

-- the names of directories, and how each is shown
abbrev pub path_names : List DraftPath → List (List ℕ)
path_names paths = map (λ (p : DraftPath). p.name) paths

abbrev pub shown_directories : List DraftPath → List ShownDirectory
shown_directories paths = map (λ (p : DraftPath). record { shown = p.shown; system = p.system }) paths

abbrev pub listed_setting : DraftSetting → Setting
listed_setting s = record {
  profile = profile_of s;
  date = s.date;
  time = s.time;
  search = path_names s.search;
  search_shown = shown_directories s.search;
  budget = budget_of s.budget;
}

-- the row of a name
abbrev pub row_of : List (List ℕ) → List ℕ → ℕ
row_of names name = unwrap_or (row_among name names) 0

-- files that are read first
abbrev pub listed_first : List (List ℕ) → List DraftPath → List FirstFile
listed_first names files = map (λ (p : DraftPath). record { file = row_of names p.name; shown = p.shown; system = p.system }) files

-- a unit, whose definitions are read with this profile
abbrev pub listed_unit : Profile → List (List ℕ) → DraftUnit → UnitOfList
listed_unit profile names u = record {
  file = row_of names u.file;
  shown = u.shown;
  defines = record { texts = u.defines; profile = profile };
  first = listed_first names u.first;
  search = path_names u.search;
  search_shown = shown_directories u.search;
}

-- the list of a draft, with its contents if the list holds them
abbrev pub listed : Bool → Draft → CompilationList
listed inline d = record {
  setting = listed_setting d.setting;
  names = names_of d.files;
  contents = if inline then contents_of d.files else [];
  units = map (listed_unit (profile_of d.setting) (names_of d.files)) d.units;
}

-- the list of a draft with valid texts, or its refusal
abbrev pub validated_choices : Bool → Draft → Verdict
validated_choices inline d =
    if not (profile_holds d.setting) then refused 9 else (
    if not (budget_holds d.setting) then refused 10 else (
    if not (shown_hold d) then refused 11 else accepted (listed inline d)))

-- the list of a draft whose units have their files, or its refusal
abbrev pub validated_texts : Bool → Draft → Verdict
validated_texts inline d =
    if not (times_hold d.setting) then refused 6 else (
    if not (lines_hold d.units) then refused 7 else (
    if not (directories_hold d) then refused 8 else validated_choices inline d))

-- the list of a draft, or the least number of a refusal that applies
abbrev pub validated : Bool → Draft → Verdict
validated inline d =
    if not (names_hold d.files) then refused 3 else (
    if not (sizes_hold d) then refused 4 else (
    if not (are_known (names_of d.files) d.units) then refused 5 else validated_texts inline d))

abbrev shaped : Bool → Option Draft → Verdict
shaped inline None = refused 2
shaped inline (Some d) = validated inline d

abbrev parsed : Bool → Option Data → Verdict
parsed inline None = refused 1
parsed inline (Some d) = shaped inline (draft inline d)

-- the list that bytes hold, or the least number of a refusal that applies
abbrev pub verdict_of : Bool → List ℕ → Verdict
verdict_of inline bytes = if nat_lt max_input (length bytes) then refused 1 else parsed inline (json_value bytes)

-- a list whose units can be preprocessed
pub record IsRunnable (l : CompilationList) : Type 0 where
  pub names : AreNames l.names
  pub names_fit : length l.names ≤ max_rows
  pub units_fit : length l.units ≤ max_rows
  pub small : All (λ bytes. length bytes ≤ longest) l.contents
  pub setting : is_setting l.setting ≡ true
  pub units : All (λ (u : UnitOfList). is_unit (length l.names) l.setting.profile u ≡ true) l.units
