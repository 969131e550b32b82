-- The value of a unit, from the reading of its definitions and the walk over its lines.
use Rattle.std.proofs.Common.{◌≡◌, ◌↔◌, ℕ, suc, ◌+◌, ◌<◌, ◌≤◌, List, [], ◌∷◌, length, drop, get_or, Option, None, Some, Result, Ok, Err, refl, sym, ap, ◌∙◌, subst, arith}
use Rattle.std.proofs.lemmas.List.{drop_more, drop_all}
use Rattle.std.specs.Result.{result_err}
use Rattle.pptext.specs.declared.tokens.Fault.{Fault}
use Rattle.pptext.specs.declared.error.Error.{Error}
use Rattle.pptext.specs.declared.error.Error.TheVariants.{Fault as Faulted, Memory as OutOfMemory}
use Rattle.pptext.specs.Errors.{UnlessOutOfMemory}
use Rattle.pptext.specs.declared.sources.Profile.{Profile}
use Rattle.pptext.specs.Lines.{LogicalLine}
use Rattle.pptext.specs.Sources.{IsSource, Reads}
use Rattle.pptext.specs.Tree.{GroupParts, Tree, group_fault}
use Rattle.ppshelf.specs.Files.{Files, Extends}
use Rattle.ppunit.specs.States.{State, in_file_context, Context, Progress, running, stopped, output, named, marked, Showing, resumed}
use Rattle.ppunit.specs.declared.units.Unit.{Unit as UnitOfList}
use Rattle.ppunit.specs.declared.units.Setting.{Setting}
use Rattle.ppunit.specs.declared.units.UnitOut.{UnitOut}
use Rattle.ppunit.specs.Group.{OpensFile}
use Rattle.ppunit.specs.declared.units.FirstFile.{FirstFile}
use Rattle.ppunit.specs.declared.units.MarkSort.TheVariants as mark_sort
use Rattle.ppunit.specs.Unit.{IsUnit, initial_state, command_file, command_text, Defines, unread, processed, OpensFirst, all_read, first_fault, first_read, first_opening, first_file_place, before_first, main_name, main_opening}
use Rattle.ppunit.specs.Unit.{Translates, definitions_fault, fault_before_main, translated, first_place, showing_of}
use Rattle.ppunit.specs.code.Opening.{Entered}
use Rattle.ppunit.specs.code.Walk.{EntersFile, Walks, restored, DefinesOver}
use Rattle.ppunit.proofs.FileWalk.{extends_trans}
use Rattle.ppunit.proofs.KeptItems.{resumed_stopped}

-- Lines have a group tree exactly if their grouping has no fault.
abbrev pub TreesUnlessFault : Type 0
TreesUnlessFault = (lines : List LogicalLine) → (group_fault [] lines ≡ None) ↔ ((parts : GroupParts) × Tree lines parts)

-- a file without fault has a tree
pub source_tree : TreesUnlessFault → (profile : Profile) (file : ℕ) (bytes : List ℕ) (lines : List LogicalLine)
    → IsSource profile file bytes lines
    → (parts : GroupParts) × Tree lines parts
source_tree trees profile file bytes lines is = (trees lines).0 (ap (group_fault []) is.lines_are ∙ is.grouped)

pub defines_walked : TreesUnlessFault → (context : Files → Context) (files : Files) (profile : Profile) (defines : List (List ℕ))
    (x : Result (List LogicalLine) Fault) (lines : List LogicalLine) (s : State) (r : Progress)
    → ((more : Files) → profile ≡ (context more).profile)
    → x ≡ Ok lines
    → Reads profile command_file (command_text defines) x
    → Walks context files 0 command_file lines s r
    → DefinesOver context files defines s r
defines_walked trees context files profile defines x lines s r one is reads walks =
    let reads' : Reads profile command_file (command_text defines) (Ok lines) = subst (Reads profile command_file (command_text defines)) is reads in
    let tree = source_tree trees profile command_file (command_text defines) lines reads' in
    λ more grows.
    let ends = walks tree.0 tree.1 more grows in
    subst (Defines (context more) defines s) (sym ends.2)
    (processed (subst (λ (z : Profile). Reads z command_file (command_text defines) (Ok lines)) (one more) reads') tree.1 ends.1)

pub defines_unread : (context : Files → Context) (files : Files) (profile : Profile) (defines : List (List ℕ))
    (x : Result (List LogicalLine) Fault) (s : State) (f : Fault)
    → ((more : Files) → profile ≡ (context more).profile)
    → x ≡ Err f
    → Reads profile command_file (command_text defines) x
    → DefinesOver context files defines s (stopped s f)
defines_unread context files profile defines x s f one is reads =
    let reads' : Reads profile command_file (command_text defines) (Err f) = subst (Reads profile command_file (command_text defines)) is reads in
    λ more grows. unread (subst (λ (z : Profile). Reads z command_file (command_text defines) (Err f)) (one more) reads')

pub on_settled : {A : Type 0} {P Q : Result A Fault → Type 0} (r : Result A Error)
    → ((a : Result A Fault) → P a → Q a)
    → UnlessOutOfMemory r P
    → UnlessOutOfMemory r Q
on_settled (Ok a) expansion_step p = expansion_step (Ok a) p
on_settled (Err (Faulted f)) expansion_step p = expansion_step (Err f) p
on_settled (Err OutOfMemory) expansion_step p = tt

-- A step that returns no error has no fault.
pub ends_quietly : (r : Result (Unit {0}) Error) (f : Option Fault) → ((e : Error) → r ≡ Err e → ⊥) → UnlessOutOfMemory r (λ x. result_err x ≡ f) → f ≡ None
ends_quietly (Ok done) f never is = sym is
ends_quietly (Err e) f never is = absurd (never e refl)

extends_itself : (files : Files) → Extends files files
extends_itself files row c e = e

pub entered_file : (context : Files → Context) (files new : Files) (depth : ℕ) (whole : Files → Progress → Type 0) (t u : State) (e : Entered)
    (fault : Option Fault)
    → Extends new files
    → EntersFile context files depth whole t e
    → Walks context new depth e.file.row e.file.lines t (record { state = u; fault = fault })
    → (more : Files)
    → Extends more new
    → whole more (resumed e.resumption (record { state = in_file_context e.outer u; fault = fault }))
entered_file context files new depth whole t u e fault wider takes_branch walks more grows =
    let ends = walks takes_branch.parts takes_branch.tree more grows in
    subst (λ (z : Progress). whole more (restored e.outer e.resumption z)) (sym ends.2) (takes_branch.group more (extends_trans more new files grows wider) ends.0 ends.1)

-- the lines of a file that was entered have a fault
pub entered_stops : (context : Files → Context) (files new : Files) (depth : ℕ) (whole : Files → Progress → Type 0) (t u v : State) (e : Entered)
    (fault : Fault)
    → Extends new files
    → EntersFile context files depth whole t e
    → v ≡ in_file_context e.outer u
    → Walks context new depth e.file.row e.file.lines t (stopped u fault)
    → (more : Files)
    → Extends more new
    → whole more (stopped v fault)
entered_stops context files new depth whole t u v e fault wider enters restores walks more grows =
    subst (λ (z : State). whole more (stopped z fault)) (sym restores)
    (subst (whole more) (resumed_stopped e.resumption (in_file_context e.outer u) fault) (entered_file context files new depth whole t u e (Some fault) wider enters walks more grows))

-- the lines of a file that was entered have no fault, and the including file goes on
pub entered_ends : (context : Files → Context) (files new : Files) (depth : ℕ) (whole : Files → Progress → Type 0) (t u v w : State) (e : Entered)
    → Extends new files
    → EntersFile context files depth whole t e
    → v ≡ in_file_context e.outer u
    → running w ≡ resumed e.resumption (running v)
    → Walks context new depth e.file.row e.file.lines t (running u)
    → (more : Files)
    → Extends more new
    → whole more (running w)
entered_ends context files new depth whole t u v w e wider enters restores goes_on walks more grows =
    subst (whole more) (sym (goes_on ∙ ap (λ (z : State). resumed e.resumption (running z)) restores))
    (entered_file context files new depth whole t u e None wider enters walks more grows)

-- ---- the files that are read before the unit's own

-- what the files from this index on reach from state t, all of them reach from state s
pub record FirstSoFar (context : Files → Context) (files : Files) (main number : ℕ) (first : List FirstFile) (s : State) (index : ℕ) (t : State) : Type 0 where
  pub so_far : (more : Files)
      → Extends more files
      → (m : Progress)
      → OpensFirst (context more) main (number + index + 1) t (drop index first) m
      → OpensFirst (context more) main (suc number) s first m

pub first_start : (context : Files → Context) (files : Files) (main number : ℕ) (first : List FirstFile) (s : State) → FirstSoFar context files main number first s 0 s
first_start context files main number first s = record {
  so_far = λ more grows m opens.
      let same : number + 0 + 1 ≡ suc number = omega arith in
      subst (λ (z : ℕ). OpensFirst (context more) main z s first m) same opens;
}

first_at : (first : List FirstFile) (index : ℕ) (file : FirstFile) → index < length first → file ≡ get_or first index file → drop index first ≡ file ∷ drop (index + 1) first
first_at first index file within is = drop_more first index file within ∙ ap (λ (z : FirstFile). z ∷ drop (index + 1) first) (sym is)

pub first_more : (context : Files → Context) (old new : Files) (main number : ℕ) (first : List FirstFile) (s : State) (index : ℕ) (t u : State) (file : FirstFile)
    → index < length first
    → file ≡ get_or first index file
    → FirstSoFar context old main number first s index t
    → Extends new old
    → ((more : Files)
    → Extends more new
    → OpensFile (context more) 1 (first_file_place (number + index + 1)) t file.file (first_opening (context more).names main file) (running u))
    → FirstSoFar context new main number first s (index + 1) u
first_more context old new main number first s index t u file within is sofar wider opens = record {
  so_far = λ more grows m rest.
      let same : number + (index + 1) + 1 ≡ suc (number + index + 1) = omega arith in
      sofar.so_far more (extends_trans more new old grows wider) m
      (subst (λ (z : List FirstFile). OpensFirst (context more) main (number + index + 1) t z m) (sym (first_at first index file within is))
      (first_read (opens more grows) (subst (λ (z : ℕ). OpensFirst (context more) main z u (drop (index + 1) first) m) same rest)));
}

pub first_stops : (context : Files → Context) (old new : Files) (main number : ℕ) (first : List FirstFile) (s : State) (index : ℕ) (t u : State) (f : Fault) (file : FirstFile)
    → index < length first
    → file ≡ get_or first index file
    → FirstSoFar context old main number first s index t
    → Extends new old
    → ((more : Files)
    → Extends more new
    → OpensFile (context more) 1 (first_file_place (number + index + 1)) t file.file (first_opening (context more).names main file) (stopped u f))
    → (more : Files)
    → Extends more new
    → OpensFirst (context more) main (suc number) s first (stopped u f)
first_stops context old new main number first s index t u f file within is sofar wider opens more grows =
    sofar.so_far more (extends_trans more new old grows wider) (stopped u f)
    (subst (λ (z : List FirstFile). OpensFirst (context more) main (number + index + 1) t z (stopped u f)) (sym (first_at first index file within is)) (first_fault (opens more grows)))

pub first_done : (context : Files → Context) (files : Files) (main number : ℕ) (first : List FirstFile) (s : State) (index : ℕ) (t : State)
    → length first ≤ index
    → FirstSoFar context files main number first s index t
    → (more : Files)
    → Extends more files
    → OpensFirst (context more) main (suc number) s first (running t)
first_done context files main number first s index t over sofar more grows =
    sofar.so_far more grows (running t)
    (subst (λ (z : List FirstFile). OpensFirst (context more) main (number + index + 1) t z (running t)) (sym (drop_all index first over)) all_read)

pub first_named : (main : ℕ) (name : List ℕ) (first : List FirstFile) (s : State) → ¬ (first ≡ []) → before_first main name first s ≡ marked (named s name) mark_sort.Line main 0
first_named main name [] s some = absurd (some refl)
first_named main name (file ∷ files) s some = refl

pub none_first : (context : Files → Context) (files : Files) (main number : ℕ) (name : List ℕ) (first : List FirstFile) (s : State)
    → first ≡ []
    → (more : Files)
    → Extends more files
    → OpensFirst (context more) main number (before_first main name first s) first (running s)
none_first context files main number name first s none more grows =
    subst (λ (z : List FirstFile). OpensFirst (context more) main number (before_first main name z s) z (running s)) (sym none) all_read

-- ---- the value

abbrev OpensBefore : Context → UnitOfList → State → Progress → Type 0
OpensBefore context unit t m =
    OpensFirst context unit.file (suc (length unit.defines.texts)) (before_first unit.file (main_name context.names unit) unit.first t) unit.first m

pub undefined_unit : (context : Files → Context) (files : Files) (unit : UnitOfList) (s t : State) (f : Fault)
    → DefinesOver context files unit.defines.texts s (stopped t f)
    → Translates (context files) unit s (stopped t f)
undefined_unit context files unit s t f over = definitions_fault (over files (extends_itself files))

pub unit_before_main : (context : Files → Context) (files more : Files) (unit : UnitOfList) (s t u : State) (f : Fault)
    → DefinesOver context files unit.defines.texts s (running t)
    → Extends more files
    → ((most : Files) → Extends most more → OpensBefore (context most) unit t (stopped u f))
    → Translates (context more) unit s (stopped u f)
unit_before_main context files more unit s t u f over grows first = fault_before_main (over more grows) (first more (extends_itself more))

pub translated_unit : (context : Files → Context) (files more most : Files) (unit : UnitOfList) (s t u v : State) (g : Option Fault)
    → DefinesOver context files unit.defines.texts s (running t)
    → Extends more files
    → ((all : Files) → Extends all more → OpensBefore (context all) unit t (running u))
    → Extends most more
    → ((all : Files)
    → Extends all most
    → OpensFile (context all) 0 (first_place unit.file) u unit.file (main_opening (main_name (context all).names unit)) (record { state = v; fault = g }))
    → Translates (context most) unit s (record { state = v; fault = g })
translated_unit context files more most unit s t u v g over grows first wider opens =
    translated (over most (extends_trans most more files wider grows)) (first most wider) (opens most (extends_itself most))

-- The output of a unit is its value, if profile and directories are those of the setting and the unit, and files are shown as they say.
pub whole_unit : (names : List (List ℕ)) (profile : Profile) (files : Files) (setting : Setting) (unit : UnitOfList) (ours theirs : List (List ℕ)) (showing : Showing)
    (r : Progress) (out : UnitOut)
    → profile ≡ setting.profile
    → ours ≡ unit.search
    → theirs ≡ setting.search
    → showing ≡ showing_of setting unit
    → Translates (record { names = names; profile = profile; files = files; unit_directories = ours; setting_directories = theirs; showing = showing }) unit
    (initial_state setting) r
    → out ≡ output r
    → IsUnit names files setting unit out
whole_unit names profile files setting unit ours theirs showing r out p e f h is is_output =
    let Of : Profile → List (List ℕ) → List (List ℕ) → Showing → Type 0 = λ q o t z.
    Translates (record { names = names; profile = q; files = files; unit_directories = o; setting_directories = t; showing = z }) unit (initial_state setting) r in
    record {
      progress = r;
      translates = subst (Of setting.profile unit.search setting.search) h (subst (λ z. Of setting.profile unit.search z showing) f
          (subst (λ z. Of setting.profile z theirs showing) e (subst (λ z. Of z ours theirs showing) p is)));
      is_output = is_output;
    }
