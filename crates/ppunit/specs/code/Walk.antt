-- Positions in the lines of a file, and of the files that it includes, as positions in the tree of its groups. Only
-- contracts of private functions and models of private types cite this.
use Rattle.std.specs.Prelude.{◌≡◌, ℕ, suc, ◌+◌, ◌<◌, ◌≤◌, ◌^◌, Bool, true, false, Option, None, Some, Result, Ok, Err}
use Rattle.std.specs.Prelude.{List, [], ◌∷◌, ◌++◌, length, drop, map}
use Rattle.pptext.specs.declared.tokens.Fault.{Fault}
use Rattle.pptext.specs.declared.sources.Directive.{Directive}
pub use Rattle.pptext.specs.IndexedLines.{no_line, line_at, IsTextLine}
use Rattle.pptext.specs.Lines.{LogicalLine}
use Rattle.pptext.specs.Sources.{next_branch}
use Rattle.pptext.specs.Tree.{GroupParts, Branches, part_lines, branch_lines, AreGroupParts, AreBranches, Tree, role, branch_after}
use Rattle.pptext.specs.Classes.{begins_elif_group}
use Rattle.ppexpand.specs.declared.meter.Meter.{Meter}
use Rattle.ppshelf.specs.Files.{Files, Extends}
use Rattle.ppunit.specs.declared.states.FileContext.{FileContext}
use Rattle.ppunit.specs.declared.states.Resumption.{Resumption}
use Rattle.ppunit.specs.States.{Search, State, in_file_context, resumed, Context, search_of, Progress, running, stopped}
use Rattle.ppunit.specs.Conditions.{DecidesFreely, Decides}
use Rattle.ppunit.specs.Directives.{at_end}
use Rattle.ppunit.specs.Group.{depth_limit, ExecutesGroup, ExecutesBranches, ExecutesControlLine}
use Rattle.ppunit.specs.code.Opening.{OpenFile, Entered}
use Rattle.ppunit.specs.Unit.{Defines}

-- The if-sections around a group, the innermost first: the branches after the group, and the parts after the section.
abbrev pub EnclosingSections : Type 0
EnclosingSections = List (Branches × GroupParts)

-- the lines of parts in these sections, up to the end of the file
abbrev pub lines_to_end : GroupParts → EnclosingSections → List LogicalLine
lines_to_end ps [] = part_lines ps
lines_to_end ps ((bs, qs) ∷ k) = part_lines ps ++ (branch_lines bs ++ lines_to_end qs k)

abbrev pub AreEnclosingSections : EnclosingSections → Type 0
AreEnclosingSections [] = Unit {0}
AreEnclosingSections ((bs, qs) ∷ k) = ((last : Bool) × AreBranches last bs) × AreGroupParts qs × AreEnclosingSections k

-- the lines from this index on are those of parts in these sections
pub record HasPartsAt (lines : List LogicalLine) (index : ℕ) (ps : GroupParts) (k : EnclosingSections) : Type 0 where
  pub rest : drop index lines ≡ lines_to_end ps k
  pub parts : AreGroupParts ps
  pub outer : AreEnclosingSections k

-- phase 4 of the parts and of what is after them in these sections
abbrev pub Ends : Context → ℕ → ℕ → Progress → GroupParts → EnclosingSections → Progress → Type 0
Ends context depth row m ps [] end = ExecutesGroup context depth row m ps end
Ends context depth row m ps ((bs, qs) ∷ k) end = (n : Progress) × ExecutesGroup context depth row m ps n × Ends context depth row n qs k end

-- From state s at the line at `index` to state t at the line at `next`, or to a fault: each result that the lines from
-- `next` on have from t, the lines from `index` on have from s.
abbrev pub Advances : (Files → Context) → Files → ℕ → ℕ → List LogicalLine → ℕ → State → State → Result ℕ Fault → Type 0
Advances context files depth row lines index s t (Ok next) =
    (ps : GroupParts) (k : EnclosingSections)
    → HasPartsAt lines index ps k
    → (ps' : GroupParts) × (k' : EnclosingSections) × HasPartsAt lines next ps' k'
    × ((more : Files)
    → Extends more files
    → (end : Progress)
    → Ends (context more) depth row (running t) ps' k' end
    → Ends (context more) depth row (running s) ps k end)
Advances context files depth row lines index s t (Err f) =
    (ps : GroupParts) (k : EnclosingSections)
    → HasPartsAt lines index ps k
    → (more : Files)
    → Extends more files
    → Ends (context more) depth row (running s) ps k (stopped t f)

-- the context of the including file is restored, and that goes on
abbrev pub restored : FileContext → Option Resumption → Progress → Progress
restored outer resumption m = resumed resumption (record m { state = in_file_context outer m.state })

-- A file was entered and its first line is next: what its lines reach from this state, up to the file's end and with the context
-- of the including file restored, which goes on, is what the include line reaches.
pub record EntersFile (context : Files → Context) (files : Files) (depth : ℕ) (whole : Files → Progress → Type 0) (t : State) (e : Entered)
    : Type 0 where
  pub fits : depth ≤ depth_limit
  pub begins : e.file.index ≡ 0
  pub few : length e.file.lines < 2 ^ 64
  pub parts : GroupParts
  pub tree : Tree e.file.lines parts
  pub group : (more : Files)
      → Extends more files
      → (m : Progress)
      → ExecutesGroup (context more) depth e.file.row (running t) parts m
      → whole more (restored e.outer e.resumption (at_end m))

-- the goal is reached, with or without a fault, or a file was entered whose lines lead to it
abbrev pub Leads : (Files → Context) → Files → ℕ → (Files → Progress → Type 0) → State → Result (Option Entered) Fault → Type 0
Leads context files depth whole t (Ok None) = (more : Files) → Extends more files → whole more (running t)
Leads context files depth whole t (Ok (Some e)) = EntersFile context files depth whole t e
Leads context files depth whole t (Err f) = (more : Files) → Extends more files → whole more (stopped t f)

-- From the control line at an index to the line at another: what the line and the rest of the lines reach, one after
-- the other, all of them reach.
abbrev pub PassesFrom : ℕ → ℕ → List LogicalLine → ℕ → State → ℕ → GroupParts → EnclosingSections → Type 0
PassesFrom depth row lines index s next ps k =
    (ps' : GroupParts) × (k' : EnclosingSections) × HasPartsAt lines next ps' k'
    × ((context : Context) (m end : Progress)
    → ExecutesControlLine context depth row s (line_at lines index) m
    → Ends context depth row m ps' k' end
    → Ends context depth row (running s) ps k end)

abbrev pub Passes : ℕ → ℕ → List LogicalLine → ℕ → State → ℕ → Type 0
Passes depth row lines index s next =
    (ps : GroupParts) (k : EnclosingSections)
    → HasPartsAt lines index ps k
    → PassesFrom depth row lines index s next ps k

-- from the line at an index to the line at another, and into a file if one was entered
abbrev pub StepsTo : (Files → Context) → Files → ℕ → ℕ → List LogicalLine → ℕ → State → State → ℕ → Option Entered → Type 0
StepsTo context files depth row lines index s t next None = Advances context files depth row lines index s t (Ok next)
StepsTo context files depth row lines index s t next (Some e) =
    Passes depth row lines index s next
    × EntersFile context files (suc depth) (λ more m. ExecutesControlLine (context more) depth row s (line_at lines index) m) t e

-- from the line at an index to the line at another, and into a file if one was entered, or to a fault
abbrev pub Steps : (Files → Context) → Files → ℕ → ℕ → List LogicalLine → ℕ → State → State → Result (ℕ × Option Entered) Fault → Type 0
Steps context files depth row lines index s t (Ok (next, entered)) = StepsTo context files depth row lines index s t next entered
Steps context files depth row lines index s t (Err f) = Advances context files depth row lines index s t (Err f)

-- a suspended file, its context, and where it goes on
pub record SuspendedFile : Type 0 where
  pub file : OpenFile
  pub file_context : FileContext
  pub resumption : Option Resumption

-- the file whose lines are next: the one that was entered, which suspends this one, or else this one
abbrev pub next_file : OpenFile → Option Entered → OpenFile
next_file file None = file
next_file file (Some e) = e.file

abbrev pub next_suspended : OpenFile → Option Entered → List SuspendedFile → List SuspendedFile
next_suspended file None ws = ws
next_suspended file (Some e) ws = record { file = file; file_context = e.outer; resumption = e.resumption } ∷ ws

-- the contexts of suspended files are restored, one after the other
abbrev pub contexts_restored : List SuspendedFile → State → State
contexts_restored [] s = s
contexts_restored (w ∷ ws) s = contexts_restored ws (in_file_context w.file_context s)

-- this is where a file ends whose lines meet the goal
abbrev pub EndsAt : (Files → Progress → Type 0) → Files → Progress → Type 0
EndsAt whole more end = (m : Progress) × whole more m × (end ≡ at_end m)

-- phase 4 of a file, over these files and any larger set
abbrev pub Walks : (Files → Context) → Files → ℕ → ℕ → List LogicalLine → State → Progress → Type 0
Walks context files depth row lines s end =
    (parts : GroupParts)
    → Tree lines parts
    → (more : Files)
    → Extends more files
    → EndsAt (λ more m. ExecutesGroup (context more) depth row (running s) parts m) more end

-- At the index is a line that opens an if-section or a branch with a condition, then the parts of its group, and then
-- these branches.
pub record BranchesAt (lines : List LogicalLine) (index : ℕ) (ps : GroupParts) (bs : Branches) (qs : GroupParts) (k : EnclosingSections) : Type 0 where
  pub line : LogicalLine
  pub rest : drop index lines ≡ line ∷ lines_to_end ps ((bs, qs) ∷ k)
  pub next : (n : ℕ) (following : List LogicalLine) → next_branch n (role line) following ≡ branch_after 0 (n + 1) (map role following)
  pub parts : AreGroupParts ps
  pub outer : AreEnclosingSections ((bs, qs) ∷ k)

-- whether processing continues after a branch line or `#endif` of the file at index `row`, or the line's fault, and the
-- meter after it; a condition decides if the line has one
abbrev pub ContinuesIf : Search → ℕ → Bool → State → LogicalLine → Meter → Result Bool Fault → Type 0
ContinuesIf search row true s line meter_after taken = Decides search row s line meter_after taken
ContinuesIf search row false s line meter_after taken = DecidesFreely s (Ok true) meter_after taken

abbrev pub ContinuesBy : Search → ℕ → Option Directive → State → LogicalLine → Meter → Result Bool Fault → Type 0
ContinuesBy search row None s line meter_after taken = ContinuesIf search row false s line meter_after taken
ContinuesBy search row (Some d) s line meter_after taken = ContinuesIf search row (begins_elif_group d) s line meter_after taken

abbrev pub TakesBranch : Search → ℕ → State → LogicalLine → Meter → Result Bool Fault → Type 0
TakesBranch search row s line meter_after taken = ContinuesBy search row line.directive s line meter_after taken

-- the line at which processing continues after a group that isn't taken, and the state then
abbrev pub FindsBranch : Search → ℕ → List LogicalLine → State → State → Branches → GroupParts → EnclosingSections → Result ℕ Fault → Type 0
FindsBranch search row lines s t bs qs k (Ok next) =
    (ps : GroupParts) × (k' : EnclosingSections) × HasPartsAt lines next ps k'
    × ((context : Context)
    → search_of context ≡ search
    → (depth : ℕ) (end : Progress)
    → Ends context depth row (running t) ps k' end
    → (m : Progress) × ExecutesBranches context depth row s bs m × Ends context depth row m qs k end)
FindsBranch search row lines s t bs qs k (Err f) =
    (context : Context)
    → search_of context ≡ search
    → (depth : ℕ)
    → ExecutesBranches context depth row s bs (stopped t f)

-- the first line isn't a text line
abbrev pub StartsWithoutTextLine : List LogicalLine → Type 0
StartsWithoutTextLine [] = Unit {0}
StartsWithoutTextLine (line ∷ following) = ¬ IsTextLine line

-- phases 1 to 4 of a unit's definitions, over these files and any larger set
abbrev pub DefinesOver : (Files → Context) → Files → List (List ℕ) → State → Progress → Type 0
DefinesOver context files defines s end = (more : Files) → Extends more files → Defines (context more) defines s end
