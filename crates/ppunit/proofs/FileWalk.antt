-- One step of a walk: the lines from here on reach all that the lines after the step reach. A walk over the lines of a file,
-- from the first line to the end. What each call of the preprocessor preserves, two calls in sequence preserve.
use Rattle.std.proofs.Common.{◌≡◌, ℕ, suc, ◌+◌, ◌<◌, List, [], ◌∷◌, length, drop, sym, ap, ◌∙◌, add-one, Option, None, Some, Result, Ok, Err, ◌≤◌, refl, subst}
use Rattle.pptext.specs.declared.tokens.Fault.{Fault}
use Rattle.pptext.specs.declared.sources.Directive.{Directive}
use Rattle.pptext.specs.Lines.{LogicalLine}
use Rattle.pptext.specs.Tree.{GroupParts, AreGroupParts, role, role_by, Done, TextLines, Control, Section, End, Branch, Tree}
use Rattle.ppunit.specs.States.{State, Context, Progress, running, stopped}
use Rattle.ppunit.specs.Group.{ExecutesGroup}
use Rattle.ppshelf.specs.Files.{Files, Extends}
use Rattle.ppunit.specs.code.Walk.{line_at, EnclosingSections, lines_to_end, AreEnclosingSections, HasPartsAt, Ends, Advances}
use Rattle.pptext.proofs.IndexedLines.{at_index, from_index}
use Rattle.ppunit.proofs.FirstLineCases.{First, first_of, lay_run, lay_control, lay_section}
use Rattle.std.proofs.lemmas.List.{drop_all}
use Rattle.ppshelf.specs.declared.disk.Disk.{Ghosts}
use Rattle.ppunit.specs.declared.preprocessor.Preprocessor.{Preprocessor}
use Rattle.ppunit.specs.code.Preprocessor.{KeepsContext}

-- ---- from the end of the rest to the end of the whole

pub ends_front : (context : Context) (depth row : ℕ) (m n : Progress) (ps qs : GroupParts) (k : EnclosingSections) (end : Progress)
    → ((o : Progress) → ExecutesGroup context depth row n qs o → ExecutesGroup context depth row m ps o)
    → Ends context depth row n qs k end
    → Ends context depth row m ps k end
ends_front context depth row m n ps qs [] end front e = front end e
ends_front context depth row m n ps qs ((bs, rs) ∷ k) end front e = (e.0, front e.0 e.1, e.2)

pub ends_stop : (context : Context) (depth row : ℕ) (m : Progress) (s : State) (f : Fault) (ps : GroupParts) (k : EnclosingSections) → ExecutesGroup context depth row m ps (stopped s f) → Ends context depth row m ps k (stopped s f)
ends_stop context depth row m s f ps [] g = g
ends_stop context depth row m s f ps ((bs, qs) ∷ k) g = (stopped s f, g, ends_stop context depth row (stopped s f) s f qs k ExecutesGroup.already_stopped)

pub stands_behind : (lines : List LogicalLine) (index : ℕ) (r : LogicalLine) (ps : GroupParts) (k : EnclosingSections)
    → drop index lines ≡ r ∷ lines_to_end ps k
    → AreGroupParts ps
    → AreEnclosingSections k
    → HasPartsAt lines (index + 1) ps k
stands_behind lines index r ps k e are outer = record { rest = rw add-one (at_index lines index r (lines_to_end ps k) e).following; parts = are; outer = outer }

-- ---- one step

abbrev pub AdvancesFrom : (Files → Context) → Files → ℕ → ℕ → List LogicalLine → State → State → Result ℕ Fault → GroupParts → EnclosingSections → Type 0
AdvancesFrom context files depth row lines s t (Ok next) ps k =
    (ps' : GroupParts) × (k' : EnclosingSections) × HasPartsAt lines next ps' k'
    × ((more : Files)
    → Extends more files
    → (end : Progress)
    → Ends (context more) depth row (running t) ps' k' end
    → Ends (context more) depth row (running s) ps k end)
AdvancesFrom context files depth row lines s t (Err f) ps k = (more : Files) → Extends more files → Ends (context more) depth row (running s) ps k (stopped t f)

pub advances : (context : Files → Context) (files : Files) (depth row : ℕ) (lines : List LogicalLine) (index : ℕ) (s t : State) (r : Result ℕ Fault)
    → ((ps : GroupParts) (k : EnclosingSections) → HasPartsAt lines index ps k → AdvancesFrom context files depth row lines s t r ps k)
    → Advances context files depth row lines index s t r
advances context files depth row lines index s t (Ok next) each = each
advances context files depth row lines index s t (Err f) each = each

-- a line's role by its directive
role_is : (lines : List LogicalLine) (index : ℕ) (d : Option Directive) (r : LogicalLine)
    → line_at lines index ≡ r
    → (line_at lines index).directive ≡ d
    → role r ≡ role_by d
role_is lines index d r here is = ap role (sym here) ∙ ap role_by is

pub first_at : (lines : List LogicalLine) (index : ℕ) (ps : GroupParts) (k : EnclosingSections) → index < length lines → HasPartsAt lines index ps k → First (line_at lines index) ps k
first_at lines index ps k within stands = first_of ps k (line_at lines index) (drop (suc index) lines) (sym stands.rest ∙ from_index lines index within) stands.parts stands.outer

abbrev pub run_result : ℕ → Option Fault → Result ℕ Fault
run_result next None = Ok next
run_result next (Some f) = Err f

-- ---- a walk over the lines of a file, from the first line to the end

-- the walk is at `index` in state t: all that the rest of the lines reaches meets the goal `whole`
pub record FileSoFar (context : Files → Context) (files : Files) (whole : Files → Progress → Type 0) (depth row : ℕ) (lines : List LogicalLine) (index : ℕ) (t : State) : Type 0 where
  pub parts : GroupParts
  pub outer : EnclosingSections
  pub stands : HasPartsAt lines index parts outer
  pub ends : (more : Files) → Extends more files → (end : Progress) → Ends (context more) depth row (running t) parts outer end → whole more end

pub file_start : (context : Files → Context) (files : Files) (whole : Files → Progress → Type 0) (depth row : ℕ) (lines : List LogicalLine)
    (index : ℕ) (t : State) (parts : GroupParts)
    → index ≡ 0
    → Tree lines parts
    → ((more : Files) → Extends more files → (end : Progress) → ExecutesGroup (context more) depth row (running t) parts end → whole more end)
    → FileSoFar context files whole depth row lines index t
file_start context files whole depth row lines index t parts begins tree ends =
    subst (λ (z : ℕ). FileSoFar context files whole depth row lines z t) (sym begins) (record { parts = parts; outer = []; stands = record { rest = sym tree.whole; parts = tree.each; outer = tt }; ends = ends })

pub extends_trans : (a b c : Files) → Extends a b → Extends b c → Extends a c
extends_trans a b c ab bc row content at = ab row content (bc row content at)

pub file_more : (context : Files → Context) (old new : Files) (whole : Files → Progress → Type 0) (depth row : ℕ) (lines : List LogicalLine)
    (index next : ℕ) (t u : State)
    → FileSoFar context old whole depth row lines index t
    → Extends new old
    → Advances context new depth row lines index t u (Ok next)
    → FileSoFar context new whole depth row lines next u
file_more context old new whole depth row lines index next t u sofar wider step =
    let g = step sofar.parts sofar.outer sofar.stands in
    record { parts = g.0; outer = g.1; stands = g.2; ends = λ more grows end rest. sofar.ends more (extends_trans more new old grows wider) end (g.3 more grows end rest) }

pub file_stop : (context : Files → Context) (old new : Files) (whole : Files → Progress → Type 0) (depth row : ℕ) (lines : List LogicalLine)
    (index : ℕ) (t u : State) (fault : Fault)
    → FileSoFar context old whole depth row lines index t
    → Extends new old
    → Advances context new depth row lines index t u (Err fault)
    → (more : Files)
    → Extends more new
    → whole more (stopped u fault)
file_stop context old new whole depth row lines index t u fault sofar wider step more grows =
    sofar.ends more (extends_trans more new old grows wider) (stopped u fault) (step sofar.parts sofar.outer sofar.stands more grows)

nothing_laid : (context : Context) (depth row : ℕ) (t : State) (ps : GroupParts) (k : EnclosingSections) → lines_to_end ps k ≡ [] → AreGroupParts ps → Ends context depth row (running t) ps k (running t)
nothing_laid context depth row t Done [] e are = ExecutesGroup.no_parts
nothing_laid context depth row t Done ((End r, qs) ∷ k) e are = absurd (cc)
nothing_laid context depth row t Done ((Branch r ps bs, qs) ∷ k) e are = absurd (cc)
nothing_laid context depth row t (TextLines [] ps) k e are = absurd (are.0 refl)
nothing_laid context depth row t (TextLines (r ∷ rs) ps) k e are = let whole = sym (lay_run (r ∷ rs) ps k) ∙ e in absurd (cc)
nothing_laid context depth row t (Control r ps) k e are = let whole = sym (lay_control r ps k) ∙ e in absurd (cc)
nothing_laid context depth row t (Section r ps bs qs) k e are = let whole = sym (lay_section r ps qs bs k) ∙ e in absurd (cc)

pub file_done : (context : Files → Context) (files : Files) (whole : Files → Progress → Type 0) (depth row : ℕ) (lines : List LogicalLine)
    (index : ℕ) (t : State)
    → FileSoFar context files whole depth row lines index t
    → length lines ≤ index
    → (more : Files)
    → Extends more files
    → whole more (running t)
file_done context files whole depth row lines index t sofar over more grows =
    sofar.ends more grows (running t) (nothing_laid (context more) depth row t sofar.parts sofar.outer (sym sofar.stands.rest ∙ drop_all index lines over) sofar.stands.parts)

-- ---- what each call of the preprocessor preserves, two calls in sequence preserve

pub continues_on : {D : Type 0} {g : Ghosts D} (a b c : Preprocessor D g) → KeepsContext a b → KeepsContext b c → KeepsContext a c
continues_on a b c ab bc = record {
  context = bc.context ∙ ab.context;
  pass = bc.pass ∙ ab.pass;
  grows = extends_trans c.pass.now.files b.pass.now.files a.pass.now.files bc.grows ab.grows;
}
