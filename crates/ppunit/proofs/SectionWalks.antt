-- A walk from the end of a group to the end of its if-section, the search for the branch that is taken, and a walk into an
-- if-section.
use Rattle.std.proofs.Common.{◌≡◌, ℕ, suc, ◌+◌, ◌<◌, ◌≤◌, Bool, true, List, ◌∷◌, ◌++◌, map, length, drop, sym, ap, ◌∙◌, arith, add-one, append_assoc, None, Some, Ok, false, refl, subst, Option, Result, Err}
use Rattle.std.proofs.lemmas.List.{length-drop}
use Rattle.pptext.specs.declared.sources.Directive.{Directive}
use Rattle.pptext.specs.Lines.{LogicalLine}
use Rattle.pptext.specs.Sources.{next_branch}
use Rattle.pptext.specs.Tree.{GroupParts, Done, Branches, End, Branch, part_lines, branch_lines, AreGroupParts, AreBranches, role, role_by, branch_after, Section}
use Rattle.pptext.specs.Classes.{ends_group, opens_section}
use Rattle.pptext.proofs.NextBranchFacts.{next_within, next_of_branch, next_of_end, next_behind, next_of_opening}
use Rattle.ppunit.specs.States.{State, Context, running, Search, search_of, Progress, stopped, with_meter}
use Rattle.ppunit.specs.Group.{ExecutesGroup, ExecutesBranches}
use Rattle.ppshelf.specs.Files.{Files}
use Rattle.ppunit.specs.code.Walk.{line_at, EnclosingSections, lines_to_end, HasPartsAt, Advances, AreEnclosingSections, Ends, BranchesAt, ContinuesBy, TakesBranch, FindsBranch}
use Rattle.pptext.proofs.IndexedLines.{at_index, drop_further}
use Rattle.ppunit.proofs.FirstLineCases.{Differs, ending_role, First, text, control, opening, ending, lay_branch, endif_directive, else_directive, not_else, condition_decides, lay_section, opening_role}
use Rattle.ppunit.proofs.FileWalk.{AdvancesFrom, first_at, stands_behind, ends_front, ends_stop, advances}
use Rattle.pptext.specs.declared.tokens.Fault.{Fault}
use Rattle.pptext.specs.declared.sources.Directive.TheVariants.{Elif, Else, Endif, If}
use Rattle.ppexpand.specs.declared.meter.Meter.{Meter}
use Rattle.ppunit.specs.Conditions.{DecidesFreely, Decides}

-- ---- a walk from the end of a group to the end of its if-section

-- ---- the end of an if-section

pub branches_next : (lines : List LogicalLine) (index : ℕ) (r : LogicalLine) (ps qs : GroupParts) (bs : Branches) (last : Bool) (rest : List LogicalLine)
    → drop index lines ≡ r ∷ (part_lines ps ++ (branch_lines bs ++ rest))
    → ((n : ℕ) (following : List LogicalLine) → next_branch n (role r) following ≡ branch_after 0 (n + 1) (map role following))
    → AreGroupParts ps
    → AreBranches last bs
    → next_branch index (role (line_at lines index)) (drop (suc index) lines) ≡ Some (index + 1 + length (part_lines ps))
branches_next lines index r ps qs bs last rest e next parts are =
    let h = at_index lines index r (part_lines ps ++ (branch_lines bs ++ rest)) e in
    ap (λ (z : LogicalLine). next_branch index (role z) (drop (suc index) lines)) h.here ∙ next index (drop (suc index) lines)
    ∙ ap (λ (z : List LogicalLine). branch_after 0 (index + 1) (map role z)) h.following ∙ next_behind ps bs last (index + 1) rest parts are

pub branches_there : (lines : List LogicalLine) (index : ℕ) (r : LogicalLine) (ps : GroupParts) (rest : List LogicalLine) → drop index lines ≡ r ∷ (part_lines ps ++ rest) → drop (index + 1 + length (part_lines ps)) lines ≡ rest
branches_there lines index r ps rest e =
    ap (λ (z : ℕ). drop z lines) (omega arith) ∙ drop_further lines (r ∷ part_lines ps) rest index e

pub record SectionSoFar (lines : List LogicalLine) (branch index : ℕ) : Type 0 where
  pub within : index < length lines
  pub from : branch ≤ index
  pub so_far : (last : Bool) (bs : Branches) (rest : List LogicalLine)
      → drop branch lines ≡ branch_lines bs ++ rest
      → AreBranches last bs
      → (final : Bool) × (cs : Branches) × (drop index lines ≡ branch_lines cs ++ rest) × AreBranches final cs

section_one : (lines : List LogicalLine) (index next : ℕ) (last : Bool) (bs : Branches) (rest : List LogicalLine)
    → drop index lines ≡ branch_lines bs ++ rest
    → AreBranches last bs
    → next_branch index (role (line_at lines index)) (drop (suc index) lines) ≡ Some next
    → (final : Bool) × (cs : Branches) × (drop next lines ≡ branch_lines cs ++ rest) × AreBranches final cs
section_one lines index next last (End r) rest e is found =
    let h = at_index lines index r rest e in
    let none = next_of_end (line_at lines index) (ap role h.here ∙ is) index (drop (suc index) lines) in
    absurd (cc)
section_one lines index next last (Branch r ps bs) rest e (before, final, is, parts, more) found =
    let there = e ∙ ap (λ (z : List LogicalLine). r ∷ z) (append_assoc (part_lines ps) (branch_lines bs) rest) in
    let known = branches_next lines index r ps ps bs final rest there (next_of_branch r final is) parts more in
    let same : index + 1 + length (part_lines ps) ≡ next = cc in
    (final, bs, ap (λ (z : ℕ). drop z lines) (sym same) ∙ branches_there lines index r ps (branch_lines bs ++ rest) there, more)

next_length : (lines : List LogicalLine) (index : ℕ) → index < length lines → index + 1 + length (drop (suc index) lines) ≡ length lines
next_length lines index within = omega (arith, length-drop (suc index) lines)

pub next_inside : (lines : List LogicalLine) (index next : ℕ) → index < length lines → next_branch index (role (line_at lines index)) (drop (suc index) lines) ≡ Some next → (index < next) × (next < length lines)
next_inside lines index next within found =
    let h = next_within (line_at lines index) index (drop (suc index) lines) next found in
    (h.0, omega (arith, h.1, next_length lines index within))

pub section_more : (lines : List LogicalLine) (branch index next : ℕ) → next_branch index (role (line_at lines index)) (drop (suc index) lines) ≡ Some next → SectionSoFar lines branch index → SectionSoFar lines branch next
section_more lines branch index next found sofar =
    let inside = next_inside lines index next sofar.within found in
    record {
      within = inside.1;
      from = omega (arith, sofar.from, inside.0);
      so_far = λ last bs rest e are. let f = sofar.so_far last bs rest e are in section_one lines index next f.0 f.1 rest f.2 f.3 found;
    }

section_over : (lines : List LogicalLine) (index : ℕ) (last : Bool) (bs : Branches) (rest : List LogicalLine)
    → drop index lines ≡ branch_lines bs ++ rest
    → AreBranches last bs
    → next_branch index (role (line_at lines index)) (drop (suc index) lines) ≡ None
    → drop (index + 1) lines ≡ rest
section_over lines index last (End r) rest e is found = rw add-one (at_index lines index r rest e).following
section_over lines index last (Branch r ps bs) rest e (before, final, is, parts, more) found =
    let there = e ∙ ap (λ (z : List LogicalLine). r ∷ z) (append_assoc (part_lines ps) (branch_lines bs) rest) in
    let known = branches_next lines index r ps ps bs final rest there (next_of_branch r final is) parts more in
    absurd (cc)

pub section_done : (lines : List LogicalLine) (branch index : ℕ)
    → SectionSoFar lines branch index
    → next_branch index (role (line_at lines index)) (drop (suc index) lines) ≡ None
    → (last : Bool) (bs : Branches) (rest : List LogicalLine)
    → drop branch lines ≡ branch_lines bs ++ rest
    → AreBranches last bs
    → drop (index + 1) lines ≡ rest
section_done lines branch index sofar found last bs rest e are =
    let f = sofar.so_far last bs rest e are in
    section_over lines index f.0 f.1 rest f.2 f.3 found

-- ---- the end of a group

end_by : (context : Files → Context) (files : Files) (depth row : ℕ) (lines : List LogicalLine) (index next : ℕ) (s : State) (ps : GroupParts)
    (k : EnclosingSections)
    → Differs (line_at lines index)
    → First (line_at lines index) ps k
    → HasPartsAt lines index ps k
    → ((last : Bool) (bs : Branches) (rest : List LogicalLine) → drop index lines ≡ branch_lines bs ++ rest → AreBranches last bs → drop next lines
    ≡ rest)
    → AdvancesFrom context files depth row lines s s (Ok next) ps k
end_by context files depth row lines index next s Done ((bs, qs) ∷ k) differs (ending other) stands over =
    let outer = stands.outer in
    (qs, k, record { rest = over outer.0.0 bs (lines_to_end qs k) stands.rest outer.0.1; parts = outer.1; outer = outer.2 }, λ more grows end rest. (running s, ExecutesGroup.no_parts, rest))
end_by context files depth row lines index next s ps k differs (text same) stands over = absurd (differs.not_text same)
end_by context files depth row lines index next s ps k differs (control same other) stands over = absurd (differs.not_control other)
end_by context files depth row lines index next s ps k differs (opening same other) stands over = absurd (differs.not_opening other)

pub end_advances : (context : Files → Context) (files : Files) (depth row : ℕ) (lines : List LogicalLine) (index next : ℕ) (s : State)
    (d : Directive)
    → index < length lines
    → (line_at lines index).directive ≡ Some d
    → ends_group d ≡ true
    → ((last : Bool) (bs : Branches) (rest : List LogicalLine) → drop index lines ≡ branch_lines bs ++ rest → AreBranches last bs → drop next lines ≡ rest)
    → Advances context files depth row lines index s s (Ok next)
end_advances context files depth row lines index next s d within is ends over ps k stands =
    end_by context files depth row lines index next s ps k (ending_role d (line_at lines index) ends (ap role_by is)) (first_at lines index ps k within stands) stands over

-- ---- the search for the branch that is taken, from branch line to branch line

at_branches : (lines : List LogicalLine) (index : ℕ) (ps : GroupParts) (bs : Branches) (qs : GroupParts) (k : EnclosingSections)
    → BranchesAt lines index ps bs qs k
    → (next_branch index (role (line_at lines index)) (drop (suc index) lines) ≡ Some (index + 1 + length (part_lines ps)))
    × (drop (index + 1 + length (part_lines ps)) lines ≡ branch_lines bs ++ lines_to_end qs k)
at_branches lines index ps bs qs k b =
    (branches_next lines index b.line ps qs bs b.outer.0.0 (lines_to_end qs k) b.rest b.next b.parts b.outer.0.1, branches_there lines index b.line ps (branch_lines bs ++ lines_to_end qs k) b.rest)

pub found_at : (lines : List LogicalLine) (index next : ℕ) (ps : GroupParts) (bs : Branches) (qs : GroupParts) (k : EnclosingSections)
    → BranchesAt lines index ps bs qs k
    → next_branch index (role (line_at lines index)) (drop (suc index) lines) ≡ Some next
    → drop next lines ≡ branch_lines bs ++ lines_to_end qs k
found_at lines index next ps bs qs k b found =
    let known = at_branches lines index ps bs qs k b in
    let is = known.0 in
    let same : index + 1 + length (part_lines ps) ≡ next = cc in
    ap (λ (z : ℕ). drop z lines) (sym same) ∙ known.1

abbrev pub EntersAt : Search → ℕ → List LogicalLine → ℕ → State → Meter → Result Bool Fault → Type 0
EntersAt search row lines index s meter_after taken = TakesBranch search row s (line_at lines index) meter_after taken

enters_by : (search : Search) (row : ℕ) (lines : List LogicalLine) (index : ℕ) (s : State) (meter_after : Meter) (taken : Result Bool Fault) (r : LogicalLine) (d : Option Directive)
    → line_at lines index ≡ r
    → r.directive ≡ d
    → EntersAt search row lines index s meter_after taken
    → ContinuesBy search row d s r meter_after taken
enters_by search row lines index s meter_after taken r d here is e =
    subst (λ (z : Option Directive). ContinuesBy search row z s r meter_after taken) is (subst (λ (z : LogicalLine). TakesBranch search row s z meter_after taken) here e)

-- A branch line with the role of `#elif` decides by its condition.
branch_decides : (search : Search) (row : ℕ) (lines : List LogicalLine) (index : ℕ) (s : State) (meter_after : Meter) (taken : Result Bool Fault) (r : LogicalLine)
    (following : List LogicalLine)
    → drop index lines ≡ r ∷ following
    → role r ≡ role_by (Some Elif)
    → EntersAt search row lines index s meter_after taken
    → Decides search row s r meter_after taken
branch_decides search row lines index s meter_after taken r following there is e =
    condition_decides search row r.directive s r meter_after taken is (enters_by search row lines index s meter_after taken r r.directive (at_index lines index r following there).here refl e)

-- Processing continues after `#else` and `#endif`, at no cost.
else_enters : (search : Search) (row : ℕ) (lines : List LogicalLine) (next : ℕ) (s : State) (meter_after : Meter) (taken : Result Bool Fault) (r : LogicalLine)
    (following : List LogicalLine)
    → drop next lines ≡ r ∷ following
    → role r ≡ role_by (Some Else)
    → EntersAt search row lines next s meter_after taken
    → DecidesFreely s (Ok true) meter_after taken
else_enters search row lines next s meter_after taken r following there is e =
    enters_by search row lines next s meter_after taken r (Some Else) (at_index lines next r following there).here (else_directive r.directive is) e

endif_enters : (search : Search) (row : ℕ) (lines : List LogicalLine) (next : ℕ) (s : State) (meter_after : Meter) (taken : Result Bool Fault) (r : LogicalLine)
    (following : List LogicalLine)
    → drop next lines ≡ r ∷ following
    → role r ≡ role_by (Some Endif)
    → EntersAt search row lines next s meter_after taken
    → DecidesFreely s (Ok true) meter_after taken
endif_enters search row lines next s meter_after taken r following there is e =
    enters_by search row lines next s meter_after taken r (Some Endif) (at_index lines next r following there).here (endif_directive r.directive is) e

-- A decision depends only on the search of a context.
pub decides_around : (context : Context) (search : Search) (row : ℕ) (s : State) (r : LogicalLine) (meter_after : Meter) (taken : Result Bool Fault)
    → search_of context ≡ search
    → Decides search row s r meter_after taken
    → Decides (search_of context) row s r meter_after taken
decides_around context search row s r meter_after taken by decides = subst (λ (z : Search). Decides z row s r meter_after taken) (sym by) decides

pub enter_branch : (search : Search) (row : ℕ) (lines : List LogicalLine) (next : ℕ) (s : State) (meter_after : Meter) (bs : Branches) (qs : GroupParts) (k : EnclosingSections)
    → drop next lines ≡ branch_lines bs ++ lines_to_end qs k
    → AreEnclosingSections ((bs, qs) ∷ k)
    → EntersAt search row lines next s meter_after (Ok true)
    → FindsBranch search row lines s (with_meter s meter_after) bs qs k (Ok (next + 1))
enter_branch search row lines next s meter_after (End r) qs k e outer entered =
    let same : meter_after ≡ s.meter = (endif_enters search row lines next s meter_after (Ok true) r (lines_to_end qs k) e outer.0.1 entered).0 in (
      qs,
      k,
      stands_behind lines next r qs k e outer.1 outer.2,
      λ context by depth end rest.
          (running s, ExecutesBranches.no_branch_taken, subst (λ (z : Meter). Ends context depth row (running (with_meter s z)) qs k end) same rest),
    )
enter_branch search row lines next s meter_after (Branch r ps bs) qs k e ((last, (before, true, is, parts, more)), following, context) entered =
    let there = e ∙ lay_branch r ps qs bs k in
    let same : meter_after ≡ s.meter = (else_enters search row lines next s meter_after (Ok true) r (lines_to_end ps ((bs, qs) ∷ k)) there is entered).0 in (
      ps,
      (bs, qs) ∷ k,
      stands_behind lines next r ps ((bs, qs) ∷ k) there parts ((true, more), following, context),
      λ context by depth end rest.
          let here = subst (λ (z : Meter). ExecutesGroup context depth row (running (with_meter s z)) ps rest.0) same rest.1 in
          (rest.0, ExecutesBranches.else_group (else_directive r.directive is) here, rest.2),
    )
enter_branch search row lines next s meter_after (Branch r ps bs) qs k e ((last, (before, false, is, parts, more)), following, context) entered =
    let there = e ∙ lay_branch r ps qs bs k in
    let other = not_else r.directive is in
    let decides = branch_decides search row lines next s meter_after (Ok true) r (lines_to_end ps ((bs, qs) ∷ k)) there is entered in (
      ps,
      (bs, qs) ∷ k,
      stands_behind lines next r ps ((bs, qs) ∷ k) there parts ((false, more), following, context),
      λ context by depth end rest. (rest.0, ExecutesBranches.branch_taken other (decides_around context search row s r meter_after (Ok true) by decides) rest.1, rest.2),
    )

pub refuse_branch : (search : Search) (row : ℕ) (lines : List LogicalLine) (next : ℕ) (s : State) (meter_after : Meter) (f : Fault) (bs : Branches) (qs : GroupParts) (k : EnclosingSections)
    → drop next lines ≡ branch_lines bs ++ lines_to_end qs k
    → AreEnclosingSections ((bs, qs) ∷ k)
    → EntersAt search row lines next s meter_after (Err f)
    → FindsBranch search row lines s (with_meter s meter_after) bs qs k (Err f)
refuse_branch search row lines next s meter_after f (End r) qs k e ((last, is), following, context) entered =
    let not : Err f ≡ Ok true = (endif_enters search row lines next s meter_after (Err f) r (lines_to_end qs k) e is entered).1 in
    absurd (cc)
refuse_branch search row lines next s meter_after f (Branch r ps bs) qs k e ((last, (before, true, is, parts, more)), following, context) entered =
    let there = e ∙ lay_branch r ps qs bs k in
    let not : Err f ≡ Ok true = (else_enters search row lines next s meter_after (Err f) r (lines_to_end ps ((bs, qs) ∷ k)) there is entered).1 in
    absurd (cc)
refuse_branch search row lines next s meter_after f (Branch r ps bs) qs k e ((last, (before, false, is, parts, more)), following, context) entered =
    let there = e ∙ lay_branch r ps qs bs k in
    let other = not_else r.directive is in
    λ context by depth. ExecutesBranches.branch_condition_fault other
    (decides_around context search row s r meter_after (Err f) by (branch_decides search row lines next s meter_after (Err f) r (lines_to_end ps ((bs, qs) ∷ k)) there is entered))

-- the branches from this index on: all that they reach from state t, the branches bs reach from state s
abbrev pub Later : Search → ℕ → List LogicalLine → ℕ → State → State → Branches → GroupParts → EnclosingSections → Type 0
Later search row lines index s t bs qs k =
    (ps : GroupParts) × (cs : Branches) × BranchesAt lines index ps cs qs k
    × ((context : Context)
    → search_of context ≡ search
    → (depth : ℕ) (m : Progress)
    → ExecutesBranches context depth row t cs m
    → ExecutesBranches context depth row s bs m)

pass_branch : (search : Search) (row : ℕ) (lines : List LogicalLine) (next : ℕ) (s : State) (meter_after : Meter) (bs : Branches) (qs : GroupParts) (k : EnclosingSections)
    → drop next lines ≡ branch_lines bs ++ lines_to_end qs k
    → AreEnclosingSections ((bs, qs) ∷ k)
    → EntersAt search row lines next s meter_after (Ok false)
    → Later search row lines next s (with_meter s meter_after) bs qs k
pass_branch search row lines next s meter_after (End r) qs k e ((last, is), following, context) entered =
    let not : Ok false ≡ Ok true = (endif_enters search row lines next s meter_after (Ok false) r (lines_to_end qs k) e is entered).1 in
    absurd (cc)
pass_branch search row lines next s meter_after (Branch r ps bs) qs k e ((last, (before, true, is, parts, more)), following, context) entered =
    let there = e ∙ lay_branch r ps qs bs k in
    let not : Ok false ≡ Ok true = (else_enters search row lines next s meter_after (Ok false) r (lines_to_end ps ((bs, qs) ∷ k)) there is entered).1 in
    absurd (cc)
pass_branch search row lines next s meter_after (Branch r ps bs) qs k e ((last, (before, false, is, parts, more)), following, context) entered =
    let there = e ∙ lay_branch r ps qs bs k in
    let other = not_else r.directive is in
    let decides = branch_decides search row lines next s meter_after (Ok false) r (lines_to_end ps ((bs, qs) ∷ k)) there is entered in (
      ps,
      bs,
      record { line = r; rest = there; next = next_of_branch r false is; parts = parts; outer = ((false, more), following, context) },
      λ context by depth m rest. ExecutesBranches.branch_skipped other (decides_around context search row s r meter_after (Ok false) by decides) rest,
    )

-- loop invariant: the branches from `start` up to `index` were skipped, and the state is t
pub record BranchSoFar (search : Search) (row : ℕ) (lines : List LogicalLine) (start : ℕ) (s t : State) (index : ℕ) : Type 0 where
  pub within : index < length lines
  pub from : start ≤ index
  pub so_far : (ps : GroupParts) (bs : Branches) (qs : GroupParts) (k : EnclosingSections) → BranchesAt lines start ps bs qs k → Later search row lines index s t bs qs k

pub branch_more : (search : Search) (row : ℕ) (lines : List LogicalLine) (start next index : ℕ) (s t : State) (meter_after : Meter)
    → BranchSoFar search row lines start s t index
    → next_branch index (role (line_at lines index)) (drop (suc index) lines) ≡ Some next
    → EntersAt search row lines next t meter_after (Ok false)
    → BranchSoFar search row lines start s (with_meter t meter_after) next
branch_more search row lines start next index s t meter_after sofar found entered =
    let inside = next_inside lines index next sofar.within found in
    record {
      within = inside.1;
      from = omega (arith, sofar.from, inside.0);
      so_far = λ ps bs qs k b.
          let f = sofar.so_far ps bs qs k b in
          let g = pass_branch search row lines next t meter_after f.1 qs k (found_at lines index next f.0 f.1 qs k f.2 found) f.2.outer entered in
          (g.0, g.1, g.2, λ context by depth m here. f.3 context by depth m (g.3 context by depth m here));
    }

pub branch_taken : (search : Search) (row : ℕ) (lines : List LogicalLine) (start next index : ℕ) (s t : State) (meter_after : Meter)
    → BranchSoFar search row lines start s t index
    → next_branch index (role (line_at lines index)) (drop (suc index) lines) ≡ Some next
    → EntersAt search row lines next t meter_after (Ok true)
    → (ps : GroupParts) (bs : Branches) (qs : GroupParts) (k : EnclosingSections)
    → BranchesAt lines start ps bs qs k
    → FindsBranch search row lines s (with_meter t meter_after) bs qs k (Ok (next + 1))
branch_taken search row lines start next index s t meter_after sofar found entered ps bs qs k b =
    let f = sofar.so_far ps bs qs k b in
    let g = enter_branch search row lines next t meter_after f.1 qs k (found_at lines index next f.0 f.1 qs k f.2 found) f.2.outer entered in
    (g.0, g.1, g.2, λ context by depth end rest. let h = g.3 context by depth end rest in (h.0, f.3 context by depth h.0 h.1, h.2))

pub branch_refused : (search : Search) (row : ℕ) (lines : List LogicalLine) (start next index : ℕ) (s t : State) (meter_after : Meter) (fault : Fault)
    → BranchSoFar search row lines start s t index
    → next_branch index (role (line_at lines index)) (drop (suc index) lines) ≡ Some next
    → EntersAt search row lines next t meter_after (Err fault)
    → (ps : GroupParts) (bs : Branches) (qs : GroupParts) (k : EnclosingSections)
    → BranchesAt lines start ps bs qs k
    → FindsBranch search row lines s (with_meter t meter_after) bs qs k (Err fault)
branch_refused search row lines start next index s t meter_after fault sofar found entered ps bs qs k b =
    let f = sofar.so_far ps bs qs k b in
    let g = refuse_branch search row lines next t meter_after fault f.1 qs k (found_at lines index next f.0 f.1 qs k f.2 found) f.2.outer entered in
    λ context by depth. f.3 context by depth (stopped (with_meter t meter_after) fault) (g context by depth)

-- An opening line or a branch line with a condition has a next branch line or `#endif`.
pub branch_found : (search : Search) (row : ℕ) (lines : List LogicalLine) (start index : ℕ) (s t : State)
    → BranchSoFar search row lines start s t index
    → next_branch index (role (line_at lines index)) (drop (suc index) lines) ≡ None
    → (ps : GroupParts) (bs : Branches) (qs : GroupParts) (k : EnclosingSections)
    → BranchesAt lines start ps bs qs k
    → ⊥
branch_found search row lines start index s t sofar none ps bs qs k b =
    let f = sofar.so_far ps bs qs k b in
    let known = (at_branches lines index f.0 f.1 qs k f.2).0 in
    cc

-- ---- a walk into an if-section

record SectionAt (lines : List LogicalLine) (index : ℕ) (ps : GroupParts) (k : EnclosingSections) : Type 0 where
  first : GroupParts
  following : GroupParts
  branches : Branches
  whole : ps ≡ Section (line_at lines index) first branches following
  at : BranchesAt lines index first branches following k
  stands : HasPartsAt lines (index + 1) first ((branches, following) ∷ k)

section_by : (lines : List LogicalLine) (index : ℕ) (ps : GroupParts) (k : EnclosingSections)
    → role (line_at lines index) ≡ role_by (Some If)
    → First (line_at lines index) ps k
    → HasPartsAt lines index ps k
    → SectionAt lines index ps k
section_by lines index (Section x ps bs qs) k is (opening same other) stands =
    let r = line_at lines index in
    let there : drop index lines ≡ r ∷ lines_to_end ps ((bs, qs) ∷ k) = stands.rest ∙ lay_section x ps qs bs k ∙ ap (λ (z : LogicalLine). z ∷ lines_to_end ps ((bs, qs) ∷ k)) same in
    let are = stands.parts in
    record {
      first = ps;
      following = qs;
      branches = bs;
      whole = ap (λ (z : LogicalLine). Section z ps bs qs) same;
      at = record { line = r; rest = there; next = next_of_opening r is; parts = are.1; outer = ((false, are.2), are.3, stands.outer) };
      stands = stands_behind lines index r ps ((bs, qs) ∷ k) there are.1 ((false, are.2), are.3, stands.outer);
    }
section_by lines index ps k is (text same) stands = absurd (cc)
section_by lines index ps k is (control same other) stands = absurd (cc)
section_by lines index ps k is (ending differs) stands = absurd (differs.not_opening is)

section_at : (lines : List LogicalLine) (index : ℕ) (d : Directive) (ps : GroupParts) (k : EnclosingSections)
    → index < length lines
    → (line_at lines index).directive ≡ Some d
    → opens_section d ≡ true
    → HasPartsAt lines index ps k
    → SectionAt lines index ps k
section_at lines index d ps k within is opens stands =
    section_by lines index ps k (ap role_by is ∙ opening_role d opens) (first_at lines index ps k within stands) stands

pub enter_taken : (context : Files → Context) (search : Search) (files : Files) (depth row : ℕ) (lines : List LogicalLine) (index : ℕ) (s : State)
    (meter_after : Meter) (d : Directive)
    → index < length lines
    → (line_at lines index).directive ≡ Some d
    → opens_section d ≡ true
    → ((more : Files) → search_of (context more) ≡ search)
    → Decides search row s (line_at lines index) meter_after (Ok true)
    → Advances context files depth row lines index s (with_meter s meter_after) (Ok (index + 1))
enter_taken context search files depth row lines index s meter_after d within is opens by decides ps k stands =
    let a = section_at lines index d ps k within is opens stands in
    subst (λ (z : GroupParts). AdvancesFrom context files depth row lines s (with_meter s meter_after) (Ok (index + 1)) z k) (sym a.whole) (
      a.first,
      (a.branches, a.following) ∷ k,
      a.stands,
      λ more grows end rest.
          let here = decides_around (context more) search row s (line_at lines index) meter_after (Ok true) (by more) decides in
          ends_front (context more) depth row (running s) rest.0 (Section (line_at lines index) a.first a.branches a.following) a.following k end
          (λ o g. ExecutesGroup.taken here rest.1 g) rest.2,
    )

skipped_to : (context : Files → Context) (search : Search) (files : Files) (depth row : ℕ) (lines : List LogicalLine) (index : ℕ) (s t : State)
    (meter_after : Meter) (r : LogicalLine) (ps qs : GroupParts) (bs : Branches) (k : EnclosingSections) (found : Result ℕ Fault)
    → ((more : Files) → search_of (context more) ≡ search)
    → Decides search row s r meter_after (Ok false)
    → FindsBranch search row lines (with_meter s meter_after) t bs qs k found
    → AdvancesFrom context files depth row lines s t found (Section r ps bs qs) k
skipped_to context search files depth row lines index s t meter_after r ps qs bs k (Ok next) by decides finds = (
  finds.0,
  finds.1,
  finds.2,
  λ more grows end rest.
      let f = finds.3 (context more) (by more) depth end rest in
      let here = decides_around (context more) search row s r meter_after (Ok false) (by more) decides in
      ends_front (context more) depth row (running s) f.0 (Section r ps bs qs) qs k end (λ o g. ExecutesGroup.skipped here f.1 g) f.2,
)
skipped_to context search files depth row lines index s t meter_after r ps qs bs k (Err f) by decides finds =
    λ more grows.
    let here = decides_around (context more) search row s r meter_after (Ok false) (by more) decides in
    ends_stop (context more) depth row (running s) t f (Section r ps bs qs) k (ExecutesGroup.skipped here (finds (context more) (by more) depth) ExecutesGroup.already_stopped)

pub enter_skipped : (context : Files → Context) (search : Search) (files : Files) (depth row : ℕ) (lines : List LogicalLine) (index : ℕ) (s t : State)
    (meter_after : Meter) (d : Directive) (found : Result ℕ Fault)
    → index < length lines
    → (line_at lines index).directive ≡ Some d
    → opens_section d ≡ true
    → ((more : Files) → search_of (context more) ≡ search)
    → Decides search row s (line_at lines index) meter_after (Ok false)
    → ((ps : GroupParts) (bs : Branches) (qs : GroupParts) (k : EnclosingSections) → BranchesAt lines index ps bs qs k → FindsBranch search row lines (with_meter s meter_after) t bs qs k found)
    → Advances context files depth row lines index s t found
enter_skipped context search files depth row lines index s t meter_after d found within is opens by decides finds =
    advances context files depth row lines index s t found (λ ps k stands.
    let a = section_at lines index d ps k within is opens stands in
    subst (λ (z : GroupParts). AdvancesFrom context files depth row lines s t found z k) (sym a.whole)
    (skipped_to context search files depth row lines index s t meter_after (line_at lines index) a.first a.following a.branches k found by decides
    (finds a.first a.branches a.following k a.at)))

pub enter_refused : (context : Files → Context) (search : Search) (files : Files) (depth row : ℕ) (lines : List LogicalLine) (index : ℕ) (s : State)
    (meter_after : Meter) (d : Directive) (f : Fault)
    → index < length lines
    → (line_at lines index).directive ≡ Some d
    → opens_section d ≡ true
    → ((more : Files) → search_of (context more) ≡ search)
    → Decides search row s (line_at lines index) meter_after (Err f)
    → Advances context files depth row lines index s (with_meter s meter_after) (Err f)
enter_refused context search files depth row lines index s meter_after d f within is opens by decides ps k stands =
    let a = section_at lines index d ps k within is opens stands in
    subst (λ (z : GroupParts). AdvancesFrom context files depth row lines s (with_meter s meter_after) (Err f) z k) (sym a.whole)
    (λ more grows. ends_stop (context more) depth row (running s) (with_meter s meter_after) f (Section (line_at lines index) a.first a.branches a.following) k
    (ExecutesGroup.condition_fault (decides_around (context more) search row s (line_at lines index) meter_after (Err f) (by more) decides)))
