-- A walk over a text run, and the end of a text run.
use Rattle.std.proofs.Common.{◌≡◌, ℕ, List, [], ◌∷◌, length, Option, None, Some, refl, sym, true, arith, ◌≢◌, ◌+◌, ◌-◌, ◌<◌, ◌++◌, take, drop, ap, ◌∙◌, subst, ◌≤◌, add-one, Bool, false, if◌then◌else◌}
use Rattle.ppmacro.specs.Names.{Macros}
use Rattle.ppexpand.specs.declared.env.Env.{Env}
use Rattle.ppexpand.specs.Budget.{is_exhausted, refused}
use Rattle.ppexpand.specs.ExpansionStep.{Done, expansion_step}
use Rattle.ppexpand.specs.Expansion.{step_in_budget}
use Rattle.ppunit.specs.States.{State, Context, running}
use Rattle.ppunit.specs.Directives.{EmitsText}
use Rattle.std.proofs.lemmas.List.{take_at}
use Rattle.std.specs.List.{AllByRecursion}
use Rattle.pptext.specs.declared.tokens.Fault.{Fault}
use Rattle.pptext.specs.declared.sources.Profile.{Profile}
use Rattle.pptext.specs.Lines.{LogicalLine}
use Rattle.pptext.specs.Tree.{GroupParts, Done, TextLines, Control, Section, End, Branch, part_lines, branch_lines, BeginsTextLines, AreGroupParts, role, role_by}
use Rattle.ppexpand.specs.declared.meter.Meter.{Meter}
use Rattle.ppunit.specs.Group.{ExecutesGroup}
use Rattle.ppunit.specs.DirectiveLines.{text_tokens}
use Rattle.ppshelf.specs.Files.{Files}
use Rattle.ppunit.specs.code.Walk.{line_at, EnclosingSections, lines_to_end, AreEnclosingSections, HasPartsAt, Advances, IsTextLine, StartsWithoutTextLine}
use Rattle.ppunit.proofs.FirstLineCases.{lay_run, text_directive, branches_differ, First, text, control, opening, ending}
use Rattle.ppunit.proofs.FileWalk.{ends_front, ends_stop, AdvancesFrom, advances, first_at, run_result}
use Rattle.pptext.proofs.IndexedLines.{at_index, from_index}

-- ---- a text run without tokens, for example of blank lines

done_anyway : (exhausted : Bool) → (if exhausted then refused [] Done else Done) ≡ Done
done_anyway true = refl
done_anyway false = refl

-- With any meter, an empty list is expanded.
pub none_next : (macros : Macros) (env : Env) (meter : Meter) → step_in_budget macros env meter [] ≡ Done
unfolding expansion_step
none_next macros env meter = done_anyway (is_exhausted meter)

-- ---- a walk over a text run

text_lines : (rs : List LogicalLine) → AllByRecursion (λ r. role r ≡ role_by None) rs → AllByRecursion IsTextLine rs
text_lines [] all = tt
text_lines (r ∷ rs) all = (text_directive r.directive all.0, text_lines rs all.1)

no_text : (r : LogicalLine) → role r ≢ role_by None → ¬ IsTextLine r
no_text r differs is = differs (ap role_by is)

behind_run : (ps : GroupParts) (k : EnclosingSections) → AreGroupParts ps → AreEnclosingSections k → (¬ BeginsTextLines ps) → StartsWithoutTextLine (lines_to_end ps k)
behind_run Done [] are outer alone = tt
behind_run Done ((End r, qs) ∷ k) are outer alone =
    no_text r (branches_differ (End r) outer.0.0 r (lines_to_end qs k) (lines_to_end qs k) outer.0.1 refl).not_text
behind_run Done ((Branch r ps bs, qs) ∷ k) are outer alone =
    no_text r (branches_differ (Branch r ps bs) outer.0.0 r (lines_to_end qs k) (part_lines ps ++ branch_lines bs ++ lines_to_end qs k) outer.0.1 refl).not_text
behind_run (TextLines rs ps) k are outer alone = absurd (alone tt)
behind_run (Control r ps) [] are outer alone = let is = are.0 in no_text r (λ h. cc)
behind_run (Control r ps) ((bs, qs) ∷ k) are outer alone = let is = are.0 in no_text r (λ h. cc)
behind_run (Section r ps cs rs) [] are outer alone = let is = are.0 in no_text r (λ h. cc)
behind_run (Section r ps cs rs) ((bs, qs) ∷ k) are outer alone = let is = are.0 in no_text r (λ h. cc)

abbrev pub RunOf : List LogicalLine → ℕ → ℕ → Type 0
RunOf lines index end =
    (front rest : List LogicalLine) → drop index lines ≡ front ++ rest → AllByRecursion IsTextLine front → StartsWithoutTextLine rest → (end ≡ index + length front) × (drop end lines ≡ rest)

pub run_tokens_are : (lines front rest : List LogicalLine) (index end : ℕ) → drop index lines ≡ front ++ rest → end ≡ index + length front → take (end - index) (drop index lines) ≡ front
run_tokens_are lines front rest index end e is =
    let count : length front ≡ end - index = omega arith in
    ap (take (end - index)) e ∙ take_at front rest (end - index) count

run_by : (profile : Profile) (context : Files → Context) (files : Files) (depth row : ℕ) (lines : List LogicalLine) (index end : ℕ) (s t : State) (f : Option Fault)
    (ps : GroupParts) (k : EnclosingSections)
    → role (line_at lines index) ≡ role_by None
    → First (line_at lines index) ps k
    → HasPartsAt lines index ps k
    → RunOf lines index end
    → EmitsText profile s (text_tokens (take (end - index) (drop index lines))) (record { state = t; fault = f })
    → (rs : List LogicalLine) × (qs : GroupParts) × (ps ≡ TextLines rs qs) × (drop end lines ≡ lines_to_end qs k) × EmitsText profile s (text_tokens rs)
    (record { state = t; fault = f })
run_by profile context files depth row lines index end s t f (TextLines rs ps) k is (text same) stands run gives =
    let there = stands.rest ∙ lay_run rs ps k in
    let parts = stands.parts in
    let over = run rs (lines_to_end ps k) there (text_lines rs parts.1) (behind_run ps k parts.3 stands.outer parts.2) in
    (rs, ps, refl, over.1, subst (λ (z : List LogicalLine). EmitsText profile s (text_tokens z) (record { state = t; fault = f })) (run_tokens_are lines rs (lines_to_end ps k) index end there over.0) gives)
run_by profile context files depth row lines index end s t f ps k is (control same other) stands run gives = absurd (cc)
run_by profile context files depth row lines index end s t f ps k is (opening same other) stands run gives = absurd (cc)
run_by profile context files depth row lines index end s t f ps k is (ending differs) stands run gives = absurd (differs.not_text is)

run_on : (context : Files → Context) (files : Files) (depth row : ℕ) (lines : List LogicalLine) (index end : ℕ) (s t : State) (f : Option Fault)
    (rs : List LogicalLine) (qs : GroupParts) (k : EnclosingSections)
    → AreGroupParts qs
    → AreEnclosingSections k
    → drop end lines ≡ lines_to_end qs k
    → ((more : Files) → EmitsText (context more).profile s (text_tokens rs) (record { state = t; fault = f }))
    → AdvancesFrom context files depth row lines s t (run_result end f) (TextLines rs qs) k
run_on context files depth row lines index end s t None rs qs k are outer there gives =
    (qs, k, record { rest = there; parts = are; outer = outer }, λ more grows last rest. ends_front (context more) depth row (running s) (running t) (TextLines rs qs) qs k last (λ o g. ExecutesGroup.text_lines (gives more) g) rest)
run_on context files depth row lines index end s t (Some f) rs qs k are outer there gives =
    λ more grows. ends_stop (context more) depth row (running s) t f (TextLines rs qs) k (ExecutesGroup.text_lines (gives more) ExecutesGroup.already_stopped)

pub run_advances : (profile : Profile) (context : Files → Context) (files : Files) (depth row : ℕ) (lines : List LogicalLine) (index end : ℕ) (s t : State)
    (f : Option Fault)
    → ((more : Files) → profile ≡ (context more).profile)
    → index < length lines
    → (line_at lines index).directive ≡ None
    → RunOf lines index end
    → EmitsText profile s (text_tokens (take (end - index) (drop index lines))) (record { state = t; fault = f })
    → Advances context files depth row lines index s t (run_result end f)
run_advances profile context files depth row lines index end s t f one within is run gives =
    advances context files depth row lines index s t (run_result end f) (λ ps k stands.
    let b = run_by profile context files depth row lines index end s t f ps k (ap role_by is) (first_at lines index ps k within stands) stands run gives in
    let are = subst AreGroupParts b.2 stands.parts in
    subst (λ (z : GroupParts). AdvancesFrom context files depth row lines s t (run_result end f) z k) (sym b.2) (run_on context files depth row lines index end s t f b.0 b.1 k are.3 stands.outer b.3
    (λ more. subst (λ (z : Profile). EmitsText z s (text_tokens b.0) (record { state = t; fault = f })) (one more) b.4)))

-- ---- the end of a text run

-- loop invariant: the lines from `start` up to `end` are lines of the text run
pub record RunSoFar (lines : List LogicalLine) (start end : ℕ) : Type 0 where
  pub within : end ≤ length lines
  pub from : start ≤ end
  pub so_far : (front rest : List LogicalLine)
      → drop start lines ≡ front ++ rest
      → AllByRecursion IsTextLine front
      → StartsWithoutTextLine rest
      → (more : List LogicalLine) × (drop end lines ≡ more ++ rest) × AllByRecursion IsTextLine more × (start + length front ≡ end + length more)

pub run_start : (lines : List LogicalLine) (start : ℕ) → start ≤ length lines → RunSoFar lines start start
run_start lines start within = record { within = within; from = omega arith; so_far = λ front rest e all is. (front, e, all, refl) }

run_one : (lines : List LogicalLine) (end goal : ℕ) (more rest : List LogicalLine)
    → end < length lines
    → IsTextLine (line_at lines end)
    → drop end lines ≡ more ++ rest
    → AllByRecursion IsTextLine more
    → StartsWithoutTextLine rest
    → goal ≡ end + length more
    → (less : List LogicalLine) × (drop (end + 1) lines ≡ less ++ rest) × AllByRecursion IsTextLine less × (goal ≡ end + 1 + length less)
run_one lines end goal [] [] within is e all ends sum = let there = sym (from_index lines end within) ∙ e in absurd (cc)
run_one lines end goal [] (r ∷ rest) within is e all ends sum =
    let h = at_index lines end r rest e in
    absurd (ends (subst IsTextLine h.here is))
run_one lines end goal (r ∷ more) rest within is e all ends sum =
    let h = at_index lines end r (more ++ rest) e in
    (more, rw add-one h.following, all.1, omega arith)

pub run_more : (lines : List LogicalLine) (start end : ℕ) → end < length lines → IsTextLine (line_at lines end) → RunSoFar lines start end → RunSoFar lines start (end + 1)
run_more lines start end within is sofar = record {
  within = omega arith;
  from = omega (arith, sofar.from);
  so_far = λ front rest e all ends. let f = sofar.so_far front rest e all ends in run_one lines end (start + length front) f.0 rest within is f.1 f.2 ends f.3;
}

run_over : (lines : List LogicalLine) (end goal : ℕ) (more rest : List LogicalLine)
    → (end < length lines → ¬ IsTextLine (line_at lines end))
    → drop end lines ≡ more ++ rest
    → AllByRecursion IsTextLine more
    → goal ≡ end + length more
    → (end ≡ goal) × (drop end lines ≡ rest)
run_over lines end goal [] rest over e all sum = (omega arith, e)
run_over lines end goal (r ∷ more) rest over e all sum =
    let h = at_index lines end r (more ++ rest) e in
    absurd (over h.within (subst IsTextLine (sym h.here) all.0))

pub run_done : (lines : List LogicalLine) (start end : ℕ)
    → RunSoFar lines start end
    → (end < length lines → ¬ IsTextLine (line_at lines end))
    → (front rest : List LogicalLine)
    → drop start lines ≡ front ++ rest
    → AllByRecursion IsTextLine front
    → StartsWithoutTextLine rest
    → (end ≡ start + length front) × (drop end lines ≡ rest)
run_done lines start end sofar over front rest e all ends =
    let f = sofar.so_far front rest e all ends in
    run_over lines end (start + length front) f.0 rest over f.1 f.2 f.3
