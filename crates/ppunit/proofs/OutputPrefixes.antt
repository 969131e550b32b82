-- Phase 4 only appends to the items and the dependencies.
use Rattle.std.proofs.Common.{ℕ, List, [], ◌∷◌, ◌++◌, map, Bool, true, false, Option, refl, sym, ap, ◌∙◌, subst, append_assoc, append-nil, if◌then◌else◌}
use Rattle.pptext.specs.declared.tokens.Place.{Place}
use Rattle.pptext.specs.declared.tokens.Token.{Token}
use Rattle.pptext.specs.declared.sources.Directive.{Directive}
use Rattle.pptext.specs.declared.sources.Profile.{Profile}
use Rattle.pptext.specs.Lines.{LogicalLine}
use Rattle.pptext.specs.Tree.{GroupParts, Branches}
use Rattle.ppexpand.specs.Laws.{IsPrefix}
use Rattle.ppunit.specs.Dependencies.{has_row}
use Rattle.ppunit.specs.States.{State, Context, Progress, mark, with_dependency, with_one_spent, in_file, named, marked, file_context, in_file_context, entering, leaving, Opening}
use Rattle.ppunit.specs.DirectiveLines.{text_tokens}
use Rattle.ppunit.specs.Directives.{EmitsText, ExecutesDirective}
use Rattle.ppunit.specs.Group.{ExecutesGroup, ExecutesBranches, ExecutesControlLine, ExecutesInclude, OpensFile}
use Rattle.ppunit.specs.code.Effects.{expanding_effect, HasEffect}
use Rattle.ppunit.proofs.DirectiveEffects.{effect_of}
use Rattle.ppunit.specs.declared.units.Item.TheVariants as item
use Rattle.ppunit.specs.declared.units.MarkSort.{MarkSort}
use Rattle.ppunit.specs.declared.units.MarkSort.TheVariants as mark_sort
use Rattle.ppunit.specs.declared.units.FirstFile.{FirstFile}
use Rattle.ppunit.specs.Unit.{before_first}
use Rattle.ppunit.specs.Directives.{at_end}
use Rattle.ppunit.proofs.KeptItems.{kept-before, resumed_emits}

pub same_beginning : {A : Type 0} (xs : List A) → IsPrefix xs xs
same_beginning xs = ([], sym (append-nil xs))

beginning_of : {A : Type 0} (xs ys zs : List A) → IsPrefix xs ys → IsPrefix ys zs → IsPrefix xs zs
beginning_of xs ys zs p q = (p.0 ++ q.0, q.1 ∙ ap (λ l. l ++ q.0) p.1 ∙ append_assoc xs p.0 q.0)

-- the items and dependencies of s are prefixes of those of t
abbrev pub Before : State → State → Type 0
Before s t = IsPrefix s.items t.items × IsPrefix s.deps t.deps

pub same_state : (s : State) → Before s s
same_state s = (same_beginning s.items, same_beginning s.deps)

pub before_then : (s t u : State) → Before s t → Before t u → Before s u
before_then s t u p q = (beginning_of s.items t.items u.items p.0 q.0, beginning_of s.deps t.deps u.deps p.1 q.1)

pub depends : (s : State) (row : ℕ) → Before s (with_dependency s row)
depends s row = (same_beginning s.items, joined (has_row row s.deps))
  where
    joined : (b : Bool) → IsPrefix s.deps (if b then s.deps else s.deps ++ row ∷ [])
    joined true = same_beginning s.deps
    joined false = (row ∷ [], refl)

-- a mark is emitted
pub marked_before : (s : State) (sort : MarkSort) (row last : ℕ) → Before s (marked s sort row last)
marked_before s sort row last = (kept-before s.keeps s.items (item.Mark (mark s sort row last) ∷ []), same_beginning s.deps)

pub entered_before : (at : Place) (s : State) (row : ℕ) (how : Opening) → Before s (entering at (with_one_spent s) row how)
entered_before at s row how =
    before_then s (with_dependency s row) (entering at (with_one_spent s) row how) (depends s row)
    (kept-before s.keeps s.items (item.Mark (mark (in_file (with_dependency (with_one_spent s) row) row how) (mark_sort.Enter at) row 0) ∷ []), same_beginning (with_dependency s row).deps)

pub left_before : (s : State) (how : Opening) (m : Progress) → Before m.state (leaving s how m).state
left_before s how m =
    let more = resumed_emits how.resumption (record m { state = in_file_context (file_context s) m.state }) in
    subst (λ (x : Progress). Before m.state x.state) (sym more.1) (kept-before m.state.keeps m.state.items more.0, same_beginning m.state.deps)

pub named_before : (main : ℕ) (name : List ℕ) (files : List FirstFile) (s : State) → Before s (before_first main name files s)
named_before main name [] s = same_state s
named_before main name (file ∷ files) s = (kept-before s.keeps s.items (item.Mark (mark (named s name) mark_sort.Line main 0) ∷ []), same_beginning s.deps)

effect_before : {profile : Profile} {row : ℕ} {d : Option Directive} {s : State} {line : LogicalLine} {m : Progress} → HasEffect profile row d s line m → Before s m.state
effect_before {s = s} (HasEffect.immediate {e = e} is gives) = subst (λ x. Before s x.state) (sym gives) (kept-before s.keeps s.items e.items, same_beginning s.deps)
effect_before {row = row} {d = d} {s = s} {line = line} (HasEffect.expanding x is expands gives) =
    subst (λ x. Before s x.state) (sym gives) (kept-before s.keeps s.items (expanding_effect d s row line x.fault x.tokens).items, same_beginning s.deps)

pub control_by_before : (profile : Profile) (row : ℕ) (d : Option Directive) (s : State) (line : LogicalLine) (m : Progress) → ExecutesDirective profile row d s line m → Before s m.state
control_by_before profile row d s line m g = effect_before (effect_of profile row d s line m g)

run_before : (profile : Profile) (s : State) (tokens : List Token) (m : Progress) → EmitsText profile s tokens m → Before s m.state
run_before profile s tokens m g =
    subst (λ x. Before s x.state) (sym g.is) (kept-before s.keeps s.items (map item.Token g.expanded.tokens), same_beginning s.deps)

module _ (context : Context) where
  mutual
    pub group_before : {depth row : ℕ} {r : Progress} {ps : GroupParts} {end : Progress} → ExecutesGroup context depth row r ps end → Before r.state end.state
    group_before (ExecutesGroup.already_stopped {s = s}) = same_state s
    group_before (ExecutesGroup.no_parts {s = s}) = same_state s
    group_before (ExecutesGroup.text_lines {s = s} {lines = lines} {m = m} {end = end} gives rest) =
        before_then s m.state end.state (run_before context.profile s (text_tokens lines) m gives) (group_before rest)
    group_before (ExecutesGroup.control {s = s} {m = m} {end = end} here rest) = before_then s m.state end.state (control_before here) (group_before rest)
    group_before (ExecutesGroup.taken {s = s} {m = m} {end = end} decides here rest) = before_then s m.state end.state (group_before here) (group_before rest)
    group_before (ExecutesGroup.skipped {s = s} {m = m} {end = end} decides here rest) = before_then s m.state end.state (branches_before here) (group_before rest)
    group_before (ExecutesGroup.condition_fault {s = s} decides) = same_state s

    pub branches_before : {depth row : ℕ} {s : State} {bs : Branches} {m : Progress} → ExecutesBranches context depth row s bs m → Before s m.state
    branches_before (ExecutesBranches.no_branch_taken {s = s}) = same_state s
    branches_before (ExecutesBranches.else_group e here) = group_before here
    branches_before (ExecutesBranches.branch_taken e decides here) = group_before here
    branches_before (ExecutesBranches.branch_skipped e decides rest) = branches_before rest
    branches_before (ExecutesBranches.branch_condition_fault {s = s} e decides) = same_state s

    pub control_before : {depth row : ℕ} {s : State} {line : LogicalLine} {m : Progress} → ExecutesControlLine context depth row s line m → Before s m.state
    control_before (ExecutesControlLine.error {s = s} e) = same_state s
    control_before (ExecutesControlLine.ignored {s = s} e) = same_state s
    control_before (ExecutesControlLine.quote_fault {s = s} e q) = same_state s
    control_before (ExecutesControlLine.refused {s = s} e q waits) = same_state s
    control_before {row = row} (ExecutesControlLine.executed {s = s} {line = line} {m = m} q free does) =
        control_by_before context.profile row line.directive s line m does
    control_before (ExecutesControlLine.include e q free here) = includes_before here

    includes_before : {depth row : ℕ} {following : Option ℕ} {s : State} {line : LogicalLine} {m : Progress} → ExecutesInclude context depth row following s line m → Before s m.state
    includes_before (ExecutesInclude.operand_fault {s = s} asks) = same_state s
    includes_before (ExecutesInclude.missing {s = s} a asks finds) = same_state s
    includes_before (ExecutesInclude.included a found asks finds opens) = opened_before opens

    pub opened_before : {depth row : ℕ} {how : Opening} {at : Place} {s : State} {m : Progress} → OpensFile context depth at s row how m → Before s m.state
    opened_before (OpensFile.too_deep {s = s} deep) = same_state s
    opened_before (OpensFile.exhausted {s = s} fits spent) = same_state s
    opened_before {row = row} (OpensFile.not_read_again {s = s} fits more once) = depends s row
    opened_before {row = row} (OpensFile.not_readable {s = s} fits more once file) = depends s row
    opened_before {row = row} (OpensFile.content_fault {s = s} fits more once file reads) = depends s row
    opened_before {row = row} {how = how} {at = at} (OpensFile.read {s = s} {m = m} fits more once file reads tree here) =
        before_then s (entering at (with_one_spent s) row how) (leaving s how (at_end m)).state (entered_before at s row how)
        (before_then (entering at (with_one_spent s) row how) m.state (leaving s how (at_end m)).state (group_before here) (left_before s how (at_end m)))
