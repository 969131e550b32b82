-- The dependencies of a unit are indices of the file table, if the unit's own file is one.
use Rattle.std.proofs.Common.{◌≡◌, ℕ, ◌<◌, Bool, true, false, List, [], ◌∷◌, ◌++◌, All, length, Option, Some, sym, ap, subst, nat_eq, if◌then◌else◌}
use Rattle.std.specs.List.{list_any}
use Rattle.std.proofs.lemmas.List.Elements.{All-push, All-nil, All-head, All-tail}
use Rattle.pptext.specs.declared.tokens.Place.{Place}
use Rattle.pptext.specs.declared.tokens.Token.{Token}
use Rattle.pptext.specs.declared.sources.Profile.{Profile}
use Rattle.pptext.specs.declared.sources.Directive.{Directive}
use Rattle.pptext.specs.Lines.{LogicalLine}
use Rattle.pptext.specs.Tree.{GroupParts, Branches}
use Rattle.ppshelf.specs.Files.{Files}
use Rattle.ppunit.specs.declared.units.Unit.{Unit as UnitOfList}
use Rattle.ppunit.specs.declared.units.Setting.{Setting}
use Rattle.ppunit.specs.declared.units.UnitOut.{UnitOut}
use Rattle.ppunit.specs.Dependencies.{with_row}
use Rattle.ppunit.specs.States.{State, Context, Progress, Opening}
use Rattle.ppunit.specs.DirectiveLines.{text_tokens}
use Rattle.ppunit.specs.Directives.{EmitsText, ExecutesDirective}
use Rattle.ppunit.specs.Group.{ExecutesGroup, ExecutesBranches, ExecutesControlLine, ExecutesInclude, OpensFile}
use Rattle.ppunit.specs.Unit.{IsUnit, Defines, unread, processed, Translates, definitions_fault, translated, context_of_unit, OpensFirst, all_read, first_fault, first_read, before_first, main_name, fault_before_main, HasRows}
use Rattle.ppunit.specs.code.Effects.{HasEffect}
use Rattle.ppunit.specs.declared.units.FirstFile.{FirstFile}
use Rattle.ppunit.specs.Directives.{at_end}
use Rattle.ppunit.proofs.DirectiveEffects.{effect_of}
use Rattle.ppshelf.proofs.SearchResults.{first_within}
use Rattle.ppunit.proofs.KeptItems.{leaves_by}

-- ---- effects that leave the dependencies unchanged

run_keeps : (profile : Profile) (s : State) (tokens : List Token) (m : Progress) → EmitsText profile s tokens m → m.state.deps ≡ s.deps
run_keeps profile s tokens m gives = ap (λ (r : Progress). r.state.deps) gives.is

effect_keeps : {profile : Profile} {row : ℕ} {d : Option Directive} {s : State} {r : LogicalLine} {m : Progress} → HasEffect profile row d s r m → m.state.deps ≡ s.deps
effect_keeps (HasEffect.immediate is gives) = ap (λ (z : Progress). z.state.deps) gives
effect_keeps (HasEffect.expanding x is expands gives) = ap (λ (z : Progress). z.state.deps) gives

control_keeps : (profile : Profile) (row : ℕ) (d : Option Directive) (s : State) (r : LogicalLine) (m : Progress)
    → ExecutesDirective profile row d s r m
    → m.state.deps ≡ s.deps
control_keeps profile row d s r m does = effect_keeps (effect_of profile row d s r m does)

-- ---- files that become dependencies

module _ (context : Context) where
  abbrev pub Within : List ℕ → Type 0
  Within rows = All (λ row. row < length context.names) rows

  among_within : (row : ℕ) (rows : List ℕ) → row < length context.names → Within rows → Within (with_row row rows)
  among_within row rows within all = cases (list_any (nat_eq row) rows)
    where
      cases : (b : Bool) → Within (if b then rows else rows ++ row ∷ [])
      cases true = all
      cases false = All-push (λ r. r < length context.names) rows row all within

  mutual
    group_within : {depth row : ℕ} {r : Progress} {ps : GroupParts} {end : Progress} → ExecutesGroup context depth row r ps end → Within r.state.deps → Within end.state.deps
    group_within ExecutesGroup.already_stopped all = all
    group_within ExecutesGroup.no_parts all = all
    group_within (ExecutesGroup.text_lines {s = s} {lines = lines} {m = m} gives rest) all =
        group_within rest (subst Within (sym (run_keeps context.profile s (text_tokens lines) m gives)) all)
    group_within (ExecutesGroup.control here rest) all = group_within rest (control_within here all)
    group_within (ExecutesGroup.taken decides here rest) all = group_within rest (group_within here all)
    group_within (ExecutesGroup.skipped decides here rest) all = group_within rest (branches_within here all)
    group_within (ExecutesGroup.condition_fault decides) all = all

    branches_within : {depth row : ℕ} {s : State} {bs : Branches} {m : Progress} → ExecutesBranches context depth row s bs m → Within s.deps → Within m.state.deps
    branches_within ExecutesBranches.no_branch_taken all = all
    branches_within (ExecutesBranches.else_group is here) all = group_within here all
    branches_within (ExecutesBranches.branch_taken is decides here) all = group_within here all
    branches_within (ExecutesBranches.branch_skipped is decides rest) all = branches_within rest all
    branches_within (ExecutesBranches.branch_condition_fault is decides) all = all

    control_within : {depth row : ℕ} {s : State} {line : LogicalLine} {m : Progress} → ExecutesControlLine context depth row s line m → Within s.deps → Within m.state.deps
    control_within (ExecutesControlLine.error is) all = all
    control_within (ExecutesControlLine.ignored is) all = all
    control_within (ExecutesControlLine.quote_fault is q) all = all
    control_within (ExecutesControlLine.refused is q waits) all = all
    control_within {row = row} {s = s} {line = line} {m = m} (ExecutesControlLine.executed q free does) all =
        subst Within (sym (control_keeps context.profile row line.directive s line m does)) all
    control_within (ExecutesControlLine.include is q free here) all = includes_within here all

    includes_within : {depth row : ℕ} {following : Option ℕ} {s : State} {line : LogicalLine} {m : Progress} → ExecutesInclude context depth row following s line m → Within s.deps → Within m.state.deps
    includes_within (ExecutesInclude.operand_fault asks) all = all
    includes_within (ExecutesInclude.missing a asks finds) all = all
    includes_within (ExecutesInclude.included a found asks finds opens) all = opened_within opens (first_within context.names _ (Some found) finds) all

    opened_within : {depth row : ℕ} {how : Opening} {at : Place} {s : State} {m : Progress} → OpensFile context depth at s row how m → row < length context.names → Within s.deps → Within m.state.deps
    opened_within (OpensFile.too_deep deep) within all = all
    opened_within (OpensFile.exhausted fits spent) within all = all
    opened_within {row = row} {s = s} (OpensFile.not_read_again fits some known) within all = among_within row s.deps within all
    opened_within {row = row} {s = s} (OpensFile.not_readable fits some new is) within all = among_within row s.deps within all
    opened_within {row = row} {s = s} (OpensFile.content_fault fits some new is reads) within all = among_within row s.deps within all
    opened_within {row = row} {how = how} {s = s} (OpensFile.read {m = m} fits some new is reads tree here) within all =
        leaves_by (λ (z : Progress). Within z.state.deps) s how (at_end m) (λ items. group_within here (among_within row s.deps within all))

  defines_within : {defines : List (List ℕ)} {s : State} {m : Progress} → Defines context defines s m → Within s.deps → Within m.state.deps
  defines_within (unread reads) all = all
  defines_within (processed reads tree here) all = group_within here all

  abbrev IsWithin : FirstFile → Type 0
  IsWithin f = f.file < length context.names

  files_within : {main number : ℕ} {s : State} {files : List FirstFile} {m : Progress} → OpensFirst context main number s files m → All IsWithin files → Within s.deps → Within m.state.deps
  files_within all_read within all = all
  files_within (first_fault {file = file} {files = files} opens) within all = opened_within opens (All-head IsWithin file files within) all
  files_within (first_read {file = file} {files = files} opens rest) within all =
      files_within rest (All-tail IsWithin file files within) (opened_within opens (All-head IsWithin file files within) all)

  named_within : (main : ℕ) (name : List ℕ) (files : List FirstFile) (s : State) → Within s.deps → Within (before_first main name files s).deps
  named_within main name [] s all = all
  named_within main name (file ∷ files) s all = all

  translates_within : {unit : UnitOfList} {s : State} {m : Progress} → Translates context unit s m → HasRows (length context.names) unit → Within s.deps → Within m.state.deps
  translates_within (definitions_fault here) within all = defines_within here all
  translates_within {unit} (fault_before_main {t = t} here first) within all =
      files_within first within.1 (named_within unit.file (main_name context.names unit) unit.first t (defines_within here all))
  translates_within {unit} (translated {t = t} here first opens) within all =
      opened_within opens within.0 (files_within first within.1 (named_within unit.file (main_name context.names unit) unit.first t (defines_within here all)))

pub unit_within : (names : List (List ℕ)) (files : Files) (setting : Setting) (unit : UnitOfList) (out : UnitOut) → IsUnit names files setting unit out → HasRows (length names) unit → All (λ row. row < length names) out.deps
unit_within names files setting unit out is within =
    subst (λ (z : UnitOut). All (λ row. row < length names) z.deps) (sym is.is_output) (translates_within (context_of_unit names files setting unit) is.translates within (All-nil (λ row. row < length names)))
