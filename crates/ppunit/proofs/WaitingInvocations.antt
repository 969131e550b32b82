-- What may wait for more text lines, between the lines of phase 4: nothing, or an invocation whose name is still a function-like macro's.
-- Each line keeps this.
use Rattle.std.proofs.Common.{◌≡◌, true, List, [], ◌∷◌, Some, ℕ, ◌++◌, Bool, false, Option, None, refl, sym, ◌∙◌, subst, if◌then◌else◌}
use Rattle.pptext.specs.declared.tokens.Token.{Token}
use Rattle.ppmacro.specs.Names.{Macros}
use Rattle.ppmacro.specs.Chains.{is_function_like}
use Rattle.ppmacro.specs.declared.macros.Macro.{Macro}
use Rattle.ppexpand.specs.Arguments.{is_open}
use Rattle.ppexpand.specs.ExpansionStep.{macro_of}
use Rattle.ppunit.specs.States.{State, Context, Progress, Opening}
use Rattle.pptext.specs.declared.tokens.Place.{Place}
use Rattle.pptext.specs.declared.tokens.Fault.{Fault}
use Rattle.pptext.specs.declared.sources.Directive.{Directive}
use Rattle.pptext.specs.declared.sources.Profile.{Profile}
use Rattle.pptext.specs.Profiles.{is_gnu}
use Rattle.pptext.specs.Lines.{LogicalLine}
use Rattle.pptext.specs.Tree.{GroupParts, Branches}
use Rattle.ppexpand.specs.Laws.{LeavesOpen, nothing_open, invocation_open}
use Rattle.ppexpand.specs.OpenInvocations.{open_expansion}
use Rattle.ppexpand.proofs.OpenLists.{leaves}
use Rattle.ppunit.specs.DirectiveLines.{operands, text_tokens}
use Rattle.ppunit.specs.Directives.{EmitsText, ExecutesDirective, meter_at_text, is_refused, refusal}
use Rattle.ppunit.specs.Group.{ExecutesGroup, ExecutesBranches, ExecutesControlLine, ExecutesInclude, OpensFile}
use Rattle.ppunit.specs.Unit.{Defines, unread, processed, OpensFirst, all_read, first_fault, first_read, before_first}
use Rattle.ppunit.specs.code.Effects.{HasEffect}
use Rattle.ppunit.specs.declared.units.FirstFile.{FirstFile}
use Rattle.ppunit.specs.Directives.{at_end}
use Rattle.ppunit.proofs.DirectiveEffects.{effect_of, effect_keeps, expanding_keeps}
use Rattle.ppunit.proofs.KeptItems.{leaves_by}

-- Nothing waits, or an invocation does: a token that names a function-like macro, `(`, and the tokens behind it. So the expansion of the tokens
-- that wait and of more tokens behind them begins with this invocation.
pub data Waits (macros : Macros) : List Token → Type 0 where
  nothing_waits : Waits macros []
  invocation_waits : {t paren : Token} {inside : List Token} {d : Macro}
      → macro_of macros t ≡ Some d
      → is_function_like d.kind ≡ true
      → is_open paren ≡ true
      → Waits macros (t ∷ paren ∷ inside)

abbrev pub WaitsIn : State → Type 0
WaitsIn s = Waits s.macros s.waiting

-- ---- text lines

-- what an expansion leaves open may wait
open_waits : {macros : Macros} {f : Option Fault} {ts : List Token} → LeavesOpen macros f ts → Waits macros ts
open_waits nothing_open = nothing_waits
open_waits (invocation_open {d = d} named function_like opens unclosed) = invocation_waits {d = d} named function_like opens

pub run_waits : (profile : Profile) (s : State) (tokens : List Token) (m : Progress) → EmitsText profile s tokens m → WaitsIn m.state
run_waits profile s tokens m g = subst (λ (r : Progress). WaitsIn r.state) (sym g.is) (in_profile (is_gnu profile))
  where
    left : Waits s.macros (open_expansion g.expands)
    left = open_waits (leaves s.macros s.env (meter_at_text s.waiting s.meter) (s.waiting ++ tokens) g.expanded g.expands)

    in_profile : (gnu : Bool) → Waits s.macros (if gnu then open_expansion g.expands else [])
    in_profile true = left
    in_profile false = nothing_waits

-- ---- control lines

allowed : (b : Bool) (f : Fault) → (if b then Some f else None) ≡ None → b ≡ false
allowed true f e = absurd (cc)
allowed false f e = refl

-- After a line that isn't refused the invocation's name is what it was.
still_waits : {macros : Macros} {waiting : List Token} (new : Macros) (d : Option Directive) (os : List Token)
    → Waits macros waiting
    → refusal waiting d os ≡ None
    → ((t : Token) → is_refused t d os ≡ false → macro_of new t ≡ macro_of macros t)
    → Waits new waiting
still_waits new d os nothing_waits free same = nothing_waits
still_waits new d os (invocation_waits {t = t} {d = m} named function_like opens) free same =
    invocation_waits {d = m} (same t (allowed (is_refused t d os) _ free) ∙ named) function_like opens

effect_waits : {profile : Profile} {row : ℕ} {d : Option Directive} {s : State} {line : LogicalLine} {m : Progress}
    → WaitsIn s
    → refusal s.waiting d (operands line.tokens) ≡ None
    → HasEffect profile row d s line m
    → WaitsIn m.state
effect_waits {profile} {row} {d} {s} {line} w free (HasEffect.immediate {e = e} is gives) =
    subst (λ (r : Progress). WaitsIn r.state) (sym gives)
    (still_waits e.macros d (operands line.tokens) w free (λ t h. effect_keeps profile row d s line e t is h))
effect_waits {row = row} {d = d} {s = s} {line = line} w free (HasEffect.expanding x is expands gives) =
    subst (λ (r : Progress). WaitsIn r.state) (sym gives)
    (subst (λ (macros : Macros). Waits macros s.waiting) (expanding_keeps d s row line x.fault x.tokens) w)

pub control_by_waits : (profile : Profile) (row : ℕ) (d : Option Directive) (s : State) (line : LogicalLine) (m : Progress)
    → WaitsIn s
    → refusal s.waiting d (operands line.tokens) ≡ None
    → ExecutesDirective profile row d s line m
    → WaitsIn m.state
control_by_waits profile row d s line m w free g = effect_waits w free (effect_of profile row d s line m g)

-- ---- groups

module _ (context : Context) where
  mutual
    pub group_waits : {depth row : ℕ} {r : Progress} {ps : GroupParts} {end : Progress} → WaitsIn r.state → ExecutesGroup context depth row r ps end
        → WaitsIn end.state
    group_waits w ExecutesGroup.already_stopped = w
    group_waits w ExecutesGroup.no_parts = w
    group_waits w (ExecutesGroup.text_lines {s = s} {lines = lines} {m = m} gives rest) =
        group_waits (run_waits context.profile s (text_tokens lines) m gives) rest
    group_waits w (ExecutesGroup.control here rest) = group_waits (control_waits w here) rest
    group_waits w (ExecutesGroup.taken decides here rest) = group_waits (group_waits w here) rest
    group_waits w (ExecutesGroup.skipped decides here rest) = group_waits (branches_waits w here) rest
    group_waits w (ExecutesGroup.condition_fault decides) = w

    pub branches_waits : {depth row : ℕ} {s : State} {bs : Branches} {m : Progress} → WaitsIn s → ExecutesBranches context depth row s bs m → WaitsIn m.state
    branches_waits w ExecutesBranches.no_branch_taken = w
    branches_waits w (ExecutesBranches.else_group e here) = group_waits w here
    branches_waits w (ExecutesBranches.branch_taken e decides here) = group_waits w here
    branches_waits w (ExecutesBranches.branch_skipped e decides rest) = branches_waits w rest
    branches_waits w (ExecutesBranches.branch_condition_fault e decides) = w

    pub control_waits : {depth row : ℕ} {s : State} {line : LogicalLine} {m : Progress} → WaitsIn s → ExecutesControlLine context depth row s line m
        → WaitsIn m.state
    control_waits w (ExecutesControlLine.error e) = w
    control_waits w (ExecutesControlLine.ignored e) = w
    control_waits w (ExecutesControlLine.quote_fault e q) = w
    control_waits w (ExecutesControlLine.refused e q waits) = w
    control_waits {row = row} w (ExecutesControlLine.executed {s = s} {line = line} {m = m} q free does) =
        control_by_waits context.profile row line.directive s line m w free does
    control_waits w (ExecutesControlLine.include e q free here) = includes_waits w here

    includes_waits : {depth row : ℕ} {following : Option ℕ} {s : State} {line : LogicalLine} {m : Progress} → WaitsIn s
        → ExecutesInclude context depth row following s line m → WaitsIn m.state
    includes_waits w (ExecutesInclude.operand_fault asks) = w
    includes_waits w (ExecutesInclude.missing a asks finds) = w
    includes_waits w (ExecutesInclude.included a found asks finds opens) = opened_waits w opens

    pub opened_waits : {depth row : ℕ} {how : Opening} {at : Place} {s : State} {m : Progress} → WaitsIn s → OpensFile context depth at s row how m
        → WaitsIn m.state
    opened_waits w (OpensFile.too_deep deep) = w
    opened_waits w (OpensFile.exhausted fits spent) = w
    opened_waits w (OpensFile.not_read_again fits more once) = w
    opened_waits w (OpensFile.not_readable fits more once file) = w
    opened_waits w (OpensFile.content_fault fits more once file reads) = w
    opened_waits {how = how} w (OpensFile.read {s = s} {m = m} fits more once file reads tree here) =
        leaves_by (λ (z : Progress). WaitsIn z.state) s how (at_end m) (λ items. group_waits w here)

  pub defines_waits : {defines : List (List ℕ)} {s : State} {m : Progress} → WaitsIn s → Defines context defines s m → WaitsIn m.state
  defines_waits w (unread reads) = w
  defines_waits w (processed reads tree here) = group_waits w here

  pub first_waits : {main number : ℕ} {s : State} {files : List FirstFile} {m : Progress} → WaitsIn s → OpensFirst context main number s files m → WaitsIn m.state
  first_waits w all_read = w
  first_waits w (first_fault opens) = opened_waits w opens
  first_waits w (first_read opens rest) = first_waits (opened_waits w opens) rest

  pub named_waits : (main : ℕ) (name : List ℕ) (files : List FirstFile) (s : State) → WaitsIn s → WaitsIn (before_first main name files s)
  named_waits main name [] s w = w
  named_waits main name (file ∷ files) s w = w
