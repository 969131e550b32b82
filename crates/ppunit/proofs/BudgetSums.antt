-- The budget is the count of phase 4 plus the remaining budget.
use Rattle.std.proofs.Common.{take, drop, codes, ◌≡◌, ℕ, zero, suc, ◌+◌, ◌-◌, List, [], ◌∷◌, length, Bool, true, false, Option, Some, None, Result, Ok, Err, refl, sym, ap, ◌∙◌, arith}
use Rattle.pptext.specs.declared.tokens.Place.{Place}
use Rattle.pptext.specs.declared.tokens.Token.{Token}
use Rattle.pptext.specs.declared.tokens.Fault.{Fault}
use Rattle.pptext.specs.declared.sources.Directive.{Directive}
use Rattle.pptext.specs.declared.sources.Profile.{Profile}
use Rattle.pptext.specs.Profiles.{is_gnu}
use Rattle.pptext.specs.Lines.{LogicalLine}
use Rattle.pptext.specs.Tree.{GroupParts, Branches}
use Rattle.ppexpand.specs.declared.meter.Meter.{Meter}
use Rattle.ppexpand.specs.Budget.{spend_one, is_exhausted, is_used_up, one_less}
use Rattle.ppexpand.specs.Expansion.{count_expansion}
use Rattle.ppexpand.specs.Laws.{plus}
use Rattle.ppexpand.proofs.BudgetLemmas.{plus-plus, plus-nothing, expansion_spends}
use Rattle.ppexpr.proofs.ConditionBudgets.{condition_spends}
use Rattle.ppshelf.specs.Files.{Files}
use Rattle.ppunit.specs.declared.units.Unit.{Unit as UnitOfList}
use Rattle.ppunit.specs.declared.units.Setting.{Setting}
use Rattle.ppunit.specs.declared.units.UnitOut.{UnitOut}
use Rattle.ppunit.specs.States.{State, Context, Progress, Search, Opening}
use Rattle.ppunit.specs.DirectiveLines.{operands, text_tokens}
use Rattle.ppunit.specs.Including.{IncludeName, begins_with_header, name_of_header, name_of_expansion}
use Rattle.ppunit.specs.Probing.{begins_with, NamesOperand, Probes, ProbesBy, ProbesLine}
use Rattle.ppunit.specs.Conditions.{DecidesByValue, Decides}
use Rattle.ppunit.specs.Directives.{EmitsText, NamesHeaderBy, NamesHeader, ExecutesDirective}
use Rattle.ppunit.specs.Group.{ExecutesGroup, ExecutesBranches, ExecutesControlLine, ExecutesInclude, OpensFile}
use Rattle.ppunit.specs.Counts.{counted_before, count_decides, count_names_header_by, count_names_header, count_names_operand, count_probes, count_probes_by}
use Rattle.ppunit.specs.Counts.{count_probes_line, count_value, count_control_by, count_group, count_branches, count_control, count_includes, count_opening}
use Rattle.ppunit.specs.Unit.{Defines, unread, processed, Translates, definitions_fault, translated, IsUnit, count, count_defines, count_translates, OpensFirst, all_read, first_fault, first_read}
use Rattle.ppunit.specs.Unit.{before_first, main_name, fault_before_main, count_first}
use Rattle.ppunit.specs.Capped.{AtMost}
use Rattle.ppunit.specs.code.Effects.{HasEffect}
use Rattle.ppunit.specs.declared.units.FirstFile.{FirstFile}
use Rattle.ppunit.specs.declared.units.Unit.{Unit as UnitOfList}
use Rattle.ppunit.specs.Directives.{at_end}
use Rattle.ppunit.proofs.DirectiveEffects.{effect_of, count_effect, same_count}
use Rattle.ppunit.proofs.WaitingInvocations.{nothing_waits, WaitsIn, run_waits, group_waits, branches_waits, control_waits, defines_waits, opened_waits, first_waits, named_waits}
use Rattle.ppunit.proofs.TextBudgets.{counts_before, spent_at_text}
use Rattle.ppunit.proofs.KeptItems.{leaves_by}

-- ---- sums

-- two amounts that are spent one after the other
both : {a b : Option ℕ} (c : Option ℕ) (m n : ℕ) → a ≡ plus m b → b ≡ plus n c → a ≡ plus (m + n) c
both c m n p q = p ∙ ap (plus m) q ∙ plus-plus m n c

-- nothing was spent
same_budget : (meter meter_after : Meter) → meter_after ≡ meter → meter.remaining ≡ plus 0 meter_after.remaining
same_budget meter meter_after e = sym (ap (λ (m : Meter). m.remaining) e) ∙ plus-nothing meter_after.remaining

-- Without a budget, there is none afterwards.
pub still_none : {budget rest : Option ℕ} (n : ℕ) → budget ≡ None → budget ≡ plus n rest → rest ≡ None
still_none {rest = None} n is e = refl
still_none {rest = Some k} n is e = absurd (cc)

one_spent : (budget : Option ℕ) → is_used_up budget ≡ false → budget ≡ plus 1 (one_less budget)
one_spent None e = refl
one_spent (Some zero) e = absurd (cc)
one_spent (Some (suc n)) e = ap Some (omega arith)

pays : (meter : Meter) → is_exhausted meter ≡ false → meter.remaining ≡ plus 1 (spend_one meter).remaining
pays meter e = one_spent meter.remaining e

pays_then : (meter meter_after : Meter) (n : ℕ) → is_exhausted meter ≡ false → (spend_one meter).remaining ≡ plus n meter_after.remaining → meter.remaining ≡ plus (suc n) meter_after.remaining
pays_then meter meter_after n e more =
    pays meter e ∙ ap (plus 1) more ∙ plus-plus 1 n meter_after.remaining ∙ ap (λ k. plus k meter_after.remaining) (omega arith)

-- ---- lines

pub asks_by_spends : (header : Bool) (name : Option IncludeName) (s : State) (line tokens : List Token) (meter_after : Meter) (include_name : Result IncludeName Fault)
    → (g : NamesHeaderBy header name s line tokens meter_after include_name)
    → s.meter.remaining ≡ plus (count_names_header_by header name s line tokens meter_after include_name g) meter_after.remaining
asks_by_spends true name s line tokens meter_after include_name g = same_budget s.meter meter_after g.0
asks_by_spends false name s line tokens meter_after include_name g = expansion_spends s.macros s.env g.expands ∙ ap (λ (m : Meter). plus (count_expansion g.expands) m.remaining) (sym g.leaves)

pub asks_spends : (s : State) (line : List Token) (meter_after : Meter) (include_name : Result IncludeName Fault) (g : NamesHeader s line meter_after include_name)
    → s.meter.remaining ≡ plus (count_names_header s line meter_after include_name g) meter_after.remaining
asks_spends s line meter_after include_name g = asks_by_spends (begins_with_header (operands line)) (name_of_header (operands line)) s line (operands line) meter_after include_name g

pub operand_spends : (s : State) (line operand : List Token) (meter_after : Meter) (include_name : Result IncludeName Fault) (g : NamesOperand s line operand meter_after include_name)
    → s.meter.remaining ≡ plus (count_names_operand s line operand meter_after include_name g) meter_after.remaining
operand_spends s line operand meter_after include_name g = asks_by_spends (begins_with (codes "<") operand) (name_of_expansion operand) s line operand meter_after include_name g

pub probes_spends : {search : Search} {row : ℕ} {line : List Token} {s : State} {ts : List Token} {meter_after : Meter} {tokens : Result (List Token) Fault}
    → (g : Probes search row line s ts meter_after tokens)
    → s.meter.remaining ≡ plus (count_probes g) meter_after.remaining
probes_spends (Probes.no_tokens {s = s}) = plus-nothing s.meter.remaining
probes_spends (Probes.other e rest) = probes_spends rest
probes_spends (Probes.unclosed {s = s} e none) = plus-nothing s.meter.remaining
probes_spends {line = line} (Probes.operand_fault {s = s} {ts = ts} {end = end} {meter_after = meter_after} {f = f} e ends names) =
    operand_spends s line (take end (drop 1 ts)) meter_after (Err f) names
probes_spends {line = line} (Probes.operator {s = s} {ts = ts} {end = end} {meter_between = between} a e ends names rest) =
    both _ _ _ (operand_spends s line (take end (drop 1 ts)) between (Ok a) names) (probes_spends rest)

probes_by_spends : (probes : Bool) (search : Search) (row : ℕ) (line : List Token) (s : State) (ts : List Token) (meter_after : Meter) (tokens : Result (List Token) Fault)
    → (g : ProbesBy probes search row line s ts meter_after tokens)
    → s.meter.remaining ≡ plus (count_probes_by probes search row line s ts meter_after tokens g) meter_after.remaining
probes_by_spends true search row line s ts meter_after tokens g = probes_spends g
probes_by_spends false search row line s ts meter_after tokens g = same_budget s.meter meter_after g.0

pub probing_spends : (search : Search) (row : ℕ) (s : State) (line : List Token) (meter_after : Meter) (tokens : Result (List Token) Fault)
    → (g : ProbesLine search row s line meter_after tokens)
    → s.meter.remaining ≡ plus (count_probes_line search row s line meter_after tokens g) meter_after.remaining
probing_spends search row s line meter_after tokens g = probes_by_spends (is_gnu search.profile) search row line s (operands line) meter_after tokens g

value_spends : {search : Search} {row : ℕ} {s : State} {line : List Token} {meter_after : Meter} {taken : Result Bool Fault} (g : DecidesByValue search row s line meter_after taken)
    → s.meter.remaining ≡ plus (count_value g) meter_after.remaining
value_spends {search} {row} {s} {line} {meter_after} (DecidesByValue.probing_fault {f = f} probes is) = probing_spends search row s line meter_after (Err f) probes
value_spends {search} {row} {s} {line} (DecidesByValue.evaluated {tokens = tokens} {meter_between = between} probes condition) =
    both _ _ _ (probing_spends search row s line between (Ok tokens) probes) (condition_spends condition)

pub decides_spends : {search : Search} {row : ℕ} {s : State} {line : LogicalLine} {meter_after : Meter} {taken : Result Bool Fault} (g : Decides search row s line meter_after taken)
    → s.meter.remaining ≡ plus (count_decides g) meter_after.remaining
decides_spends {s = s} {meter_after = meter_after} (Decides.unmatched q x) = same_budget s.meter meter_after x.0
decides_spends {s = s} {meter_after = meter_after} (Decides.tests_name q n x) = same_budget s.meter meter_after x.0
decides_spends (Decides.evaluates q v x) = value_spends x

effect_spends : {profile : Profile} {row : ℕ} {d : Option Directive} {s : State} {line : LogicalLine} {m : Progress} (e : HasEffect profile row d s line m)
    → s.meter.remaining ≡ plus (count_effect e) m.state.meter.remaining
effect_spends {s = s} {m = m} (HasEffect.immediate is gives) = same_budget s.meter m.state.meter (ap (λ x. x.state.meter) gives)
effect_spends {s = s} (HasEffect.expanding x is expands gives) = expansion_spends s.macros s.env expands ∙ ap (plus (count_expansion expands)) (sym (ap (λ x. x.state.meter.remaining) gives))

pub control_by_spends : (profile : Profile) (row : ℕ) (d : Option Directive) (s : State) (line : LogicalLine) (m : Progress) (g : ExecutesDirective profile row d s line m)
    → s.meter.remaining ≡ plus (count_control_by profile row d s line m g) m.state.meter.remaining
control_by_spends profile row d s line m g =
    effect_spends (effect_of profile row d s line m g) ∙ ap (λ n. plus n m.state.meter.remaining) (sym (same_count profile row d s line m g))

-- the replacements of text lines, less the invocation that was counted before
abbrev pub count_run : {profile : Profile} {s : State} {tokens : List Token} {m : Progress} → EmitsText profile s tokens m → ℕ
count_run {s = s} g = count_expansion g.expands - counted_before s.waiting

pub run_spends : (profile : Profile) (s : State) (tokens : List Token) (m : Progress) → WaitsIn s → (g : EmitsText profile s tokens m)
    → s.meter.remaining ≡ plus (count_run g) m.state.meter.remaining
run_spends profile s tokens m w g =
    let c = count_expansion g.expands in
    let after : m.state.meter.remaining ≡ g.expanded.meter.remaining = ap (λ x. x.state.meter.remaining) g.is in
    spent_at_text s.waiting s.meter c g.expanded.meter.remaining (counts_before s.meter tokens w g.expands) (expansion_spends s.macros s.env g.expands)
    ∙ ap (plus (count_run g)) (sym after)

-- ---- groups

module _ (context : Context) where
  mutual
    pub group_spends : {depth row : ℕ} {r : Progress} {ps : GroupParts} {end : Progress} → WaitsIn r.state → (d : ExecutesGroup context depth row r ps end)
        → r.state.meter.remaining ≡ plus (count_group d) end.state.meter.remaining
    group_spends w (ExecutesGroup.already_stopped {s = s}) = plus-nothing s.meter.remaining
    group_spends w (ExecutesGroup.no_parts {s = s}) = plus-nothing s.meter.remaining
    group_spends w (ExecutesGroup.text_lines {s = s} {lines = lines} {m = m} gives rest) =
        both _ _ _ (run_spends context.profile s (text_tokens lines) m w gives) (group_spends (run_waits context.profile s (text_tokens lines) m gives) rest)
    group_spends w (ExecutesGroup.control here rest) = both _ _ _ (control_spends w here) (group_spends (control_waits context w here) rest)
    group_spends w (ExecutesGroup.taken decides here rest) =
        both _ _ _ (decides_spends decides) (both _ _ _ (group_spends w here) (group_spends (group_waits context w here) rest))
    group_spends w (ExecutesGroup.skipped decides here rest) =
        both _ _ _ (decides_spends decides) (both _ _ _ (branches_spend w here) (group_spends (branches_waits context w here) rest))
    group_spends w (ExecutesGroup.condition_fault decides) = decides_spends decides

    pub branches_spend : {depth row : ℕ} {s : State} {bs : Branches} {m : Progress} → WaitsIn s → (d : ExecutesBranches context depth row s bs m)
        → s.meter.remaining ≡ plus (count_branches d) m.state.meter.remaining
    branches_spend w (ExecutesBranches.no_branch_taken {s = s}) = plus-nothing s.meter.remaining
    branches_spend w (ExecutesBranches.else_group e here) = group_spends w here
    branches_spend w (ExecutesBranches.branch_taken e decides here) = both _ _ _ (decides_spends decides) (group_spends w here)
    branches_spend w (ExecutesBranches.branch_skipped e decides rest) = both _ _ _ (decides_spends decides) (branches_spend w rest)
    branches_spend w (ExecutesBranches.branch_condition_fault e decides) = decides_spends decides

    pub control_spends : {depth row : ℕ} {s : State} {line : LogicalLine} {m : Progress} → WaitsIn s → (d : ExecutesControlLine context depth row s line m)
        → s.meter.remaining ≡ plus (count_control d) m.state.meter.remaining
    control_spends w (ExecutesControlLine.error {s = s} e) = plus-nothing s.meter.remaining
    control_spends w (ExecutesControlLine.ignored {s = s} e) = plus-nothing s.meter.remaining
    control_spends w (ExecutesControlLine.quote_fault {s = s} e q) = plus-nothing s.meter.remaining
    control_spends w (ExecutesControlLine.refused {s = s} e q waits) = plus-nothing s.meter.remaining
    control_spends {row = row} w (ExecutesControlLine.executed {s = s} {line = line} {m = m} q free does) =
        control_by_spends context.profile row line.directive s line m does
    control_spends w (ExecutesControlLine.include e q free here) = includes_spend w here

    pub includes_spend : {depth row : ℕ} {following : Option ℕ} {s : State} {line : LogicalLine} {m : Progress} → WaitsIn s
        → (d : ExecutesInclude context depth row following s line m)
        → s.meter.remaining ≡ plus (count_includes d) m.state.meter.remaining
    includes_spend w (ExecutesInclude.operand_fault {s = s} {line = line} {meter_after = meter_after} {f = f} asks) =
        asks_spends s line.tokens meter_after (Err f) asks
    includes_spend w (ExecutesInclude.missing {s = s} {line = line} {meter_after = meter_after} a asks finds) =
        asks_spends s line.tokens meter_after (Ok a) asks
    includes_spend w (ExecutesInclude.included {s = s} {line = line} {meter_after = meter_after} a found asks finds opens) =
        both _ _ _ (asks_spends s line.tokens meter_after (Ok a) asks) (opened_spends w opens)

    pub opened_spends : {depth row : ℕ} {how : Opening} {at : Place} {s : State} {m : Progress} → WaitsIn s
        → (d : OpensFile context depth at s row how m)
        → s.meter.remaining ≡ plus (count_opening d) m.state.meter.remaining
    opened_spends w (OpensFile.too_deep {s = s} deep) = plus-nothing s.meter.remaining
    opened_spends w (OpensFile.exhausted {s = s} fits spent) = plus-nothing s.meter.remaining
    opened_spends w (OpensFile.not_read_again {s = s} fits more once) = pays s.meter more
    opened_spends w (OpensFile.not_readable {s = s} fits more once file) = pays s.meter more
    opened_spends w (OpensFile.content_fault {s = s} fits more once file reads) = pays s.meter more
    opened_spends {how = how} w (OpensFile.read {s = s} {m = m} fits more once file reads tree here) =
        leaves_by (λ (z : Progress). s.meter.remaining ≡ plus (suc (count_group here)) z.state.meter.remaining) s how (at_end m)
        (λ items. pays_then s.meter m.state.meter _ more (group_spends w here))

  pub defines_spends : {defines : List (List ℕ)} {s : State} {m : Progress} → WaitsIn s → (d : Defines context defines s m)
      → s.meter.remaining ≡ plus (count_defines d) m.state.meter.remaining
  defines_spends w (unread {s = s} reads) = plus-nothing s.meter.remaining
  defines_spends w (processed reads tree here) = group_spends w here

  pub first_spends : {main number : ℕ} {s : State} {files : List FirstFile} {m : Progress} → WaitsIn s → (d : OpensFirst context main number s files m)
      → s.meter.remaining ≡ plus (count_first d) m.state.meter.remaining
  first_spends w (all_read {s = s}) = plus-nothing s.meter.remaining
  first_spends w (first_fault opens) = opened_spends w opens
  first_spends w (first_read opens rest) = both _ _ _ (opened_spends w opens) (first_spends (opened_waits context w opens) rest)

  -- naming the unit's own file spends nothing
  pub named_spends : (main : ℕ) (name : List ℕ) (files : List FirstFile) (s : State) → (before_first main name files s).meter ≡ s.meter
  named_spends main name [] s = refl
  named_spends main name (file ∷ files) s = refl

  pub before_main_spends : (unit : UnitOfList) (s : State) {m : Progress} → WaitsIn s
      → (d : OpensFirst context unit.file (suc (length unit.defines.texts)) (before_first unit.file (main_name context.names unit) unit.first s) unit.first m)
      → s.meter.remaining ≡ plus (count_first d) m.state.meter.remaining
  before_main_spends unit s w d =
      ap (λ (z : Meter). z.remaining) (sym (named_spends unit.file (main_name context.names unit) unit.first s))
      ∙ first_spends (named_waits context unit.file (main_name context.names unit) unit.first s w) d

  pub before_main_waits : (unit : UnitOfList) (s : State) {m : Progress} → WaitsIn s
      → OpensFirst context unit.file (suc (length unit.defines.texts)) (before_first unit.file (main_name context.names unit) unit.first s) unit.first m
      → WaitsIn m.state
  before_main_waits unit s w d = first_waits context (named_waits context unit.file (main_name context.names unit) unit.first s w) d

  pub unit_spends : {unit : UnitOfList} {s : State} {m : Progress} → WaitsIn s → (d : Translates context unit s m)
      → s.meter.remaining ≡ plus (count_translates d) m.state.meter.remaining
  unit_spends w (definitions_fault here) = defines_spends w here
  unit_spends {unit} w (fault_before_main {t = t} here first) = both _ _ _ (defines_spends w here) (before_main_spends unit t (defines_waits context w here) first)
  unit_spends {unit} w (translated {t = t} here first opens) =
      let waits = defines_waits context w here in
      both _ _ _ (defines_spends w here) (both _ _ _ (before_main_spends unit t waits first) (opened_spends (before_main_waits unit t waits first) opens))

-- ---- units

at_most : (budget remaining : Option ℕ) (n : ℕ) → budget ≡ plus n remaining → AtMost budget n
at_most None remaining n e = tt
at_most (Some b) None n e = absurd (cc)
at_most (Some b) (Some k) n e = let sum : b ≡ n + k = cc in omega arith

pub stays_in_budget : (names : List (List ℕ)) (files : Files) (setting : Setting) (unit : UnitOfList) (out : UnitOut) (p : IsUnit names files setting unit out) → AtMost setting.budget (count p)
stays_in_budget names files setting unit out p = at_most setting.budget p.progress.state.meter.remaining (count p) (unit_spends _ nothing_waits p.translates)
