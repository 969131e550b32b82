-- Without a budget no line and no unit ends in fault 35.
use Rattle.std.proofs.Common.{take, drop, codes, ◌≡◌, ◌≢◌, ℕ, List, [], ◌∷◌, Bool, true, false, Option, Some, None, Result, Ok, Err, refl, sym, subst, arith, if◌then◌else◌, ap, ◌∙◌}
use Rattle.pptext.specs.declared.tokens.Place.{Place}
use Rattle.pptext.specs.declared.tokens.Token.{Token}
use Rattle.pptext.specs.declared.tokens.Fault.{Fault}
use Rattle.pptext.specs.declared.sources.Directive.{Directive}
use Rattle.pptext.specs.declared.sources.Profile.{Profile}
use Rattle.pptext.specs.Lines.{LogicalLine, lines_of}
use Rattle.pptext.specs.Sources.{IsFaultOf}
use Rattle.pptext.specs.Tree.{Role, Elses, Closes, role, Open, after_line, fault_at_end, fault_or, group_fault, GroupParts, Branches}
use Rattle.pptext.specs.Profiles.{is_gnu}
use Rattle.pptext.specs.Tokens.{is_unmatched_quote, fault}
use Rattle.ppmacro.specs.Names.{Macros}
use Rattle.ppexpand.specs.declared.meter.Meter.{Meter}
use Rattle.ppexpand.specs.declared.env.Env.{Env}
use Rattle.ppexpand.specs.Expansion.{Expansion}
use Rattle.ppexpand.specs.Expansion.{IsExpansion, count_expansion}
use Rattle.ppexpand.specs.OpenInvocations.{open_expansion}
use Rattle.ppexpand.proofs.BudgetFaults.{expansion_never_refused}
use Rattle.ppexpand.proofs.BudgetLemmas.{expansion_spends}
use Rattle.ppexpr.proofs.ConditionBudgets.{IsOther as IsOtherOr, condition_never_refused}
use Rattle.ppunit.specs.States.{State, Context, Progress, Search, Opening}
use Rattle.ppunit.specs.DirectiveLines.{operands, line_fault, one_identifier, text_tokens}
use Rattle.ppunit.specs.Quotes.{unmatched_quote}
use Rattle.ppunit.specs.Including.{IncludeName, begins_with_header, name_of_header, name_of_expansion, if_possible_name, name_or, name_of_expansion_or}
use Rattle.ppunit.specs.Probing.{begins_with, directory_before, has_file, number_for, after_first, Probes, ProbesBy}
use Rattle.ppunit.specs.Conditions.{by_name, DecidesByValue, Decides}
use Rattle.ppunit.specs.Directives as directives
use Rattle.ppunit.specs.Directives.{EmitsText, NamesHeaderBy, NamesHeader, ExecutesDirective, waits_in, fault_unless, waiting_fault, is_refused, refusal, or_fault}
use Rattle.ppunit.specs.Group.{ExecutesGroup, ExecutesBranches, ExecutesControlLine, ExecutesInclude, OpensFile}
use Rattle.ppunit.specs.Unit.{Defines, context_of_unit, unread, processed, Translates, definitions_fault, translated, OpensFirst, all_read, first_fault, first_read, before_first, main_name, fault_before_main}
use Rattle.ppunit.specs.Counts.{count_decides, count_names_header, count_names_operand, count_probes_line, count_control_by}
use Rattle.ppunit.proofs.DirectiveEffects.{IsOther, effect_of, effect_other}
use Rattle.ppunit.proofs.BudgetSums.{still_none, asks_spends, operand_spends, probing_spends, decides_spends, control_by_spends, named_spends}
use Rattle.ppunit.proofs.TextBudgets.{none_at_text}
use Rattle.ppexpand.specs.Budget.{is_exhausted, is_used_up, one_less}
use Rattle.ppunit.specs.Capped.{OnlyBudgetsRefuse}
use Rattle.ppunit.specs.declared.units.FirstFile.{FirstFile}
use Rattle.ppunit.specs.declared.units.Unit.{Unit as UnitOfList}
use Rattle.ppunit.specs.Directives.{at_end}
use Rattle.ppunit.proofs.KeptItems.{leaves_by}

-- ---- without a budget no line ends in fault 35

-- ---- without a budget, there is none afterwards

pub asks_none : (s : State) (line : List Token) (meter_after : Meter) (include_name : Result IncludeName Fault) → s.meter.remaining ≡ None → NamesHeader s line meter_after include_name → meter_after.remaining ≡ None
asks_none s line meter_after include_name is g = still_none (count_names_header s line meter_after include_name g) is (asks_spends s line meter_after include_name g)

pub decides_none : {search : Search} {row : ℕ} {s : State} {line : LogicalLine} {meter_after : Meter} {taken : Result Bool Fault}
    → s.meter.remaining ≡ None
    → Decides search row s line meter_after taken
    → meter_after.remaining ≡ None
decides_none is g = still_none (count_decides g) is (decides_spends g)

pub run_none : (profile : Profile) (s : State) (tokens : List Token) (m : Progress) → s.meter.remaining ≡ None → EmitsText profile s tokens m
    → m.state.meter.remaining ≡ None
run_none profile s tokens m is g =
    ap (λ x. x.state.meter.remaining) g.is
    ∙ still_none (count_expansion g.expands) (none_at_text s.waiting s.meter is) (expansion_spends s.macros s.env g.expands)

control_by_none : (profile : Profile) (row : ℕ) (d : Option Directive) (s : State) (line : LogicalLine) (m : Progress) → s.meter.remaining ≡ None
    → ExecutesDirective profile row d s line m → m.state.meter.remaining ≡ None
control_by_none profile row d s line m is g = still_none (count_control_by profile row d s line m g) is (control_by_spends profile row d s line m g)

module _ (context : Context) where
  mutual
    pub group_none : {depth row : ℕ} {r : Progress} {ps : GroupParts} {end : Progress} → r.state.meter.remaining ≡ None
        → ExecutesGroup context depth row r ps end → end.state.meter.remaining ≡ None
    group_none is ExecutesGroup.already_stopped = is
    group_none is ExecutesGroup.no_parts = is
    group_none is (ExecutesGroup.text_lines {s = s} {lines = lines} {m = m} gives rest) =
        group_none (run_none context.profile s (text_tokens lines) m is gives) rest
    group_none is (ExecutesGroup.control here rest) = group_none (control_none is here) rest
    group_none is (ExecutesGroup.taken decides here rest) = group_none (group_none (decides_none is decides) here) rest
    group_none is (ExecutesGroup.skipped decides here rest) = group_none (branches_none (decides_none is decides) here) rest
    group_none is (ExecutesGroup.condition_fault decides) = decides_none is decides

    pub branches_none : {depth row : ℕ} {s : State} {bs : Branches} {m : Progress} → s.meter.remaining ≡ None → ExecutesBranches context depth row s bs m
        → m.state.meter.remaining ≡ None
    branches_none is ExecutesBranches.no_branch_taken = is
    branches_none is (ExecutesBranches.else_group e here) = group_none is here
    branches_none is (ExecutesBranches.branch_taken e decides here) = group_none (decides_none is decides) here
    branches_none is (ExecutesBranches.branch_skipped e decides rest) = branches_none (decides_none is decides) rest
    branches_none is (ExecutesBranches.branch_condition_fault e decides) = decides_none is decides

    pub control_none : {depth row : ℕ} {s : State} {line : LogicalLine} {m : Progress} → s.meter.remaining ≡ None
        → ExecutesControlLine context depth row s line m → m.state.meter.remaining ≡ None
    control_none is (ExecutesControlLine.error e) = is
    control_none is (ExecutesControlLine.ignored e) = is
    control_none is (ExecutesControlLine.quote_fault e q) = is
    control_none is (ExecutesControlLine.refused e q waits) = is
    control_none {row = row} is (ExecutesControlLine.executed {s = s} {line = line} {m = m} q free does) =
        control_by_none context.profile row line.directive s line m is does
    control_none is (ExecutesControlLine.include e q free here) = includes_none is here

    includes_none : {depth row : ℕ} {following : Option ℕ} {s : State} {line : LogicalLine} {m : Progress} → s.meter.remaining ≡ None
        → ExecutesInclude context depth row following s line m → m.state.meter.remaining ≡ None
    includes_none is (ExecutesInclude.operand_fault {s = s} {line = line} {meter_after = meter_after} {f = f} asks) =
        asks_none s line.tokens meter_after (Err f) is asks
    includes_none is (ExecutesInclude.missing {s = s} {line = line} {meter_after = meter_after} a asks finds) =
        asks_none s line.tokens meter_after (Ok a) is asks
    includes_none is (ExecutesInclude.included {s = s} {line = line} {meter_after = meter_after} a found asks finds opens) =
        opened_none (asks_none s line.tokens meter_after (Ok a) is asks) opens

    pub opened_none : {depth row : ℕ} {how : Opening} {at : Place} {s : State} {m : Progress} → s.meter.remaining ≡ None
        → OpensFile context depth at s row how m → m.state.meter.remaining ≡ None
    opened_none is (OpensFile.too_deep deep) = is
    opened_none is (OpensFile.exhausted fits spent) = is
    opened_none is (OpensFile.not_read_again fits more once) = ap one_less is
    opened_none is (OpensFile.not_readable fits more once file) = ap one_less is
    opened_none is (OpensFile.content_fault fits more once file reads) = ap one_less is
    opened_none {how = how} is (OpensFile.read {s = s} {m = m} fits more once file reads tree here) =
        leaves_by (λ (z : Progress). z.state.meter.remaining ≡ None) s how (at_end m) (λ items. group_none (ap one_less is) here)

  pub defines_none : {defines : List (List ℕ)} {s : State} {m : Progress} → s.meter.remaining ≡ None → Defines context defines s m → m.state.meter.remaining ≡ None
  defines_none is (unread reads) = is
  defines_none is (processed reads tree here) = group_none is here

each_other : (o : Option Fault) → ((f : Fault) → o ≡ Some f → f.number ≢ 35) → IsOther o
each_other None h = tt
each_other (Some f) h = h f refl

-- ---- reading a file: faults 1 to 5

abbrev IsOtherNumber : Option ℕ → Type 0
IsOtherNumber None = Unit {0}
IsOtherNumber (Some n) = n ≢ 35

role_other : (a : Role) (r : LogicalLine) (os : List Open) → IsOtherNumber (after_line a r os).0
role_other (Elses final) r [] = λ e. absurd (omega arith)
role_other (Elses final) r ((o, true) ∷ os) = λ e. absurd (omega arith)
role_other (Elses final) r ((o, false) ∷ os) = tt
role_other Closes r [] = λ e. absurd (omega arith)
role_other Closes r (o ∷ os) = tt
role_other a r os = tt

end_other : (os : List Open) → IsOther (fault_at_end os)
end_other [] = tt
end_other (o ∷ os) = λ e. absurd (omega arith)

or_other : (r : LogicalLine) (n : Option ℕ) (later : Option Fault) → IsOtherNumber n → IsOther later → IsOther (fault_or r n later)
or_other r None later h k = k
or_other r (Some n) later h k = h

groups_other : (os : List Open) (lines : List LogicalLine) → IsOther (group_fault os lines)
groups_other os [] = end_other os
groups_other os (r ∷ rs) = or_other r (after_line (role r) r os).0 _ (role_other (role r) r os) (groups_other (after_line (role r) r os).1 rs)

pub reads_other : {profile : Profile} {file : ℕ} {bytes : List ℕ} {f : Fault} → IsFaultOf profile file bytes f → f.number ≢ 35
reads_other (IsFaultOf.spliced_end e) = λ h. absurd (omega arith)
reads_other (IsFaultOf.open_comment e u) = λ h. absurd (omega arith)
reads_other {profile} (IsFaultOf.bad_groups {lexemes = lexemes} e c g) = subst IsOther g (groups_other [] (lines_of profile lexemes))

-- ---- macro replacement: the faults of expansion

expansion_other : {macros : Macros} {env : Env} {meter : Meter} {tokens : List Token} {e : Expansion} → meter.remaining ≡ None → IsExpansion macros env meter tokens e → IsOther e.fault
expansion_other {macros} {env} {e = e} is x = each_other e.fault (λ f content_fault. expansion_never_refused macros env is x content_fault)

unless_other : (waiting : List Token) (f : Option Fault) → IsOther f → IsOther (fault_unless waiting f)
unless_other [] f h = h
unless_other (t ∷ ts) f h = tt

pub run_other : (profile : Profile) (s : State) (tokens : List Token) (m : Progress) → s.meter.remaining ≡ None → EmitsText profile s tokens m → IsOther m.fault
run_other profile s tokens m is g =
    let waiting : List Token = waits_in profile (open_expansion g.expands) in
    subst (λ r. IsOther r.fault) (sym g.is) (unless_other waiting g.expanded.fault (expansion_other (none_at_text s.waiting s.meter is) g.expands))

-- ---- an invocation that waits: fault 17

refusal_other : (waiting : List Token) (d : Option Directive) (os : List Token) → IsOther (refusal waiting d os)
refusal_other [] d os = tt
refusal_other (t ∷ ts) d os = chosen (is_refused t d os)
  where
    chosen : (b : Bool) → IsOther (if b then Some (waiting_fault t) else None)
    chosen true = λ e. absurd (omega arith)
    chosen false = tt

end_of_file_other : (f : Option Fault) (waiting : List Token) → IsOther f → IsOther (or_fault f (directives.fault_at_end waiting))
end_of_file_other None [] h = tt
end_of_file_other None (t ∷ ts) h = λ e. absurd (omega arith)
end_of_file_other (Some f) waiting h = h

-- ---- lines: faults 7, 30 and those of conditions

pub quote_other : (ts : List Token) → IsOther (unmatched_quote ts)
quote_other [] = tt
quote_other (t ∷ ts) = chosen (is_unmatched_quote t) (quote_other ts)
  where
    chosen : (b : Bool) → IsOther (unmatched_quote ts) → IsOther (if b then Some (fault 7 t.at t.text) else unmatched_quote ts)
    chosen true h = λ e. absurd (omega arith)
    chosen false h = h

by_name_other : (wanted : Bool) (macros : Macros) (line : List Token) (name : Option (List ℕ)) → IsOtherOr (by_name wanted macros line name)
by_name_other wanted macros line None = λ e. absurd (omega arith)
by_name_other wanted macros line (Some name) = tt

by_name_decides : (wanted : Bool) (macros : Macros) (line : List Token) (name : Option (List ℕ)) (f : Fault) → Err f ≡ by_name wanted macros line name → f.number ≢ 35
by_name_decides wanted macros line name f e = subst IsOtherOr (sym e) (by_name_other wanted macros line name)

-- the fault of the result of a line, whose alternatives are not 35
of_result : {A : Type 0} {f : Fault} (r : Result A Fault) → r ≡ Err f → IsOtherOr r → f.number ≢ 35
of_result r is h = subst IsOtherOr is h

asked_or_other : (f : Fault) (a : Option IncludeName) → f.number ≢ 35 → IsOtherOr (name_or f a)
asked_or_other f None h = h
asked_or_other f (Some a) h = tt

asked_behind_other : (f : Fault) (o : Option Fault) (ts : List Token) → f.number ≢ 35 → IsOther o → IsOtherOr (name_of_expansion_or f o ts)
asked_behind_other f (Some g) ts h k = k
asked_behind_other f None ts h k = asked_or_other f (if_possible_name (name_of_expansion ts)) h

asks_by_other : (header : Bool) (name : Option IncludeName) (s : State) (line tokens : List Token) (meter_after : Meter) (f : Fault) → s.meter.remaining ≡ None
    → NamesHeaderBy header name s line tokens meter_after (Err f)
    → f.number ≢ 35
asks_by_other true name s line tokens meter_after f is g = subst IsOtherOr (sym g.1) (asked_or_other (line_fault 30 line []) (if_possible_name name) (λ e. absurd (omega arith)))
asks_by_other false name s line tokens meter_after f is g =
    subst IsOtherOr (sym g.is) (asked_behind_other (line_fault 30 line []) g.expanded.fault g.expanded.tokens (λ e. absurd (omega arith)) (expansion_other is g.expands))

after_first_other : (t : Token) (r : Result (List Token) Fault) → IsOtherOr r → IsOtherOr (after_first t r)
after_first_other t (Err f) h = h
after_first_other t (Ok ts) h = tt

probes_other : {search : Search} {row : ℕ} {line : List Token} {s : State} {ts : List Token} {meter_after : Meter} {tokens : Result (List Token) Fault}
    → s.meter.remaining ≡ None
    → Probes search row line s ts meter_after tokens
    → IsOtherOr tokens
probes_other is Probes.no_tokens = tt
probes_other is (Probes.other {t = t} {tokens = tokens} e rest) = after_first_other t tokens (probes_other is rest)
probes_other is (Probes.unclosed e none) = λ e. absurd (omega arith)
probes_other {line = line} is (Probes.operand_fault {s = s} {ts = ts} {end = end} {meter_after = meter_after} {f = f} e ends names) =
    let operand : List Token = take end (drop 1 ts) in
    asks_by_other (begins_with (codes "<") operand) (name_of_expansion operand) s line operand meter_after f is names
probes_other {search} {row} {line} is (Probes.operator {s = s} {t = t} {ts = ts} {end = end} {meter_between = between} {tokens = tokens} a e ends names rest) =
    let operand : List Token = take end (drop 1 ts) in
    let none : between.remaining ≡ None = still_none (count_names_operand s line operand between (Ok a) names) is (operand_spends s line operand between (Ok a) names) in
    after_first_other (number_for t (has_file search row (directory_before t s.directory) a)) tokens (probes_other none rest)

probes_by_other : (probes : Bool) (search : Search) (row : ℕ) (line : List Token) (s : State) (ts : List Token) (meter_after : Meter) (tokens : Result (List Token) Fault)
    → s.meter.remaining ≡ None
    → ProbesBy probes search row line s ts meter_after tokens
    → IsOtherOr tokens
probes_by_other true search row line s ts meter_after tokens is g = probes_other is g
probes_by_other false search row line s ts meter_after tokens is g = subst IsOtherOr (sym g.1) tt

value_other : {search : Search} {row : ℕ} {s : State} {line : List Token} {meter_after : Meter} {f : Fault} → s.meter.remaining ≡ None
    → DecidesByValue search row s line meter_after (Err f)
    → f.number ≢ 35
value_other {search} {row} {s} {line} {meter_after} is (DecidesByValue.probing_fault {f = g} probes e) =
    of_result (Err g) (sym e) (probes_by_other (is_gnu search.profile) search row line s (operands line) meter_after (Err g) is probes)
value_other {search} {row} {s} {line} is (DecidesByValue.evaluated {tokens = tokens} {meter_between = between} probes condition) =
    condition_never_refused (still_none (count_probes_line search row s line between (Ok tokens) probes) is (probing_spends search row s line between (Ok tokens) probes)) condition

pub decides_other : {search : Search} {row : ℕ} {s : State} {line : LogicalLine} {meter_after : Meter} {f : Fault} → s.meter.remaining ≡ None → Decides search row s line meter_after (Err f) → f.number ≢ 35
decides_other {line = line} is (Decides.unmatched {f = g} q x) = of_result (Err g) (sym x.1) (subst IsOther q (quote_other line.tokens))
decides_other {s = s} {line = line} {f = f} is (Decides.tests_name {wanted = wanted} q n x) = by_name_decides wanted s.macros line.tokens (one_identifier (operands line.tokens)) f x.1
decides_other is (Decides.evaluates q v x) = value_other is x

pub asks_other : (s : State) (line : List Token) (meter_after : Meter) (f : Fault) → s.meter.remaining ≡ None → NamesHeader s line meter_after (Err f) → f.number ≢ 35
asks_other s line meter_after f is g = asks_by_other (begins_with_header (operands line)) (name_of_header (operands line)) s line (operands line) meter_after f is g

pub control_by_other : (profile : Profile) (row : ℕ) (d : Option Directive) (s : State) (line : LogicalLine) (m : Progress) → s.meter.remaining ≡ None → ExecutesDirective profile row d s line m → IsOther m.fault
control_by_other profile row d s line m is g = effect_other (λ tokens x expands. expansion_other is expands) (effect_of profile row d s line m g)

-- ---- without a budget no unit ends in fault 35

never_used_up : (budget : Option ℕ) → budget ≡ None → is_used_up budget ≡ true → ⊥
never_used_up None is e = cc
never_used_up (Some n) is e = absurd (cc)

never_spent : (meter : Meter) → meter.remaining ≡ None → is_exhausted meter ≡ true → ⊥
never_spent meter is e = never_used_up meter.remaining is e

module _ (context : Context) where
  mutual
    group_other : {depth row : ℕ} {r : Progress} {ps : GroupParts} {end : Progress} → r.state.meter.remaining ≡ None → IsOther r.fault → ExecutesGroup context depth row r ps end → IsOther end.fault
    group_other is h ExecutesGroup.already_stopped = h
    group_other is h ExecutesGroup.no_parts = tt
    group_other is h (ExecutesGroup.text_lines {s = s} {lines = lines} {m = m} gives rest) =
        group_other (run_none context.profile s (text_tokens lines) m is gives) (run_other context.profile s (text_tokens lines) m is gives) rest
    group_other is h (ExecutesGroup.control here rest) = group_other (control_none context is here) (control_other is here) rest
    group_other is h (ExecutesGroup.taken decides here rest) =
        let covers = decides_none is decides in
        group_other (group_none context covers here) (group_other covers tt here) rest
    group_other is h (ExecutesGroup.skipped decides here rest) =
        let covers = decides_none is decides in
        group_other (branches_none context covers here) (branches_other covers here) rest
    group_other is h (ExecutesGroup.condition_fault decides) = decides_other is decides

    branches_other : {depth row : ℕ} {s : State} {bs : Branches} {m : Progress} → s.meter.remaining ≡ None → ExecutesBranches context depth row s bs m → IsOther m.fault
    branches_other is ExecutesBranches.no_branch_taken = tt
    branches_other is (ExecutesBranches.else_group e here) = group_other is tt here
    branches_other is (ExecutesBranches.branch_taken e decides here) = group_other (decides_none is decides) tt here
    branches_other is (ExecutesBranches.branch_skipped e decides rest) = branches_other (decides_none is decides) rest
    branches_other is (ExecutesBranches.branch_condition_fault e decides) = decides_other is decides

    control_other : {depth row : ℕ} {s : State} {line : LogicalLine} {m : Progress} → s.meter.remaining ≡ None → ExecutesControlLine context depth row s line m → IsOther m.fault
    control_other is (ExecutesControlLine.error e) = λ h. absurd (omega arith)
    control_other is (ExecutesControlLine.ignored e) = tt
    control_other is (ExecutesControlLine.quote_fault {line = line} e q) = subst IsOther q (quote_other line.tokens)
    control_other is (ExecutesControlLine.refused {s = s} {line = line} e q waits) =
        subst IsOther waits (refusal_other s.waiting line.directive (operands line.tokens))
    control_other {row = row} is (ExecutesControlLine.executed {s = s} {line = line} {m = m} q free does) =
        control_by_other context.profile row line.directive s line m is does
    control_other is (ExecutesControlLine.include e q free here) = includes_other is here

    includes_other : {depth row : ℕ} {following : Option ℕ} {s : State} {line : LogicalLine} {m : Progress} → s.meter.remaining ≡ None → ExecutesInclude context depth row following s line m → IsOther m.fault
    includes_other is (ExecutesInclude.operand_fault {s = s} {line = line} {meter_after = meter_after} {f = f} asks) = asks_other s line.tokens meter_after f is asks
    includes_other is (ExecutesInclude.missing a asks finds) = λ h. absurd (omega arith)
    includes_other is (ExecutesInclude.included {s = s} {line = line} {meter_after = meter_after} a found asks finds opens) =
        opened_other (asks_none s line.tokens meter_after (Ok a) is asks) opens

    opened_other : {depth row : ℕ} {how : Opening} {at : Place} {s : State} {m : Progress} → s.meter.remaining ≡ None → OpensFile context depth at s row how m → IsOther m.fault
    opened_other is (OpensFile.too_deep deep) = λ e. absurd (omega arith)
    opened_other is (OpensFile.exhausted {s = s} fits spent) = absurd (never_spent s.meter is spent)
    opened_other is (OpensFile.not_read_again fits more once) = tt
    opened_other is (OpensFile.not_readable fits more once file) = λ e. absurd (omega arith)
    opened_other is (OpensFile.content_fault fits more once file reads) = reads_other reads
    opened_other {how = how} is (OpensFile.read {s = s} {m = m} fits more once file reads tree here) =
        leaves_by (λ (z : Progress). IsOther z.fault) s how (at_end m) (λ items. end_of_file_other m.fault m.state.waiting (group_other (ap one_less is) tt here))

  defines_other : {defines : List (List ℕ)} {s : State} {m : Progress} → s.meter.remaining ≡ None → Defines context defines s m → IsOther m.fault
  defines_other is (unread reads) = reads_other reads
  defines_other is (processed {m = m} reads tree here) = end_of_file_other m.fault m.state.waiting (group_other is tt here)

  first_other : {main number : ℕ} {s : State} {files : List FirstFile} {m : Progress} → s.meter.remaining ≡ None → OpensFirst context main number s files m → IsOther m.fault
  first_other is all_read = tt
  first_other is (first_fault opens) = opened_other is opens
  first_other is (first_read opens rest) = first_other (opened_none context is opens) rest

  first_none : {main number : ℕ} {s : State} {files : List FirstFile} {m : Progress} → s.meter.remaining ≡ None → OpensFirst context main number s files m → m.state.meter.remaining ≡ None
  first_none is all_read = is
  first_none is (first_fault opens) = opened_none context is opens
  first_none is (first_read opens rest) = first_none (opened_none context is opens) rest

  named_none : (unit : UnitOfList) (s : State) → s.meter.remaining ≡ None → (before_first unit.file (main_name context.names unit) unit.first s).meter.remaining ≡ None
  named_none unit s is = ap (λ (z : Meter). z.remaining) (named_spends context unit.file (main_name context.names unit) unit.first s) ∙ is

  unit_other : {unit : UnitOfList} {s : State} {m : Progress} → s.meter.remaining ≡ None → Translates context unit s m → IsOther m.fault
  unit_other is (definitions_fault here) = defines_other is here
  unit_other {unit} is (fault_before_main {t = t} here first) = first_other (named_none unit t (defines_none context is here)) first
  unit_other {unit} is (translated {t = t} here first opens) = opened_other (first_none (named_none unit t (defines_none context is here)) first) opens

never : (o : Option Fault) (f : Fault) → o ≡ Some f → IsOther o → f.number ≢ 35
never o f is h = subst IsOther is h

pub never_refused : OnlyBudgetsRefuse
never_refused names files setting unit out budget p h =
    never p.progress.fault h.0 (sym (ap (λ o. o.fault) p.is_output) ∙ h.1) (unit_other (context_of_unit names files setting unit) budget p.translates) h.2
