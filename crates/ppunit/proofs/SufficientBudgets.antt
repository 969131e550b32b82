-- Lines, groups and units have the same effect with any sufficient budget, and leave the rest of the budget.
use Rattle.std.proofs.Common.{◌≡◌, ℕ, zero, suc, ◌+◌, List, [], ◌∷◌, take, drop, codes, Bool, true, false, Option, Some, None, Result, Ok, Err, refl, ap, ◌∙◌, subst, arith, sym, length}
use Rattle.pptext.specs.declared.tokens.Place.{Place}
use Rattle.pptext.specs.declared.tokens.Token.{Token}
use Rattle.pptext.specs.declared.tokens.Fault.{Fault}
use Rattle.pptext.specs.declared.sources.Directive.{Directive}
use Rattle.pptext.specs.declared.sources.Profile.{Profile}
use Rattle.pptext.specs.Profiles.{is_gnu}
use Rattle.pptext.specs.Lines.{LogicalLine}
use Rattle.pptext.specs.Tree.{GroupParts, Branches, Done, End}
use Rattle.ppexpand.specs.Expansion.{Expansion, count_expansion}
use Rattle.ppexpand.specs.OpenInvocations.{open_expansion}
use Rattle.ppexpand.specs.Budget.{with_budget, is_exhausted, is_used_up}
use Rattle.ppexpand.proofs.BudgetLemmas.{Covers, larger, covers_rest, expansion_enough, without, covers_less}
use Rattle.ppexpr.specs.Conditions.{count_condition}
use Rattle.ppexpr.proofs.ConditionBudgets.{condition_enough}
use Rattle.ppunit.specs.States.{State, Progress, with_meter, Search, Context, running, stopped, Opening, file_context, in_file_context, resumed_by, resumed}
use Rattle.ppunit.specs.DirectiveLines.{operands, text_tokens, line_fault}
use Rattle.ppunit.specs.Including.{IncludeName, begins_with_header, name_of_header, name_of_expansion}
use Rattle.ppunit.specs.Conditions.{Decides, DecidesByValue}
use Rattle.ppunit.specs.Probing.{begins_with, NamesOperand, Probes, ProbesBy, ProbesLine}
use Rattle.ppunit.specs.Directives.{meter_at_text, waits_in, text_emitted, EmitsText, NamesHeaderBy, NamesHeader, ExecutesDirective}
use Rattle.ppunit.specs.Counts.{count_decides, count_names_header_by, count_names_header, count_control_by, count_group, count_branches, count_control, count_includes, count_opening}
use Rattle.ppunit.specs.Counts.{count_names_operand, count_probes, count_probes_by, count_probes_line, count_value}
use Rattle.ppunit.proofs.BudgetSums.{asks_spends, decides_spends, count_run, run_spends, group_spends, branches_spend, control_spends, defines_spends, opened_spends, before_main_spends, before_main_waits, operand_spends, probing_spends}
use Rattle.ppunit.proofs.WaitingInvocations.{WaitsIn, run_waits, group_waits, branches_waits, control_waits, defines_waits, opened_waits, named_waits}
use Rattle.ppunit.proofs.TextBudgets.{counts_before, budget_at_text, covers_at_text, sum_at_text, expands_at_text, same_open}
use Rattle.ppunit.specs.code.Effects.{affected, HasEffect}
use Rattle.ppunit.proofs.DirectiveEffects.{effect_of, executes, count_effect, same_count, effect_of_any_meter, tokens_of_any_meter, expanding_of_any_meter}
use Rattle.pptext.specs.Tokens.{fault}
use Rattle.ppexpand.specs.declared.meter.Meter.{Meter}
use Rattle.ppunit.specs.Group.{ExecutesGroup, ExecutesBranches, ExecutesControlLine, ExecutesInclude, OpensFile}
use Rattle.ppunit.specs.Unit.{Defines, unread, processed, Translates, definitions_fault, translated, count_defines, count_translates, OpensFirst, all_read, first_fault, first_read, before_first, main_name, fault_before_main, count_first}
use Rattle.ppunit.specs.declared.units.FirstFile.{FirstFile}
use Rattle.ppunit.specs.declared.units.Unit.{Unit as UnitOfList}
use Rattle.ppunit.specs.declared.states.Resumption.{Resumption}
use Rattle.ppunit.specs.Directives.{at_end}

-- ---- a line has the same effect with any sufficient budget, and leaves the rest of the budget

-- the state with a budget of n
abbrev pub budgeted : State → ℕ → State
budgeted s n = with_meter s (with_budget (Some n) s.meter)

-- the same outcome with a budget of n
abbrev pub holding : ℕ → Progress → Progress
holding n r = record r { state = budgeted r.state n }

-- the including file goes on, whatever the budget is
resumed_by_holding : (r : Resumption) (n : ℕ) (s : State) (f : Option Fault) → resumed_by r (budgeted s n) f ≡ holding n (resumed_by r s f)
resumed_by_holding r n s None = refl
resumed_by_holding r n s (Some f) = refl

resumed_holding : (r : Option Resumption) (n : ℕ) (m : Progress) → resumed r (holding n m) ≡ holding n (resumed r m)
resumed_holding None n m = refl
resumed_holding (Some r) n m = resumed_by_holding r n m.state m.fault

same_rest : (n b : ℕ) (meter meter_after : Meter) → n ≡ b → meter_after ≡ meter → with_budget (Some n) meter_after ≡ with_budget (Some b) meter
same_rest n b meter meter_after e f = λ i. with_budget (Some (e i)) (f i)

pub run_enough : (profile : Profile) (s : State) (tokens : List Token) (m : Progress) (b : ℕ) → Covers s.meter.remaining b
    → WaitsIn s
    → (g : EmitsText profile s tokens m) (n : ℕ)
    → b ≡ count_run g + n
    → EmitsText profile (budgeted s b) tokens (holding n m)
run_enough profile s tokens m b is w g n sum =
    let at_text : ℕ = budget_at_text s.waiting b in
    let covers : Covers (meter_at_text s.waiting s.meter).remaining at_text = covers_at_text s.waiting b s.meter is in
    let all : at_text ≡ count_expansion g.expands + n = sum_at_text s.waiting b (count_expansion g.expands) n (counts_before s.meter tokens w g.expands) sum in
    let whole : Expansion = record g.expanded { meter = with_budget (Some n) g.expanded.meter } in
    let x = expansion_enough s.macros s.env at_text covers g.expands n all in
    let y = expands_at_text s.macros s.env s.waiting tokens b s.meter whole x in
    let same : open_expansion y.expands ≡ open_expansion g.expands = y.leaves_open ∙ same_open s.macros s.env at_text covers g.expands n all x in
    record { expanded = whole; expands = y.expands; is = ap (holding n) g.is ∙ ap (λ ts. text_emitted (budgeted s b) whole (waits_in profile ts)) (sym same) }

asks_by_enough : (header : Bool) (name : Option IncludeName) (s : State) (line tokens : List Token) (meter_after : Meter) (include_name : Result IncludeName Fault) (b : ℕ) → Covers s.meter.remaining b
    → (g : NamesHeaderBy header name s line tokens meter_after include_name) (n : ℕ)
    → b ≡ count_names_header_by header name s line tokens meter_after include_name g + n
    → NamesHeaderBy header name (budgeted s b) line tokens (with_budget (Some n) meter_after) include_name
asks_by_enough true name s line tokens meter_after include_name b is g n sum = (same_rest n b s.meter meter_after (omega arith) g.0, g.1)
asks_by_enough false name s line tokens meter_after include_name b is g n sum = record {
  expanded = record g.expanded { meter = with_budget (Some n) g.expanded.meter };
  expands = expansion_enough s.macros s.env b is g.expands n sum;
  leaves = ap (with_budget (Some n)) g.leaves;
  is = g.is;
}

pub asks_enough : (s : State) (line : List Token) (meter_after : Meter) (include_name : Result IncludeName Fault) (b : ℕ) → Covers s.meter.remaining b
    → (g : NamesHeader s line meter_after include_name) (n : ℕ)
    → b ≡ count_names_header s line meter_after include_name g + n
    → NamesHeader (budgeted s b) line (with_budget (Some n) meter_after) include_name
asks_enough s line meter_after include_name b is g n sum =
    asks_by_enough (begins_with_header (operands line)) (name_of_header (operands line)) s line (operands line) meter_after include_name b is g n sum

pub operand_enough : (s : State) (line operand : List Token) (meter_after : Meter) (include_name : Result IncludeName Fault) (b : ℕ) → Covers s.meter.remaining b
    → (g : NamesOperand s line operand meter_after include_name) (n : ℕ)
    → b ≡ count_names_operand s line operand meter_after include_name g + n
    → NamesOperand (budgeted s b) line operand (with_budget (Some n) meter_after) include_name
operand_enough s line operand meter_after include_name b is g n sum =
    asks_by_enough (begins_with (codes "<") operand) (name_of_expansion operand) s line operand meter_after include_name b is g n sum

-- If the budget covers the count of an operand and m more, the remaining budget covers m.
pub operand_rest : (s : State) (line operand : List Token) (meter_after : Meter) (include_name : Result IncludeName Fault) (b m : ℕ) → Covers s.meter.remaining b
    → (g : NamesOperand s line operand meter_after include_name)
    → b ≡ count_names_operand s line operand meter_after include_name g + m
    → Covers meter_after.remaining m
operand_rest s line operand meter_after include_name b m is g sum =
    covers_rest meter_after.remaining (count_names_operand s line operand meter_after include_name g) m is (operand_spends s line operand meter_after include_name g) sum

pub probes_enough : {search : Search} {row : ℕ} {line : List Token} {s : State} {ts : List Token} {meter_after : Meter} {tokens : Result (List Token) Fault} (b : ℕ) → Covers s.meter.remaining b
    → (g : Probes search row line s ts meter_after tokens) (n : ℕ)
    → b ≡ count_probes g + n
    → Probes search row line (budgeted s b) ts (with_budget (Some n) meter_after) tokens
probes_enough {search} {row} {line} b is (Probes.no_tokens {s = s}) n sum =
    let same : b ≡ n = omega arith in
    subst (λ (k : ℕ). Probes search row line (budgeted s b) [] (with_budget (Some k) s.meter) (Ok [])) same Probes.no_tokens
probes_enough b is (Probes.other e rest) n sum = Probes.other e (probes_enough b is rest n sum)
probes_enough {search} {row} {line} b is (Probes.unclosed {s = s} {t = t} {ts = ts} e none) n sum =
    let same : b ≡ n = omega arith in
    subst (λ (k : ℕ). Probes search row line (budgeted s b) (t ∷ ts) (with_budget (Some k) s.meter) (Err (line_fault 30 line []))) same (Probes.unclosed e none)
probes_enough {line = line} b is (Probes.operand_fault {s = s} {ts = ts} {end = end} {meter_after = meter_after} {f = f} e ends names) n sum =
    Probes.operand_fault e ends (operand_enough s line (take end (drop 1 ts)) meter_after (Err f) b is names n sum)
probes_enough {line = line} b is (Probes.operator {s = s} {ts = ts} {end = end} {meter_between = between} a e ends names rest) n sum =
    let operand : List Token = take end (drop 1 ts) in
    let more : ℕ = count_probes rest + n in
    let all : b ≡ count_names_operand s line operand between (Ok a) names + more = omega arith in
    let covers = operand_rest s line operand between (Ok a) b more is names all in
    Probes.operator a e ends (operand_enough s line operand between (Ok a) b is names more all) (probes_enough more covers rest n refl)

probes_by_enough : (probes : Bool) (search : Search) (row : ℕ) (line : List Token) (s : State) (ts : List Token) (meter_after : Meter) (tokens : Result (List Token) Fault) (b : ℕ)
    → Covers s.meter.remaining b
    → (g : ProbesBy probes search row line s ts meter_after tokens) (n : ℕ)
    → b ≡ count_probes_by probes search row line s ts meter_after tokens g + n
    → ProbesBy probes search row line (budgeted s b) ts (with_budget (Some n) meter_after) tokens
probes_by_enough true search row line s ts meter_after tokens b is g n sum = probes_enough b is g n sum
probes_by_enough false search row line s ts meter_after tokens b is g n sum = (same_rest n b s.meter meter_after (omega arith) g.0, g.1)

pub probing_enough : (search : Search) (row : ℕ) (s : State) (line : List Token) (meter_after : Meter) (tokens : Result (List Token) Fault) (b : ℕ) → Covers s.meter.remaining b
    → (g : ProbesLine search row s line meter_after tokens) (n : ℕ)
    → b ≡ count_probes_line search row s line meter_after tokens g + n
    → ProbesLine search row (budgeted s b) line (with_budget (Some n) meter_after) tokens
probing_enough search row s line meter_after tokens b is g n sum =
    probes_by_enough (is_gnu search.profile) search row line s (operands line) meter_after tokens b is g n sum

pub probing_rest : (search : Search) (row : ℕ) (s : State) (line : List Token) (meter_after : Meter) (tokens : Result (List Token) Fault) (b m : ℕ) → Covers s.meter.remaining b
    → (g : ProbesLine search row s line meter_after tokens)
    → b ≡ count_probes_line search row s line meter_after tokens g + m
    → Covers meter_after.remaining m
probing_rest search row s line meter_after tokens b m is g sum =
    covers_rest meter_after.remaining (count_probes_line search row s line meter_after tokens g) m is (probing_spends search row s line meter_after tokens g) sum

value_enough : {search : Search} {row : ℕ} {s : State} {line : List Token} {meter_after : Meter} {taken : Result Bool Fault} (b : ℕ) → Covers s.meter.remaining b
    → (g : DecidesByValue search row s line meter_after taken) (n : ℕ)
    → b ≡ count_value g + n
    → DecidesByValue search row (budgeted s b) line (with_budget (Some n) meter_after) taken
value_enough {search} {row} {s} {line} {meter_after} b is (DecidesByValue.probing_fault {f = f} probes e) n sum =
    DecidesByValue.probing_fault (probing_enough search row s line meter_after (Err f) b is probes n sum) e
value_enough {search} {row} {s} {line} b is (DecidesByValue.evaluated {tokens = tokens} {meter_between = between} probes condition) n sum =
    let more : ℕ = count_condition condition + n in
    let all : b ≡ count_probes_line search row s line between (Ok tokens) probes + more = omega arith in
    let covers = probing_rest search row s line between (Ok tokens) b more is probes all in
    DecidesByValue.evaluated (probing_enough search row s line between (Ok tokens) b is probes more all) (condition_enough more covers condition n refl)

pub decides_enough : {search : Search} {row : ℕ} {s : State} {line : LogicalLine} {meter_after : Meter} {taken : Result Bool Fault} (b : ℕ) → Covers s.meter.remaining b
    → (g : Decides search row s line meter_after taken) (n : ℕ)
    → b ≡ count_decides g + n
    → Decides search row (budgeted s b) line (with_budget (Some n) meter_after) taken
decides_enough {s = s} {meter_after = meter_after} b is (Decides.unmatched q x) n sum = Decides.unmatched q (same_rest n b s.meter meter_after (omega arith) x.0, x.1)
decides_enough {s = s} {meter_after = meter_after} b is (Decides.tests_name q m x) n sum = Decides.tests_name q m (same_rest n b s.meter meter_after (omega arith) x.0, x.1)
decides_enough b is (Decides.evaluates q v x) n sum = Decides.evaluates q v (value_enough b is x n sum)

effect_enough : (profile : Profile) (row : ℕ) (d : Option Directive) (s : State) (line : LogicalLine) (m : Progress) (b : ℕ) → Covers s.meter.remaining b
    → (e : HasEffect profile row d s line m) (n : ℕ)
    → b ≡ count_effect e + n
    → HasEffect profile row d (budgeted s b) line (holding n m)
effect_enough profile row d s line m b is (HasEffect.immediate {e = e} does gives) n sum =
    let same : n ≡ b = omega arith in
    HasEffect.immediate (effect_of_any_meter profile row d s line (with_budget (Some b) s.meter) ∙ does) (ap (holding n) gives ∙ ap (λ x. affected (budgeted s x) e) same)
effect_enough profile row d s line m b is (HasEffect.expanding x does expands gives) n sum =
    HasEffect.expanding (record x { meter = with_budget (Some n) x.meter }) (tokens_of_any_meter profile d s line (with_budget (Some b) s.meter) ∙ does) (expansion_enough s.macros s.env b is expands n sum)
    (ap (holding n) gives ∙ ap (affected (with_meter s (with_budget (Some n) x.meter))) (expanding_of_any_meter d s row line x.fault x.tokens (with_budget (Some b) s.meter)))

pub control_by_enough : (profile : Profile) (row : ℕ) (d : Option Directive) (s : State) (line : LogicalLine) (m : Progress) (b : ℕ) → Covers s.meter.remaining b
    → (g : ExecutesDirective profile row d s line m) (n : ℕ)
    → b ≡ count_control_by profile row d s line m g + n
    → ExecutesDirective profile row d (budgeted s b) line (holding n m)
control_by_enough profile row d s line m b is g n sum =
    executes profile row d (budgeted s b) line (holding n m)
    (effect_enough profile row d s line m b is (effect_of profile row d s line m g) n (sum ∙ ap (λ k. k + n) (same_count profile row d s line m g)))

-- If the budget covers the count of a line and m more, the remaining budget covers m.
pub asks_rest : (s : State) (line : List Token) (meter_after : Meter) (include_name : Result IncludeName Fault) (b m : ℕ) → Covers s.meter.remaining b
    → (g : NamesHeader s line meter_after include_name)
    → b ≡ count_names_header s line meter_after include_name g + m
    → Covers meter_after.remaining m
asks_rest s line meter_after include_name b m is g sum =
    covers_rest meter_after.remaining (count_names_header s line meter_after include_name g) m is (asks_spends s line meter_after include_name g) sum

pub decides_rest : {search : Search} {row : ℕ} {s : State} {line : LogicalLine} {meter_after : Meter} {taken : Result Bool Fault} (b m : ℕ) → Covers s.meter.remaining b
    → (g : Decides search row s line meter_after taken)
    → b ≡ count_decides g + m
    → Covers meter_after.remaining m
decides_rest {meter_after = meter_after} b m is g sum = covers_rest meter_after.remaining (count_decides g) m is (decides_spends g) sum

pub run_rest : (profile : Profile) (s : State) (tokens : List Token) (r : Progress) (b m : ℕ) → Covers s.meter.remaining b
    → WaitsIn s
    → (g : EmitsText profile s tokens r)
    → b ≡ count_run g + m
    → Covers r.state.meter.remaining m
run_rest profile s tokens r b m is w g sum = covers_rest r.state.meter.remaining (count_run g) m is (run_spends profile s tokens r w g) sum

covered_budget : (budget : Option ℕ) (b : ℕ) → Covers budget (suc b) → is_used_up budget ≡ true → ⊥
covered_budget None b is e = absurd (cc)
covered_budget (Some zero) b (larger low) e = absurd (omega arith)
covered_budget (Some (suc n)) b is e = absurd (cc)

pub covered : (meter : Meter) (b : ℕ) → Covers meter.remaining (suc b) → is_exhausted meter ≡ true → ⊥
covered meter b is e = covered_budget meter.remaining b is e

-- ---- groups and units have the same effect with any sufficient budget, and leave the rest of the budget

module _ (context : Context) where
  pub group_rest : {depth row : ℕ} {r : Progress} {ps : GroupParts} {end : Progress} (b m : ℕ) → Covers r.state.meter.remaining b
      → WaitsIn r.state
      → (d : ExecutesGroup context depth row r ps end)
      → b ≡ count_group d + m
      → Covers end.state.meter.remaining m
  group_rest {end = end} b m is w d sum = covers_rest end.state.meter.remaining (count_group d) m is (group_spends context w d) sum

  pub branches_rest : {depth row : ℕ} {s : State} {bs : Branches} {r : Progress} (b m : ℕ) → Covers s.meter.remaining b
      → WaitsIn s
      → (d : ExecutesBranches context depth row s bs r)
      → b ≡ count_branches d + m
      → Covers r.state.meter.remaining m
  branches_rest {r = r} b m is w d sum = covers_rest r.state.meter.remaining (count_branches d) m is (branches_spend context w d) sum

  pub control_rest : {depth row : ℕ} {s : State} {line : LogicalLine} {r : Progress} (b m : ℕ) → Covers s.meter.remaining b
      → WaitsIn s
      → (d : ExecutesControlLine context depth row s line r)
      → b ≡ count_control d + m
      → Covers r.state.meter.remaining m
  control_rest {r = r} b m is w d sum = covers_rest r.state.meter.remaining (count_control d) m is (control_spends context w d) sum

  pub defines_rest : {defines : List (List ℕ)} {s : State} {r : Progress} (b m : ℕ) → Covers s.meter.remaining b
      → WaitsIn s
      → (d : Defines context defines s r)
      → b ≡ count_defines d + m
      → Covers r.state.meter.remaining m
  defines_rest {r = r} b m is w d sum = covers_rest r.state.meter.remaining (count_defines d) m is (defines_spends context w d) sum

  pub opened_rest : {depth row : ℕ} {how : Opening} {at : Place} {s : State} {r : Progress} (b m : ℕ) → Covers s.meter.remaining b
      → WaitsIn s
      → (d : OpensFile context depth at s row how r)
      → b ≡ count_opening d + m
      → Covers r.state.meter.remaining m
  opened_rest {r = r} b m is w d sum = covers_rest r.state.meter.remaining (count_opening d) m is (opened_spends context w d) sum

  pub before_main_rest : (unit : UnitOfList) (s : State) {r : Progress} (b m : ℕ) → Covers s.meter.remaining b
      → WaitsIn s
      → (d : OpensFirst context unit.file (suc (length unit.defines.texts)) (before_first unit.file (main_name context.names unit) unit.first s) unit.first r)
      → b ≡ count_first d + m
      → Covers r.state.meter.remaining m
  before_main_rest unit s {r = r} b m is w d sum = covers_rest r.state.meter.remaining (count_first d) m is (before_main_spends context unit s w d) sum

  mutual
    pub group_enough : {depth row : ℕ} {r : Progress} {ps : GroupParts} {end : Progress} (b : ℕ) → Covers r.state.meter.remaining b
        → WaitsIn r.state
        → (d : ExecutesGroup context depth row r ps end) (n : ℕ)
        → b ≡ count_group d + n
        → ExecutesGroup context depth row (holding b r) ps (holding n end)
    group_enough {depth} {row} {r} {ps} b is w (ExecutesGroup.already_stopped {s = s} {f = f}) n sum =
        let same : b ≡ n = omega arith in
        subst (λ x. ExecutesGroup context depth row (holding b (stopped s f)) ps (holding x (stopped s f))) same ExecutesGroup.already_stopped
    group_enough {depth} {row} b is w (ExecutesGroup.no_parts {s = s}) n sum =
        let same : b ≡ n = omega arith in
        subst (λ x. ExecutesGroup context depth row (holding b (running s)) Done (holding x (running s))) same ExecutesGroup.no_parts
    group_enough b is w (ExecutesGroup.text_lines {s = s} {lines = lines} {m = m} gives rest) n sum =
        let k = count_group rest in
        let next = run_waits context.profile s (text_tokens lines) m gives in
        ExecutesGroup.text_lines (run_enough context.profile s (text_tokens lines) m b is w gives (k + n) (omega arith))
        (group_enough (k + n) (run_rest context.profile s (text_tokens lines) m b (k + n) is w gives (omega arith)) next rest n refl)
    group_enough b is w (ExecutesGroup.control here rest) n sum =
        let k = count_group rest in
        ExecutesGroup.control (control_enough b is w here (k + n) (omega arith))
        (group_enough (k + n) (control_rest b (k + n) is w here (omega arith)) (control_waits context w here) rest n refl)
    group_enough b is w (ExecutesGroup.taken decides here rest) n sum =
        let j = count_group here in
        let k = count_group rest in
        let covers = decides_rest b (j + (k + n)) is decides (omega arith) in
        ExecutesGroup.taken (decides_enough b is decides (j + (k + n)) (omega arith)) (group_enough (j + (k + n)) covers w here (k + n) refl)
        (group_enough (k + n) (group_rest (j + (k + n)) (k + n) covers w here refl) (group_waits context w here) rest n refl)
    group_enough b is w (ExecutesGroup.skipped decides here rest) n sum =
        let j = count_branches here in
        let k = count_group rest in
        let covers = decides_rest b (j + (k + n)) is decides (omega arith) in
        ExecutesGroup.skipped (decides_enough b is decides (j + (k + n)) (omega arith))
        (branches_enough (j + (k + n)) covers w here (k + n) refl)
        (group_enough (k + n) (branches_rest (j + (k + n)) (k + n) covers w here refl) (branches_waits context w here) rest n refl)
    group_enough b is w (ExecutesGroup.condition_fault decides) n sum = ExecutesGroup.condition_fault (decides_enough b is decides n sum)

    pub branches_enough : {depth row : ℕ} {s : State} {bs : Branches} {m : Progress} (b : ℕ) → Covers s.meter.remaining b
        → WaitsIn s
        → (d : ExecutesBranches context depth row s bs m) (n : ℕ)
        → b ≡ count_branches d + n
        → ExecutesBranches context depth row (budgeted s b) bs (holding n m)
    branches_enough {depth} {row} b is w (ExecutesBranches.no_branch_taken {s = s} {line = line}) n sum =
        let same : b ≡ n = omega arith in
        subst (λ x. ExecutesBranches context depth row (budgeted s b) (End line) (holding x (running s))) same ExecutesBranches.no_branch_taken
    branches_enough b is w (ExecutesBranches.else_group e here) n sum = ExecutesBranches.else_group e (group_enough b is w here n sum)
    branches_enough b is w (ExecutesBranches.branch_taken e decides here) n sum =
        let j = count_group here in
        ExecutesBranches.branch_taken e (decides_enough b is decides (j + n) (omega arith))
        (group_enough (j + n) (decides_rest b (j + n) is decides (omega arith)) w here n refl)
    branches_enough b is w (ExecutesBranches.branch_skipped e decides rest) n sum =
        let j = count_branches rest in
        ExecutesBranches.branch_skipped e (decides_enough b is decides (j + n) (omega arith))
        (branches_enough (j + n) (decides_rest b (j + n) is decides (omega arith)) w rest n refl)
    branches_enough b is w (ExecutesBranches.branch_condition_fault e decides) n sum =
        ExecutesBranches.branch_condition_fault e (decides_enough b is decides n sum)

    pub control_enough : {depth row : ℕ} {s : State} {line : LogicalLine} {m : Progress} (b : ℕ) → Covers s.meter.remaining b
        → WaitsIn s
        → (d : ExecutesControlLine context depth row s line m) (n : ℕ)
        → b ≡ count_control d + n
        → ExecutesControlLine context depth row (budgeted s b) line (holding n m)
    control_enough {depth} {row} {s} {line} {m} b is w (ExecutesControlLine.error e) n sum =
        let same : b ≡ n = omega arith in
        subst (λ x. ExecutesControlLine context depth row (budgeted s b) line (holding x m)) same (ExecutesControlLine.error e)
    control_enough {depth} {row} {s} {line} {m} b is w (ExecutesControlLine.ignored e) n sum =
        let same : b ≡ n = omega arith in
        subst (λ x. ExecutesControlLine context depth row (budgeted s b) line (holding x m)) same (ExecutesControlLine.ignored e)
    control_enough {depth} {row} {s} {line} {m} b is w (ExecutesControlLine.quote_fault e q) n sum =
        let same : b ≡ n = omega arith in
        subst (λ x. ExecutesControlLine context depth row (budgeted s b) line (holding x m)) same (ExecutesControlLine.quote_fault e q)
    control_enough {depth} {row} {s} {line} {m} b is w (ExecutesControlLine.refused e q waits) n sum =
        let same : b ≡ n = omega arith in
        subst (λ x. ExecutesControlLine context depth row (budgeted s b) line (holding x m)) same (ExecutesControlLine.refused e q waits)
    control_enough {row = row} b is w (ExecutesControlLine.executed {s = s} {line = line} {m = m} q free does) n sum =
        ExecutesControlLine.executed q free (control_by_enough context.profile row line.directive s line m b is does n sum)
    control_enough b is w (ExecutesControlLine.include e q free here) n sum = ExecutesControlLine.include e q free (includes_enough b is w here n sum)

    includes_enough : {depth row : ℕ} {following : Option ℕ} {s : State} {line : LogicalLine} {m : Progress} (b : ℕ) → Covers s.meter.remaining b
        → WaitsIn s
        → (d : ExecutesInclude context depth row following s line m) (n : ℕ)
        → b ≡ count_includes d + n
        → ExecutesInclude context depth row following (budgeted s b) line (holding n m)
    includes_enough b is w (ExecutesInclude.operand_fault {s = s} {line = line} {meter_after = meter_after} {f = f} asks) n sum =
        ExecutesInclude.operand_fault (asks_enough s line.tokens meter_after (Err f) b is asks n sum)
    includes_enough b is w (ExecutesInclude.missing {s = s} {line = line} {meter_after = meter_after} a asks finds) n sum =
        ExecutesInclude.missing a (asks_enough s line.tokens meter_after (Ok a) b is asks n sum) finds
    includes_enough b is w (ExecutesInclude.included {s = s} {line = line} {meter_after = meter_after} a found asks finds opens) n sum =
        let j = count_opening opens in
        ExecutesInclude.included a found (asks_enough s line.tokens meter_after (Ok a) b is asks (j + n) (omega arith)) finds
        (opened_enough (j + n) (asks_rest s line.tokens meter_after (Ok a) b (j + n) is asks (omega arith)) w opens n refl)

    pub opened_enough : {depth row : ℕ} {how : Opening} {at : Place} {s : State} {m : Progress} (b : ℕ) → Covers s.meter.remaining b
        → WaitsIn s
        → (d : OpensFile context depth at s row how m) (n : ℕ)
        → b ≡ count_opening d + n
        → OpensFile context depth at (budgeted s b) row how (holding n m)
    opened_enough {depth} {row} {how} {at} {s} {m} b is w (OpensFile.too_deep deep) n sum =
        let same : b ≡ n = omega arith in
        subst (λ x. OpensFile context depth at (budgeted s b) row how (holding x m)) same (OpensFile.too_deep deep)
    opened_enough {depth} {row} {how} {at} {s} zero is w (OpensFile.exhausted fits spent) n sum =
        let same : 0 ≡ n = omega arith in
        subst (λ x. OpensFile context depth at (budgeted s 0) row how (holding x (stopped s (fault 35 at [])))) same (OpensFile.exhausted fits refl)
    opened_enough (suc b) is w (OpensFile.exhausted {s = s} fits spent) n sum = absurd (covered s.meter b is spent)
    opened_enough zero is w (OpensFile.not_read_again fits more once) n sum = absurd (omega arith)
    opened_enough {depth} {row} {how} {at} {s} {m} (suc b) is w (OpensFile.not_read_again fits more once) n sum =
        let same : b ≡ n = omega arith in
        subst (λ x. OpensFile context depth at (budgeted s (suc b)) row how (holding x m)) same (OpensFile.not_read_again fits refl once)
    opened_enough zero is w (OpensFile.not_readable fits more once file) n sum = absurd (omega arith)
    opened_enough {depth} {row} {how} {at} {s} {m} (suc b) is w (OpensFile.not_readable fits more once file) n sum =
        let same : b ≡ n = omega arith in
        subst (λ x. OpensFile context depth at (budgeted s (suc b)) row how (holding x m)) same (OpensFile.not_readable fits refl once file)
    opened_enough zero is w (OpensFile.content_fault fits more once file reads) n sum = absurd (omega arith)
    opened_enough {depth} {row} {how} {at} {s} {m} (suc b) is w (OpensFile.content_fault fits more once file reads) n sum =
        let same : b ≡ n = omega arith in
        subst (λ x. OpensFile context depth at (budgeted s (suc b)) row how (holding x m)) same (OpensFile.content_fault fits refl once file reads)
    opened_enough zero is w (OpensFile.read fits more once file reads tree here) n sum = absurd (omega arith)
    opened_enough {depth} {row} {how} {at} (suc b) is w (OpensFile.read {s = s} {m = m} fits more once file reads tree here) n sum =
        subst (λ (z : Progress). OpensFile context depth at (budgeted s (suc b)) row how z)
        (resumed_holding how.resumption n (record { state = in_file_context (file_context s) (at_end m).state; fault = (at_end m).fault }))
        (OpensFile.read fits refl once file reads tree (group_enough b (covers_less is) w here n (omega arith)))

  pub defines_enough : {defines : List (List ℕ)} {s : State} {m : Progress} (b : ℕ) → Covers s.meter.remaining b
      → WaitsIn s
      → (d : Defines context defines s m) (n : ℕ)
      → b ≡ count_defines d + n
      → Defines context defines (budgeted s b) (holding n m)
  defines_enough {defines} {s} {m} b is w (unread reads) n sum =
      let same : b ≡ n = omega arith in
      subst (λ x. Defines context defines (budgeted s b) (holding x m)) same (unread reads)
  defines_enough b is w (processed reads tree here) n sum = processed reads tree (group_enough b is w here n sum)

  first_enough : {main number : ℕ} {s : State} {files : List FirstFile} {m : Progress} (b : ℕ) → Covers s.meter.remaining b
      → WaitsIn s
      → (d : OpensFirst context main number s files m) (n : ℕ)
      → b ≡ count_first d + n
      → OpensFirst context main number (budgeted s b) files (holding n m)
  first_enough {main} {number} {s} b is w all_read n sum =
      let same : b ≡ n = omega arith in
      subst (λ x. OpensFirst context main number (budgeted s b) [] (holding x (running s))) same all_read
  first_enough b is w (first_fault opens) n sum = first_fault (opened_enough b is w opens n sum)
  first_enough b is w (first_read opens rest) n sum =
      let j = count_first rest in
      first_read (opened_enough b is w opens (j + n) (omega arith)) (first_enough (j + n) (opened_rest b (j + n) is w opens (omega arith)) (opened_waits context w opens) rest n refl)

  pub named_budgeted : (main : ℕ) (name : List ℕ) (files : List FirstFile) (s : State) (b : ℕ)
      → budgeted (before_first main name files s) b ≡ before_first main name files (budgeted s b)
  named_budgeted main name [] s b = refl
  named_budgeted main name (file ∷ files) s b = refl

  pub named_covers : (main : ℕ) (name : List ℕ) (files : List FirstFile) (s : State) (b : ℕ) → Covers s.meter.remaining b → Covers (before_first main name files s).meter.remaining b
  named_covers main name [] s b is = is
  named_covers main name (file ∷ files) s b is = is

  pub before_main_enough : (unit : UnitOfList) (s : State) {m : Progress} (b : ℕ) → Covers s.meter.remaining b
      → WaitsIn s
      → (d : OpensFirst context unit.file (suc (length unit.defines.texts)) (before_first unit.file (main_name context.names unit) unit.first s) unit.first m) (n : ℕ)
      → b ≡ count_first d + n
      → OpensFirst context unit.file (suc (length unit.defines.texts)) (before_first unit.file (main_name context.names unit) unit.first (budgeted s b)) unit.first (holding n m)
  before_main_enough unit s {m = m} b is w d n sum =
      subst (λ (z : State). OpensFirst context unit.file (suc (length unit.defines.texts)) z unit.first (holding n m))
      (named_budgeted unit.file (main_name context.names unit) unit.first s b)
      (first_enough b (named_covers unit.file (main_name context.names unit) unit.first s b is) (named_waits context unit.file (main_name context.names unit) unit.first s w) d n sum)

  -- With a sufficient budget, the outcome of a unit is unchanged, and the rest of the budget remains.
  pub unit_suffices : {unit : UnitOfList} {s : State} {m : Progress} (b : ℕ) → Covers s.meter.remaining b
      → WaitsIn s
      → (d : Translates context unit s m) (n : ℕ)
      → b ≡ count_translates d + n
      → Translates context unit (budgeted s b) (holding n m)
  unit_suffices b is w (definitions_fault here) n sum = definitions_fault (defines_enough b is w here n sum)
  unit_suffices {unit} b is w (fault_before_main {t = t} here first) n sum =
      let j = count_first first in
      fault_before_main (defines_enough b is w here (j + n) (omega arith))
      (before_main_enough unit t (j + n) (defines_rest b (j + n) is w here (omega arith)) (defines_waits context w here) first n refl)
  unit_suffices {unit} b is w (translated {t = t} here first opens) n sum =
      let j = count_opening opens in
      let k = count_first first in
      let covers = defines_rest b (k + (j + n)) is w here (omega arith) in
      let waits = defines_waits context w here in
      translated (defines_enough b is w here (k + (j + n)) (omega arith))
      (before_main_enough unit t (k + (j + n)) covers waits first (j + n) refl)
      (opened_enough (j + n) (before_main_rest unit t (k + (j + n)) (j + n) covers waits first refl) (before_main_waits context unit t waits first) opens n refl)

  -- A unit without a budget has the same outcome with a sufficient budget.
  pub unit_enough : {unit : UnitOfList} {s : State} {m : Progress} → s.meter.remaining ≡ None
      → WaitsIn s
      → (d : Translates context unit s m) (b n : ℕ)
      → b ≡ count_translates d + n
      → Translates context unit (budgeted s b) (holding n m)
  unit_enough is w d b n sum = unit_suffices b (subst (λ budget. Covers budget b) (sym is) without) w d n sum
