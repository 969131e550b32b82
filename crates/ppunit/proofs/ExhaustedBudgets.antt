-- If their budget is too small, lines, groups and units stop with fault 35, after a prefix of their full output.
use Rattle.std.proofs.Common.{take, drop, codes, ◌≡◌, ℕ, ◌<◌, List, [], ◌++◌, map, Bool, true, false, Option, Some, Result, Ok, Err, refl, sym, ap, ◌∙◌, subst, arith, append-nil, zero, suc, ◌+◌, ◌-◌, ◌≤◌, if◌then◌else◌, length}
use Rattle.std.proofs.lemmas.List.{map-append}
use Rattle.pptext.specs.declared.tokens.Place.{Place}
use Rattle.pptext.specs.declared.tokens.Token.{Token}
use Rattle.pptext.specs.declared.tokens.Fault.{Fault}
use Rattle.pptext.specs.declared.sources.Directive.{Directive}
use Rattle.pptext.specs.declared.sources.Profile.{Profile}
use Rattle.pptext.specs.Lines.{LogicalLine}
use Rattle.pptext.specs.Tree.{GroupParts, Branches}
use Rattle.ppexpand.specs.Budget.{with_budget}
use Rattle.ppexpand.specs.Expansion.{count_expansion}
use Rattle.ppexpand.proofs.BudgetLemmas.{StopsEarly, Covers, expansion_short, covers_less}
use Rattle.ppexpr.proofs.ConditionBudgets.{condition_short}
use Rattle.ppunit.specs.declared.units.Item.{Item}
use Rattle.ppunit.specs.States.{State, Progress, stopped, emitted, kept, with_meter, with_waiting, Search, file_context, in_file_context, Context, with_dependency, with_one_spent, Opening, leaving, running}
use Rattle.ppunit.specs.DirectiveLines.{operands, line_fault, text_tokens}
use Rattle.ppunit.specs.Including.{IncludeName, begins_with_header, name_of_expansion_or, name_of_header, name_of_expansion}
use Rattle.ppunit.specs.Conditions.{Decides, DecidesByValue}
use Rattle.ppunit.specs.Probing.{begins_with, NamesOperand, Probes, ProbesBy, ProbesLine}
use Rattle.ppunit.specs.Directives.{meter_at_text, waits_in, text_emitted, EmitsText, NamesHeaderBy, NamesHeader, ExecutesDirective}
use Rattle.ppunit.specs.Counts.{count_decides, count_names_header_by, count_names_header, count_names_operand, count_probes, count_probes_by, count_probes_line}
use Rattle.ppunit.specs.Counts.{count_value, count_control_by, count_group, count_branches, count_control, count_includes, count_opening}
use Rattle.ppunit.proofs.OutputPrefixes.{Before, before_then, control_by_before, same_state, depends, group_before, branches_before, opened_before, left_before, named_before}
use Rattle.ppunit.proofs.WaitingInvocations.{WaitsIn, run_waits, group_waits, branches_waits, control_waits, defines_waits, opened_waits, named_waits}
use Rattle.ppunit.proofs.TextBudgets.{budget_at_text, covers_at_text, less_at_text, expands_at_text}
use Rattle.ppunit.proofs.BudgetSums.{count_run}
use Rattle.ppunit.specs.code.Effects.{affected, expanding_effect, HasEffect}
use Rattle.ppunit.proofs.DirectiveEffects.{effect_of, executes, count_effect, same_count, fault_affects, fault_is_effect, tokens_of_any_meter}
use Rattle.pptext.specs.Tokens.{fault}
use Rattle.ppexpand.specs.declared.meter.Meter.{Meter}
use Rattle.ppunit.specs.Group.{depth_limit, ExecutesGroup, ExecutesBranches, ExecutesControlLine, ExecutesInclude, OpensFile}
use Rattle.ppunit.specs.Unit.{Defines, unread, processed, Translates, definitions_fault, translated, count_defines, count_translates, OpensFirst, all_read, first_fault, first_read, before_first, main_name, fault_before_main, count_first}
use Rattle.ppunit.proofs.SufficientBudgets.{budgeted, holding, run_enough, asks_enough, asks_rest, operand_enough, operand_rest, probing_enough, probing_rest, decides_enough, decides_rest, run_rest}
use Rattle.ppunit.proofs.SufficientBudgets.{group_rest, branches_rest, control_rest, defines_rest, opened_rest, before_main_rest, group_enough, branches_enough, control_enough, opened_enough}
use Rattle.ppunit.proofs.SufficientBudgets.{defines_enough, before_main_enough, named_covers, named_budgeted}
use Rattle.ppunit.proofs.BudgetSums.{before_main_waits}
use native.Mathlib.Decide.{dec_lt}
use Rattle.ppunit.specs.declared.units.Item.TheVariants as item
use Rattle.ppunit.specs.declared.units.FirstFile.{FirstFile}
use Rattle.ppunit.specs.declared.units.Unit.{Unit as UnitOfList}
use Rattle.ppunit.specs.Directives.{at_end}
use Rattle.ppexpand.specs.Laws.{IsPrefix, LeavesOpen, nothing_open, invocation_open}
use Rattle.ppexpand.specs.OpenInvocations.{open_expansion}
use Rattle.ppexpand.proofs.OpenLists.{leaves}
use Rattle.ppmacro.specs.Names.{Macros}
use Rattle.pptext.specs.Profiles.{is_gnu}
use Rattle.ppunit.proofs.KeptItems.{kept-first, resumed_stopped}

-- ---- if its budget is too small, a line stops with fault 35, after a prefix of its full output

-- a unit stops in state s with fault 35; with a sufficient budget it reaches state t
pub record Over (s t : State) (f : Fault) : Type 0 where
  pub number : f.number ≡ 35
  pub before : Before s t

abbrev pub Stops : State → (State → Fault → Type 0) → Type 0
Stops t P = (s : State) × (f : Fault) × Over s t f × P s f

pub over_same : (s t : State) (meter : Meter) (f : Fault) → f.number ≡ 35 → Before s t → Over (with_meter s meter) t f
over_same s t meter f e h = record { number = e; before = h }

pub over_then : (s t u : State) (f : Fault) → Over s t f → Before t u → Over s u f
over_then s t u f o h = record { number = o.number; before = before_then s t u o.before h }

-- ---- lines

-- An expansion that stops with fault 35 leaves nothing open.
nothing_left : {macros : Macros} {o : Option Fault} {ts : List Token} (f : Fault) → LeavesOpen macros o ts → o ≡ Some f → f.number ≡ 35 → ts ≡ []
nothing_left f nothing_open is number = refl
nothing_left f (invocation_open {t = t} named function_like opens unclosed) is number =
    let same : fault 17 t.used t.text ≡ f = cc in
    let wrong : ◌≡◌ {A = ℕ} 17 35 = ap (λ g. g.number) same ∙ number in
    absurd (omega arith)

none_waits : (profile : Profile) → waits_in profile [] ≡ []
none_waits profile = elim (is_gnu profile) as (λ b. ◌≡◌ {A = List Token} (if b then [] else []) []) [ true ↦ refl | false ↦ refl ]

pub run_short : (profile : Profile) (s : State) (tokens : List Token) (m : Progress) (b : ℕ) → Covers s.meter.remaining b
    → (g : EmitsText profile s tokens m)
    → b < count_run g
    → Stops m.state (λ t f. EmitsText profile (budgeted s b) tokens (stopped t f))
run_short profile s tokens m b is g less =
    let at_text : ℕ = budget_at_text s.waiting b in
    let list : List Token = s.waiting ++ tokens in
    let covers : Covers (meter_at_text s.waiting s.meter).remaining at_text = covers_at_text s.waiting b s.meter is in
    let low : at_text < count_expansion g.expands = less_at_text s.waiting b (count_expansion g.expands) less in
    let x : StopsEarly s.macros s.env (meter_at_text s.waiting s.meter) at_text list g.expanded = expansion_short s.macros s.env at_text covers g.expands low in
    let y = expands_at_text s.macros s.env s.waiting tokens b s.meter x.expansion x.is in
    let left = leaves s.macros s.env (meter_at_text s.waiting (with_budget (Some b) s.meter)) list x.expansion y.expands in
    let none : open_expansion y.expands ≡ [] = nothing_left x.fault left x.stopped x.number in
    let items : List Item = map item.Token x.expansion.tokens in
    let more : List Item = map item.Token x.begins.0 in
    let made : map item.Token g.expanded.tokens ≡ items ++ more = ap (λ ts. map item.Token ts) x.begins.1 ∙ map-append item.Token x.expansion.tokens x.begins.0 in
    let whole : m.state.items ≡ kept s.keeps s.items (items ++ more) = ap (λ r. r.state.items) g.is ∙ ap (kept s.keeps s.items) made in
    let begins : IsPrefix (kept s.keeps s.items items) m.state.items = subst (IsPrefix (kept s.keeps s.items items)) (sym whole) (kept-first s.keeps s.items items more) in
    let deps : m.state.deps ≡ s.deps = ap (λ r. r.state.deps) g.is in
    let reached : State = with_waiting (emitted (with_meter s x.expansion.meter) items) [] in
    let stops : stopped reached x.fault ≡ text_emitted (budgeted s b) x.expansion [] = λ i. record { state = reached; fault = (sym x.stopped) i } in
    let nothing : [] ≡ waits_in profile (open_expansion y.expands) = sym (ap (waits_in profile) none ∙ none_waits profile) in (
      reached,
      x.fault,
      record { number = x.number; before = (begins, ([], deps ∙ sym (append-nil s.deps))) },
      record { expanded = x.expansion; expands = y.expands; is = stops ∙ ap (text_emitted (budgeted s b) x.expansion) nothing },
    )

asks_by_short : (header : Bool) (name : Option IncludeName) (s : State) (line tokens : List Token) (meter_after : Meter) (include_name : Result IncludeName Fault) (b : ℕ) → Covers s.meter.remaining b
    → (g : NamesHeaderBy header name s line tokens meter_after include_name)
    → b < count_names_header_by header name s line tokens meter_after include_name g
    → (f : Fault) × (f.number ≡ 35) × (meter : Meter) × NamesHeaderBy header name (budgeted s b) line tokens meter (Err f)
asks_by_short true name s line tokens meter_after include_name b is g less = absurd (omega arith)
asks_by_short false name s line tokens meter_after include_name b is g less =
    let x : StopsEarly s.macros s.env s.meter b tokens g.expanded = expansion_short s.macros s.env b is g.expands less in
    (x.fault, x.number, x.expansion.meter, record { expanded = x.expansion; expands = x.is; leaves = refl; is = λ i. name_of_expansion_or (line_fault 30 line []) ((sym x.stopped) i) x.expansion.tokens })

pub asks_short : (s : State) (line : List Token) (meter_after : Meter) (include_name : Result IncludeName Fault) (b : ℕ) → Covers s.meter.remaining b
    → (g : NamesHeader s line meter_after include_name)
    → b < count_names_header s line meter_after include_name g
    → (f : Fault) × (f.number ≡ 35) × (meter : Meter) × NamesHeader (budgeted s b) line meter (Err f)
asks_short s line meter_after include_name b is g less =
    asks_by_short (begins_with_header (operands line)) (name_of_header (operands line)) s line (operands line) meter_after include_name b is g less

operand_short : (s : State) (line operand : List Token) (meter_after : Meter) (include_name : Result IncludeName Fault) (b : ℕ) → Covers s.meter.remaining b
    → (g : NamesOperand s line operand meter_after include_name)
    → b < count_names_operand s line operand meter_after include_name g
    → (f : Fault) × (f.number ≡ 35) × (meter : Meter) × NamesOperand (budgeted s b) line operand meter (Err f)
operand_short s line operand meter_after include_name b is g less =
    asks_by_short (begins_with (codes "<") operand) (name_of_expansion operand) s line operand meter_after include_name b is g less

probes_short : {search : Search} {row : ℕ} {line : List Token} {s : State} {ts : List Token} {meter_after : Meter} {tokens : Result (List Token) Fault} (b : ℕ) → Covers s.meter.remaining b
    → (g : Probes search row line s ts meter_after tokens)
    → b < count_probes g
    → (f : Fault) × (f.number ≡ 35) × (meter : Meter) × Probes search row line (budgeted s b) ts meter (Err f)
probes_short b is Probes.no_tokens less = absurd (omega arith)
probes_short b is (Probes.other e rest) less = let x = probes_short b is rest less in (x.0, x.1, x.2, Probes.other e x.3)
probes_short b is (Probes.unclosed e none) less = absurd (omega arith)
probes_short {line = line} b is (Probes.operand_fault {s = s} {ts = ts} {end = end} {meter_after = meter_after} {f = f} e ends names) less =
    let x = operand_short s line (take end (drop 1 ts)) meter_after (Err f) b is names less in
    (x.0, x.1, x.2, Probes.operand_fault e ends x.3)
probes_short {line = line} b is (Probes.operator {s = s} {ts = ts} {end = end} {meter_between = between} a e ends names rest) less =
    let operand : List Token = take end (drop 1 ts) in
    let c = count_names_operand s line operand between (Ok a) names in
    elim (dec_lt b c) [
      | yes few ↦
          (let x = operand_short s line operand between (Ok a) b is names few in
          (x.0, x.1, x.2, Probes.operand_fault e ends x.3))
      | no not_few ↦
          (let sum : b ≡ c + (b - c) = omega arith in
          let covers = operand_rest s line operand between (Ok a) b (b - c) is names sum in
          let x = probes_short (b - c) covers rest (omega arith) in
          (x.0, x.1, x.2, Probes.operator {meter_after = x.2} {tokens = Err x.0} a e ends (operand_enough s line operand between (Ok a) b is names (b - c) sum) x.3))
    ]

probes_by_short : (probes : Bool) (search : Search) (row : ℕ) (line : List Token) (s : State) (ts : List Token) (meter_after : Meter) (tokens : Result (List Token) Fault) (b : ℕ)
    → Covers s.meter.remaining b
    → (g : ProbesBy probes search row line s ts meter_after tokens)
    → b < count_probes_by probes search row line s ts meter_after tokens g
    → (f : Fault) × (f.number ≡ 35) × (meter : Meter) × ProbesBy probes search row line (budgeted s b) ts meter (Err f)
probes_by_short true search row line s ts meter_after tokens b is g less = probes_short b is g less
probes_by_short false search row line s ts meter_after tokens b is g less = absurd (omega arith)

probing_short : (search : Search) (row : ℕ) (s : State) (line : List Token) (meter_after : Meter) (tokens : Result (List Token) Fault) (b : ℕ) → Covers s.meter.remaining b
    → (g : ProbesLine search row s line meter_after tokens)
    → b < count_probes_line search row s line meter_after tokens g
    → (f : Fault) × (f.number ≡ 35) × (meter : Meter) × ProbesLine search row (budgeted s b) line meter (Err f)
probing_short search row s line meter_after tokens b is g less = probes_by_short (is_gnu search.profile) search row line s (operands line) meter_after tokens b is g less

value_short : {search : Search} {row : ℕ} {s : State} {line : List Token} {meter_after : Meter} {taken : Result Bool Fault} (b : ℕ) → Covers s.meter.remaining b
    → (g : DecidesByValue search row s line meter_after taken)
    → b < count_value g
    → (f : Fault) × (f.number ≡ 35) × (meter : Meter) × DecidesByValue search row (budgeted s b) line meter (Err f)
value_short {search} {row} {s} {line} {meter_after} b is (DecidesByValue.probing_fault {f = f} probes e) less =
    let x = probing_short search row s line meter_after (Err f) b is probes less in
    (x.0, x.1, x.2, DecidesByValue.probing_fault x.3 refl)
value_short {search} {row} {s} {line} b is (DecidesByValue.evaluated {tokens = tokens} {meter_between = between} probes condition) less =
    let c = count_probes_line search row s line between (Ok tokens) probes in
    elim (dec_lt b c) [
      | yes few ↦
          (let x = probing_short search row s line between (Ok tokens) b is probes few in
          (x.0, x.1, x.2, DecidesByValue.probing_fault x.3 refl))
      | no not_few ↦
          (let sum : b ≡ c + (b - c) = omega arith in
          let covers = probing_rest search row s line between (Ok tokens) b (b - c) is probes sum in
          let y = condition_short (b - c) covers condition (omega arith) in
          (y.fault, y.number, y.meter_after, DecidesByValue.evaluated (probing_enough search row s line between (Ok tokens) b is probes (b - c) sum) y.is))
    ]

pub decides_short : {search : Search} {row : ℕ} {s : State} {line : LogicalLine} {meter_after : Meter} {taken : Result Bool Fault} (b : ℕ) → Covers s.meter.remaining b
    → (g : Decides search row s line meter_after taken)
    → b < count_decides g
    → (f : Fault) × (f.number ≡ 35) × (meter : Meter) × Decides search row (budgeted s b) line meter (Err f)
decides_short b is (Decides.unmatched q x) less = absurd (omega arith)
decides_short b is (Decides.tests_name q n x) less = absurd (omega arith)
decides_short b is (Decides.evaluates q v x) less = let y = value_short b is x less in (y.0, y.1, y.2, Decides.evaluates q v y.3)

effect_short : (profile : Profile) (row : ℕ) (d : Option Directive) (s : State) (line : LogicalLine) (m : Progress) (b : ℕ) → Covers s.meter.remaining b
    → Before s m.state
    → (e : HasEffect profile row d s line m)
    → b < count_effect e
    → Stops m.state (λ t f. HasEffect profile row d (budgeted s b) line (stopped t f))
effect_short profile row d s line m b is before (HasEffect.immediate does gives) less = absurd (omega arith)
effect_short profile row d s line m b is before (HasEffect.expanding {tokens = tokens} x does expands gives) less =
    let y : StopsEarly s.macros s.env s.meter b tokens x = expansion_short s.macros s.env b is expands less in
    let u = budgeted s b in
    let t = with_meter s y.expansion.meter in
    let outcome : stopped t y.fault ≡ affected t (expanding_effect d u row line y.expansion.fault y.expansion.tokens) =
    (sym (fault_affects t y.fault)) ∙ ap (affected t) (sym (fault_is_effect d u row line y.fault y.expansion.tokens))
    ∙ (λ i. affected t (expanding_effect d u row line ((sym y.stopped) i) y.expansion.tokens)) in
    (t, y.fault, over_same s m.state y.expansion.meter y.fault y.number before, HasEffect.expanding y.expansion (tokens_of_any_meter profile d s line (with_budget (Some b) s.meter) ∙ does) y.is outcome)

pub control_by_short : (profile : Profile) (row : ℕ) (d : Option Directive) (s : State) (line : LogicalLine) (m : Progress) (b : ℕ) → Covers s.meter.remaining b
    → (g : ExecutesDirective profile row d s line m)
    → b < count_control_by profile row d s line m g
    → Stops m.state (λ t f. ExecutesDirective profile row d (budgeted s b) line (stopped t f))
control_by_short profile row d s line m b is g less =
    let all : b < count_effect (effect_of profile row d s line m g) = subst (λ n. b < n) (same_count profile row d s line m g) less in
    let x = effect_short profile row d s line m b is (control_by_before profile row d s line m g) (effect_of profile row d s line m g) all in
    (x.0, x.1, x.2, executes profile row d (budgeted s b) line (stopped x.0 x.1) x.3)

-- ---- if their budget is too small, groups and units stop with fault 35, after a prefix of their full output

module _ (context : Context) where
  -- opening a file with an exhausted budget
  over_here : {depth row : ℕ} {how : Opening} {at : Place} (s t : State) → depth ≤ depth_limit → Before s t → Stops t (λ u f. OpensFile context depth at (budgeted s 0) row how (stopped u f))
  over_here {at = at} s t fits h = (budgeted s 0, fault 35 at [], over_same s t (with_budget (Some 0) s.meter) (fault 35 at []) refl h, OpensFile.exhausted fits refl)

  mutual
    pub group_short : {depth row : ℕ} {r : Progress} {ps : GroupParts} {end : Progress} (b : ℕ) → Covers r.state.meter.remaining b
        → WaitsIn r.state
        → (d : ExecutesGroup context depth row r ps end)
        → b < count_group d
        → Stops end.state (λ t f. ExecutesGroup context depth row (holding b r) ps (stopped t f))
    group_short b is w ExecutesGroup.already_stopped less = absurd (omega arith)
    group_short b is w ExecutesGroup.no_parts less = absurd (omega arith)
    group_short {end = end} b is w (ExecutesGroup.text_lines {s = s} {lines = lines} {m = m} gives rest) less =
        let c = count_run gives in
        let after = run_waits context.profile s (text_tokens lines) m gives in
        elim (dec_lt b c) [
          | yes less ↦
              (let x = run_short context.profile s (text_tokens lines) m b is gives less in
              (x.0, x.1, over_then x.0 m.state end.state x.1 x.2 (group_before context rest), ExecutesGroup.text_lines x.3 ExecutesGroup.already_stopped))
          | no not_less ↦
              (let sum : b ≡ c + (b - c) = omega arith in
              let covers = run_rest context.profile s (text_tokens lines) m b (b - c) is w gives sum in
              let x = group_short (b - c) covers after rest (omega arith) in
              let here = run_enough context.profile s (text_tokens lines) m b is w gives (b - c) sum in
              (x.0, x.1, x.2, ExecutesGroup.text_lines {end = stopped x.0 x.1} here x.3))
        ]
    group_short {end = end} b is w (ExecutesGroup.control {m = m} here rest) less =
        let c = count_control here in
        elim (dec_lt b c) [
          | yes less ↦
              (let x = control_short b is w here less in
              (x.0, x.1, over_then x.0 m.state end.state x.1 x.2 (group_before context rest), ExecutesGroup.control x.3 ExecutesGroup.already_stopped))
          | no not_less ↦
              (let sum : b ≡ c + (b - c) = omega arith in
              let covers = control_rest context b (b - c) is w here sum in
              let x = group_short (b - c) covers (control_waits context w here) rest (omega arith) in
              (x.0, x.1, x.2, ExecutesGroup.control {end = stopped x.0 x.1} (control_enough context b is w here (b - c) sum) x.3))
        ]
    group_short {end = end} b is w (ExecutesGroup.taken {s = s} {m = m} decides here rest) less =
        let c = count_decides decides in
        let j = count_group here in
        let k = count_group rest in
        let one = group_before context here in
        let two = group_before context rest in
        elim (dec_lt b c) [
          | yes less ↦
              (let x = decides_short b is decides less in
              (with_meter s x.2, x.0, over_same s end.state x.2 x.0 x.1 (before_then s m.state end.state one two), ExecutesGroup.condition_fault x.3))
          | no not_less ↦
              (let sum : b ≡ c + (b - c) = omega arith in
              let covers = decides_rest b (b - c) is decides sum in
              elim (dec_lt (b - c) j) [
                | yes less ↦
                    (let x = group_short (b - c) covers w here less in
                    (x.0, x.1, over_then x.0 m.state end.state x.1 x.2 two, ExecutesGroup.taken {end = stopped x.0 x.1} (decides_enough b is decides (b - c) sum) x.3 ExecutesGroup.already_stopped))
                | no not_less2 ↦
                    (let n = b - c - j in
                    let sum2 : b - c ≡ j + n = omega arith in
                    let next = group_rest context (b - c) n covers w here sum2 in
                    let x = group_short n next (group_waits context w here) rest (omega arith) in
                    let inside = group_enough context (b - c) covers w here n sum2 in
                    (x.0, x.1, x.2, ExecutesGroup.taken {end = stopped x.0 x.1} (decides_enough b is decides (b - c) sum) inside x.3))
              ])
        ]
    group_short {end = end} b is w (ExecutesGroup.skipped {s = s} {m = m} decides here rest) less =
        let c = count_decides decides in
        let j = count_branches here in
        let k = count_group rest in
        let one = branches_before context here in
        let two = group_before context rest in
        elim (dec_lt b c) [
          | yes less ↦
              (let x = decides_short b is decides less in
              (with_meter s x.2, x.0, over_same s end.state x.2 x.0 x.1 (before_then s m.state end.state one two), ExecutesGroup.condition_fault x.3))
          | no not_less ↦
              (let sum : b ≡ c + (b - c) = omega arith in
              let covers = decides_rest b (b - c) is decides sum in
              elim (dec_lt (b - c) j) [
                | yes less ↦
                    (let x = branches_short (b - c) covers w here less in
                    (x.0, x.1, over_then x.0 m.state end.state x.1 x.2 two, ExecutesGroup.skipped {end = stopped x.0 x.1} (decides_enough b is decides (b - c) sum) x.3 ExecutesGroup.already_stopped))
                | no not_less2 ↦
                    (let n = b - c - j in
                    let sum2 : b - c ≡ j + n = omega arith in
                    let next = branches_rest context (b - c) n covers w here sum2 in
                    let x = group_short n next (branches_waits context w here) rest (omega arith) in
                    let inside = branches_enough context (b - c) covers w here n sum2 in
                    (x.0, x.1, x.2, ExecutesGroup.skipped {end = stopped x.0 x.1} (decides_enough b is decides (b - c) sum) inside x.3))
              ])
        ]
    group_short b is w (ExecutesGroup.condition_fault {s = s} {meter_after = meter_after} decides) less =
        let x = decides_short b is decides less in
        (with_meter s x.2, x.0, over_same s (with_meter s meter_after) x.2 x.0 x.1 (same_state s), ExecutesGroup.condition_fault x.3)

    branches_short : {depth row : ℕ} {s : State} {bs : Branches} {m : Progress} (b : ℕ) → Covers s.meter.remaining b
        → WaitsIn s
        → (d : ExecutesBranches context depth row s bs m)
        → b < count_branches d
        → Stops m.state (λ t f. ExecutesBranches context depth row (budgeted s b) bs (stopped t f))
    branches_short b is w ExecutesBranches.no_branch_taken less = absurd (omega arith)
    branches_short b is w (ExecutesBranches.else_group e here) less =
        let x = group_short b is w here less in
        (x.0, x.1, x.2, ExecutesBranches.else_group e x.3)
    branches_short {m = m} b is w (ExecutesBranches.branch_taken {s = s} e decides here) less =
        let c = count_decides decides in
        elim (dec_lt b c) [
          | yes less ↦
              (let x = decides_short b is decides less in
              (with_meter s x.2, x.0, over_same s m.state x.2 x.0 x.1 (group_before context here), ExecutesBranches.branch_condition_fault e x.3))
          | no not_less ↦
              (let sum : b ≡ c + (b - c) = omega arith in
              let covers = decides_rest b (b - c) is decides sum in
              let x = group_short (b - c) covers w here (omega arith) in
              (x.0, x.1, x.2, ExecutesBranches.branch_taken {m = stopped x.0 x.1} e (decides_enough b is decides (b - c) sum) x.3))
        ]
    branches_short {m = m} b is w (ExecutesBranches.branch_skipped {s = s} e decides here) less =
        let c = count_decides decides in
        elim (dec_lt b c) [
          | yes less ↦
              (let x = decides_short b is decides less in
              (with_meter s x.2, x.0, over_same s m.state x.2 x.0 x.1 (branches_before context here), ExecutesBranches.branch_condition_fault e x.3))
          | no not_less ↦
              (let sum : b ≡ c + (b - c) = omega arith in
              let covers = decides_rest b (b - c) is decides sum in
              let x = branches_short (b - c) covers w here (omega arith) in
              (x.0, x.1, x.2, ExecutesBranches.branch_skipped {m = stopped x.0 x.1} e (decides_enough b is decides (b - c) sum) x.3))
        ]
    branches_short b is w (ExecutesBranches.branch_condition_fault {s = s} {meter_after = meter_after} e decides) less =
        let x = decides_short b is decides less in
        (with_meter s x.2, x.0, over_same s (with_meter s meter_after) x.2 x.0 x.1 (same_state s), ExecutesBranches.branch_condition_fault e x.3)

    control_short : {depth row : ℕ} {s : State} {line : LogicalLine} {m : Progress} (b : ℕ) → Covers s.meter.remaining b
        → WaitsIn s
        → (d : ExecutesControlLine context depth row s line m)
        → b < count_control d
        → Stops m.state (λ t f. ExecutesControlLine context depth row (budgeted s b) line (stopped t f))
    control_short b is w (ExecutesControlLine.error e) less = absurd (omega arith)
    control_short b is w (ExecutesControlLine.ignored e) less = absurd (omega arith)
    control_short b is w (ExecutesControlLine.quote_fault e q) less = absurd (omega arith)
    control_short b is w (ExecutesControlLine.refused e q waits) less = absurd (omega arith)
    control_short {row = row} b is w (ExecutesControlLine.executed {s = s} {line = line} {m = m} q free does) less =
        let x = control_by_short context.profile row line.directive s line m b is does less in
        (x.0, x.1, x.2, ExecutesControlLine.executed q free x.3)
    control_short b is w (ExecutesControlLine.include e q free here) less =
        let x = includes_short b is w here less in
        (x.0, x.1, x.2, ExecutesControlLine.include e q free x.3)

    includes_short : {depth row : ℕ} {following : Option ℕ} {s : State} {line : LogicalLine} {m : Progress} (b : ℕ) → Covers s.meter.remaining b
        → WaitsIn s
        → (d : ExecutesInclude context depth row following s line m)
        → b < count_includes d
        → Stops m.state (λ t f. ExecutesInclude context depth row following (budgeted s b) line (stopped t f))
    includes_short b is w (ExecutesInclude.operand_fault {s = s} {line = line} {meter_after = meter_after} {f = f} asks) less =
        let x = asks_short s line.tokens meter_after (Err f) b is asks less in
        (with_meter s x.2, x.0, over_same s (with_meter s meter_after) x.2 x.0 x.1 (same_state s), ExecutesInclude.operand_fault x.3)
    includes_short b is w (ExecutesInclude.missing {s = s} {line = line} {meter_after = meter_after} a asks finds) less =
        let x = asks_short s line.tokens meter_after (Ok a) b is asks less in
        (with_meter s x.2, x.0, over_same s (with_meter s meter_after) x.2 x.0 x.1 (same_state s), ExecutesInclude.operand_fault x.3)
    includes_short b is w (ExecutesInclude.included {s = s} {line = line} {meter_after = meter_after} a found {m = m} asks finds opens) less =
        let c = count_names_header s line.tokens meter_after (Ok a) asks in
        elim (dec_lt b c) [
          | yes less ↦
              (let x = asks_short s line.tokens meter_after (Ok a) b is asks less in
              (with_meter s x.2, x.0, over_same s m.state x.2 x.0 x.1 (opened_before context opens), ExecutesInclude.operand_fault x.3))
          | no not_less ↦
              (let sum : b ≡ c + (b - c) = omega arith in
              let covers = asks_rest s line.tokens meter_after (Ok a) b (b - c) is asks sum in
              let x = opened_short (b - c) covers w opens (omega arith) in
              (x.0, x.1, x.2, ExecutesInclude.included a found {m = stopped x.0 x.1} (asks_enough s line.tokens meter_after (Ok a) b is asks (b - c) sum) finds x.3))
        ]

    pub opened_short : {depth row : ℕ} {how : Opening} {at : Place} {s : State} {m : Progress} (b : ℕ) → Covers s.meter.remaining b
        → WaitsIn s
        → (d : OpensFile context depth at s row how m)
        → b < count_opening d
        → Stops m.state (λ t f. OpensFile context depth at (budgeted s b) row how (stopped t f))
    opened_short b is w (OpensFile.too_deep deep) less = absurd (omega arith)
    opened_short b is w (OpensFile.exhausted fits spent) less = absurd (omega arith)
    opened_short {depth} {row} {how} {at} zero is w (OpensFile.not_read_again {s = s} fits more once) less =
        over_here {depth = depth} {row = row} {how = how} {at = at} s (with_dependency (with_one_spent s) row) fits (depends s row)
    opened_short (suc b) is w (OpensFile.not_read_again fits more once) less = absurd (omega arith)
    opened_short {depth} {row} {how} {at} zero is w (OpensFile.not_readable {s = s} fits more once file) less =
        over_here {depth = depth} {row = row} {how = how} {at = at} s (with_dependency (with_one_spent s) row) fits (depends s row)
    opened_short (suc b) is w (OpensFile.not_readable fits more once file) less = absurd (omega arith)
    opened_short {depth} {row} {how} {at} zero is w (OpensFile.content_fault {s = s} fits more once file reads) less =
        over_here {depth = depth} {row = row} {how = how} {at = at} s (with_dependency (with_one_spent s) row) fits (depends s row)
    opened_short (suc b) is w (OpensFile.content_fault fits more once file reads) less = absurd (omega arith)
    opened_short {depth} {row} {how} {at} zero is w (OpensFile.read {s = s} {m = m} fits more once file reads tree here) less =
        over_here {depth = depth} {row = row} {how = how} {at = at} s (leaving s how (at_end m)).state fits
        (opened_before context (OpensFile.read {depth = depth} {row = row} {how = how} {at = at} {s = s} {m = m} fits more once file reads tree here))
    opened_short {depth} {row} {how} {at} (suc b) is w (OpensFile.read {s = s} {m = m} fits more once file reads tree here) less =
        let x = group_short b (covers_less is) w here (omega arith) in
        let last : State = in_file_context (file_context s) x.0 in (
          last,
          x.1,
          record { number = x.2.number; before = before_then last m.state (leaving s how (at_end m)).state x.2.before (left_before s how (at_end m)) },
          subst (λ (z : Progress). OpensFile context depth at (budgeted s (suc b)) row how z) (resumed_stopped how.resumption last x.1)
              (OpensFile.read fits refl once file reads tree x.3),
        )

  defines_short : {defines : List (List ℕ)} {s : State} {m : Progress} (b : ℕ) → Covers s.meter.remaining b
      → WaitsIn s
      → (d : Defines context defines s m)
      → b < count_defines d
      → Stops m.state (λ t f. Defines context defines (budgeted s b) (stopped t f))
  defines_short b is w (unread reads) less = absurd (omega arith)
  defines_short b is w (processed reads tree here) less =
      let x = group_short b is w here less in
      (x.0, x.1, x.2, processed reads tree x.3)

  first_before : {main number : ℕ} {s : State} {files : List FirstFile} {m : Progress} → OpensFirst context main number s files m → Before s m.state
  first_before (all_read {s = s}) = same_state s
  first_before (first_fault opens) = opened_before context opens
  first_before (first_read {s = s} {t = t} {m = m} opens rest) = before_then s t m.state (opened_before context opens) (first_before rest)

  first_short : {main number : ℕ} {s : State} {files : List FirstFile} {m : Progress} (b : ℕ) → Covers s.meter.remaining b
      → WaitsIn s
      → (d : OpensFirst context main number s files m)
      → b < count_first d
      → Stops m.state (λ t f. OpensFirst context main number (budgeted s b) files (stopped t f))
  first_short b is w all_read less = absurd (omega arith)
  first_short b is w (first_fault opens) less =
      let x = opened_short b is w opens less in
      (x.0, x.1, x.2, first_fault x.3)
  first_short {m = m} b is w (first_read {t = t} opens rest) less =
      let c = count_opening opens in
      elim (dec_lt b c) [
        | yes few ↦
            (let x = opened_short b is w opens few in
            (x.0, x.1, over_then x.0 t m.state x.1 x.2 (first_before rest), first_fault x.3))
        | no not_few ↦
            (let sum : b ≡ c + (b - c) = omega arith in
            let x = first_short (b - c) (opened_rest context b (b - c) is w opens sum) (opened_waits context w opens) rest (omega arith) in
            (x.0, x.1, x.2, first_read (opened_enough context b is w opens (b - c) sum) x.3))
      ]

  before_main_short : (unit : UnitOfList) (s : State) {m : Progress} (b : ℕ) → Covers s.meter.remaining b
      → WaitsIn s
      → (d : OpensFirst context unit.file (suc (length unit.defines.texts)) (before_first unit.file (main_name context.names unit) unit.first s) unit.first m)
      → b < count_first d
      → Stops m.state (λ t f. OpensFirst context unit.file (suc (length unit.defines.texts))
      (before_first unit.file (main_name context.names unit) unit.first (budgeted s b)) unit.first (stopped t f))
  before_main_short unit s b is w d less =
      let x = first_short b (named_covers context unit.file (main_name context.names unit) unit.first s b is)
      (named_waits context unit.file (main_name context.names unit) unit.first s w) d less in (
        x.0,
        x.1,
        x.2,
        subst (λ (z : State). OpensFirst context unit.file (suc (length unit.defines.texts)) z unit.first (stopped x.0 x.1))
            (named_budgeted context unit.file (main_name context.names unit) unit.first s b) x.3,
      )

  before_main_before : (unit : UnitOfList) (s : State) {m : Progress}
      → OpensFirst context unit.file (suc (length unit.defines.texts)) (before_first unit.file (main_name context.names unit) unit.first s) unit.first m
      → Before s m.state
  before_main_before unit s {m = m} d =
      before_then s (before_first unit.file (main_name context.names unit) unit.first s) m.state
      (named_before unit.file (main_name context.names unit) unit.first s) (first_before d)

  -- the definitions go through, and the files that are read first stop
  stops_before_main : {unit : UnitOfList} {s t : State} {u : Progress} (b : ℕ) → Covers s.meter.remaining b
      → WaitsIn s
      → (here : Defines context unit.defines.texts s (running t))
      → (first : OpensFirst context unit.file (suc (length unit.defines.texts)) (before_first unit.file (main_name context.names unit) unit.first t) unit.first u)
      → b < count_defines here + count_first first
      → Stops u.state (λ v f. Translates context unit (budgeted s b) (stopped v f))
  stops_before_main {unit} {t = t} {u = u} b is w here first less =
      let c = count_defines here in
      elim (dec_lt b c) [
        | yes few ↦
            (let x = defines_short b is w here few in
            (x.0, x.1, over_then x.0 t u.state x.1 x.2 (before_main_before unit t first), definitions_fault x.3))
        | no not_few ↦
            (let sum : b ≡ c + (b - c) = omega arith in
            let covers = defines_rest context b (b - c) is w here sum in
            let x = before_main_short unit t (b - c) covers (defines_waits context w here) first (omega arith) in
            (x.0, x.1, x.2, fault_before_main (defines_enough context b is w here (b - c) sum) x.3))
      ]

  pub unit_short : {unit : UnitOfList} {s : State} {m : Progress} (b : ℕ) → Covers s.meter.remaining b
      → WaitsIn s
      → (d : Translates context unit s m)
      → b < count_translates d
      → Stops m.state (λ t f. Translates context unit (budgeted s b) (stopped t f))
  unit_short b is w (definitions_fault here) less =
      let x = defines_short b is w here less in
      (x.0, x.1, x.2, definitions_fault x.3)
  unit_short b is w (fault_before_main {t = t} here first) less = stops_before_main b is w here first less
  unit_short {unit} {m = m} b is w (translated {t = t} {u = u} here first opens) less =
      let c = count_defines here in
      let k = count_first first in
      elim (dec_lt b (c + k)) [
        | yes few ↦
            (let x = stops_before_main b is w here first few in
            (x.0, x.1, over_then x.0 u m.state x.1 x.2 (opened_before context opens), x.3))
        | no not_few ↦
            (let n = b - (c + k) in
            let covers = defines_rest context b (k + n) is w here (omega arith) in
            let waits = defines_waits context w here in
            let x = opened_short n (before_main_rest context unit t (k + n) n covers waits first refl) (before_main_waits context unit t waits first) opens (omega arith) in
            (x.0, x.1, x.2, translated (defines_enough context b is w here (k + n) (omega arith)) (before_main_enough context unit t (k + n) covers waits first n refl) x.3))
      ]
