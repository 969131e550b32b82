-- If the content of each file is known, a unit has a value.
use Rattle.std.proofs.Common.{◌≡◌, ◌≢◌, ℕ, zero, suc, ◌+◌, ◌-◌, ◌<◌, ◌≤◌, ◌⊎◌, inl, inr, Bool, true, false, List, [], All, length}
use Rattle.std.proofs.Common.{◌∷◌, ◌++◌, length, take, drop, codes, IsSome, Option, Some, None, Result, Ok, Err, refl, ap, ◌∙◌, arith, if◌then◌else◌}
use Rattle.std.proofs.lemmas.Bool.{cases_lt}
use Rattle.std.proofs.lemmas.List.{length-drop}
use Rattle.std.proofs.lemmas.List.Elements.{All-head, All-tail}
use Rattle.pptext.specs.declared.tokens.Place.{Place}
use Rattle.pptext.specs.declared.tokens.Token.{Token}
use Rattle.pptext.specs.declared.tokens.Fault.{Fault}
use Rattle.pptext.specs.declared.sources.Profile.{Profile}
use Rattle.pptext.specs.declared.sources.Directive.{Directive}
use Rattle.pptext.specs.declared.sources.Directive.TheVariants.{Else}
use Rattle.pptext.specs.declared.directives.Question.{Question}
use Rattle.pptext.specs.declared.directives.Question.TheVariants.{Defined, Value}
use Rattle.pptext.specs.declared.directives.Class.{Class}
use Rattle.pptext.specs.declared.directives.Class.TheVariants as class
use Rattle.pptext.specs.Classes.{class_of, question_in, class_by, question_by}
use Rattle.pptext.specs.Profiles.{is_gnu}
use Rattle.pptext.specs.Lines.{LogicalLine}
use Rattle.pptext.specs.Sources.{Reads, IsSource}
use Rattle.pptext.specs.Tokens.{fault}
use Rattle.pptext.specs.Tree.{hash_place, ControlLine, Opens, Elses, role, role_in, role_by, GroupParts, Done, TextLines, Control, Section, Branches, End, Branch, AreGroupParts, AreBranches, Tree, group_fault}
use Rattle.ppmacro.specs.Names.{Macros}
use Rattle.ppexpand.specs.declared.meter.Meter.{Meter}
use Rattle.ppexpand.specs.declared.env.Env.{Env}
use Rattle.ppexpand.specs.Expansion.{Expansion}
use Rattle.ppexpand.specs.Expansion.{IsExpansion}
use Rattle.ppexpand.specs.OpenInvocations.{open_expansion}
use Rattle.ppexpand.specs.Budget.{is_exhausted}
use Rattle.ppexpr.specs.Conditions.{IsCondition}
use Rattle.ppshelf.specs.Content.{Content, unreadable, readable}
use Rattle.ppshelf.specs.Files.{file_at}
use Rattle.ppshelf.specs.Names.{name_in}
use Rattle.ppshelf.specs.Search.{Candidate, IsFirstRow}
use Rattle.ppshelf.proofs.SearchResults.{first_within}
use Rattle.ppunit.proofs.FirstLineCases.{else_directive, not_else}
use Rattle.ppunit.specs.Dependencies.{has_row}
use Rattle.ppunit.specs.States.{State, Search, Context, search_of, Progress, running, stopped, output, with_meter, with_dependency, entering, leaving, with_one_spent, Opening}
use Rattle.ppunit.specs.DirectiveLines.{operands, line_fault, one_identifier, text_tokens}
use Rattle.ppunit.specs.Quotes.{unmatched_quote}
use Rattle.ppunit.specs.Including.{IncludeName, begins_with_header, name_of_header, name_or, name_of_expansion_or, if_possible_name, name_of_expansion}
use Rattle.ppunit.specs.Probing.{begins_with, applies, operand_end, NamesOperand, directory_before, has_file, number_for, after_first, Probes, ProbesBy, ProbesLine}
use Rattle.ppunit.specs.Conditions.{Decides, by_name, DecidesByValue}
use Rattle.ppunit.specs.Directives.{EmitsText, meter_at_text, waits_in, text_emitted, refusal, at_end, ExecutesDirective, NamesHeader, NamesHeaderBy, candidates_for, FindsFile, message, checks_quotes}
use Rattle.ppunit.specs.code.Effects.{Effect, affected, immediate_effect, expanded_tokens, expanding_effect, HasEffect}
use Rattle.ppunit.proofs.DirectiveEffects.{executes, control_has_effect}
use Rattle.ppunit.specs.Group.{depth_limit, ExecutesGroup, ExecutesBranches, ExecutesControlLine, ExecutesInclude, OpensFile}
use Rattle.ppunit.specs.Laws.{KnowsAll, HasSomeValue}
use Rattle.ppunit.specs.Unit.{Defines, unread, processed, Translates, definitions_fault, translated, command_file, command_text, first_place, context_of_unit, initial_state, OpensFirst, all_read}
use Rattle.ppunit.specs.Unit.{first_fault, first_read, before_first, main_name, fault_before_main, HasRows, first_file_place, first_opening, main_opening}
use Rattle.ppunit.specs.declared.units.FirstFile.{FirstFile}
use Rattle.ppunit.specs.declared.units.Unit.{Unit as UnitOfList}
use Rattle.ppunit.specs.ShownNames.{opening_of}

abbrev pub SomeExpansion : Type 0
SomeExpansion = (macros : Macros) (env : Env) (meter : Meter) (tokens : List Token) → (e : Expansion) × IsExpansion macros env meter tokens e

abbrev pub SomeDecision : Type 0
SomeDecision =
    (macros : Macros) (env : Env) (at : Place) (tokens : List Token) (meter : Meter)
    → (c : Result Bool Fault) × (meter_after : Meter) × IsCondition macros env at tokens meter c meter_after

abbrev pub SomeReading : Type 0
SomeReading = (profile : Profile) (file : ℕ) (bytes : List ℕ) → (r : Result (List LogicalLine) Fault) × Reads profile file bytes r

abbrev pub SomeRow : Type 0
SomeRow = (names : List (List ℕ)) (cs : List Candidate) → (found : Option (ℕ × ℕ)) × IsFirstRow names cs found

abbrev pub SomeTree : Type 0
SomeTree = (lines : List LogicalLine) → group_fault [] lines ≡ None → (parts : GroupParts) × Tree lines parts

-- ---- conditions of lines, by their role

abbrev HasCondition : Option Directive → Type 0
HasCondition d = IsSome (question_by d)

opens_asks : (c : Class) → role_in c ≡ Opens → IsSome (question_in c)
opens_asks (class.Opens q) e = refl
opens_asks c e = absurd (cc)

opens_conditional : (d : Option Directive) → role_by d ≡ Opens → HasCondition d
opens_conditional None e = absurd (cc)
opens_conditional (Some d) e = opens_asks (class_of d) e

elif_asks : (c : Class) → role_in c ≡ Elses false → IsSome (question_in c)
elif_asks (class.Elifs q) e = refl
elif_asks c e = absurd (cc)

elif_conditional : (d : Option Directive) → role_by d ≡ Elses false → HasCondition d
elif_conditional None e = absurd (cc)
elif_conditional (Some d) e = elif_asks (class_of d) e

-- ---- lines

dropped_length : (k : ℕ) (ts : List Token) (n : ℕ) → length ts ≤ n → length (drop k (drop 1 ts)) ≤ n
dropped_length k ts n few =
    let one : length (drop 1 ts) ≡ length ts - 1 = length-drop 1 ts in
    let all : length (drop k (drop 1 ts)) ≡ length (drop 1 ts) - k = length-drop k (drop 1 ts) in
    omega arith

module _ (expansions : SomeExpansion) (decisions : SomeDecision) where
  some_run : (profile : Profile) (s : State) (tokens : List Token) → (m : Progress) × EmitsText profile s tokens m
  some_run profile s tokens =
      let e = expansions s.macros s.env (meter_at_text s.waiting s.meter) (s.waiting ++ tokens) in
      (text_emitted s e.0 (waits_in profile (open_expansion e.1)), record { expanded = e.0; expands = e.1; is = refl })

  asks_by : (header : Bool) (name : Option IncludeName) (s : State) (line tokens : List Token)
      → (include_name : Result IncludeName Fault) × (meter_after : Meter) × NamesHeaderBy header name s line tokens meter_after include_name
  asks_by true name s line tokens = (name_or (line_fault 30 line []) (if_possible_name name), s.meter, (refl, refl))
  asks_by false name s line tokens =
      let e = expansions s.macros s.env s.meter tokens in
      (name_of_expansion_or (line_fault 30 line []) e.0.fault e.0.tokens, e.0.meter, record { expanded = e.0; expands = e.1; leaves = refl; is = refl })

  some_asking : (s : State) (line : List Token) → (include_name : Result IncludeName Fault) × (meter_after : Meter) × NamesHeader s line meter_after include_name
  some_asking s line = asks_by (begins_with_header (operands line)) (name_of_header (operands line)) s line (operands line)

  -- the tokens with numbers for the has-include operators, by how many tokens there are at most
  abbrev SomeProbed : Search → ℕ → List Token → State → List Token → Type 0
  SomeProbed search row line s ts = (tokens : Result (List Token) Fault) × (meter_after : Meter) × Probes search row line s ts meter_after tokens

  -- up to n tokens have a result
  abbrev SomeFewer : Search → ℕ → List Token → ℕ → Type 0
  SomeFewer search row line n = (s : State) (ts : List Token) → length ts ≤ n → SomeProbed search row line s ts

  probed_named : (search : Search) (row : ℕ) (line : List Token) (n : ℕ) → SomeFewer search row line n
      → (s : State) (t : Token) (ts : List Token) (end : ℕ) (include_name : Result IncludeName Fault) (between : Meter)
      → length ts ≤ n
      → applies t ts ≡ true
      → operand_end (drop 1 ts) ≡ Some end
      → NamesOperand s line (take end (drop 1 ts)) between include_name
      → SomeProbed search row line s (t ∷ ts)
  probed_named search row line n fewer s t ts end (Err f) between few e ends names = (Err f, between, Probes.operand_fault e ends names)
  probed_named search row line n fewer s t ts end (Ok a) between few e ends names =
      let x = fewer (with_meter s between) (drop (suc end) (drop 1 ts)) (dropped_length (suc end) ts n few) in
      (after_first (number_for t (has_file search row (directory_before t s.directory) a)) x.0, x.1, Probes.operator a e ends names x.2)

  probed_operator : (search : Search) (row : ℕ) (line : List Token) (n : ℕ) → SomeFewer search row line n
      → (s : State) (t : Token) (ts : List Token) (end : Option ℕ)
      → length ts ≤ n
      → applies t ts ≡ true
      → operand_end (drop 1 ts) ≡ end
      → SomeProbed search row line s (t ∷ ts)
  probed_operator search row line n fewer s t ts None few e ends = (Err (line_fault 30 line []), s.meter, Probes.unclosed e ends)
  probed_operator search row line n fewer s t ts (Some end) few e ends =
      let operand : List Token = take end (drop 1 ts) in
      let x = asks_by (begins_with (codes "<") operand) (name_of_expansion operand) s line operand in
      probed_named search row line n fewer s t ts end x.0 x.1 few e ends x.2

  probed_first : (search : Search) (row : ℕ) (line : List Token) (n : ℕ) → SomeFewer search row line n
      → (s : State) (t : Token) (ts : List Token) (b : Bool)
      → length ts ≤ n
      → applies t ts ≡ b
      → SomeProbed search row line s (t ∷ ts)
  probed_first search row line n fewer s t ts false few e = let x = fewer s ts few in (after_first t x.0, x.1, Probes.other e x.2)
  probed_first search row line n fewer s t ts true few e = probed_operator search row line n fewer s t ts (operand_end (drop 1 ts)) few e refl

  probed_from : (search : Search) (row : ℕ) (line : List Token) (n : ℕ) → SomeFewer search row line n
  probed_from search row line n s [] few = (Ok [], s.meter, Probes.no_tokens)
  probed_from search row line zero s (t ∷ ts) few = absurd (omega arith)
  probed_from search row line (suc n) s (t ∷ ts) few =
      probed_first search row line n (λ state tokens fits. probed_from search row line n state tokens fits) s t ts (applies t ts) (omega arith) refl

  probing_by : (probes : Bool) (search : Search) (row : ℕ) (line : List Token) (s : State) (ts : List Token)
      → (tokens : Result (List Token) Fault) × (meter_after : Meter) × ProbesBy probes search row line s ts meter_after tokens
  probing_by true search row line s ts = probed_from search row line (length ts) s ts (omega arith)
  probing_by false search row line s ts = (Ok ts, s.meter, (refl, refl))

  -- a decision, with the budget that is left
  abbrev SomeDecided : Search → ℕ → State → LogicalLine → Type 0
  SomeDecided search row s line = (taken : Result Bool Fault) × (meter_after : Meter) × Decides search row s line meter_after taken

  evaluated : (search : Search) (row : ℕ) (s : State) (line : LogicalLine) (tokens : Result (List Token) Fault) (between : Meter)
      → unmatched_quote line.tokens ≡ None
      → question_by line.directive ≡ Some Value
      → ProbesLine search row s line.tokens between tokens
      → SomeDecided search row s line
  evaluated search row s line (Err f) between q v probes = (Err f, between, Decides.evaluates q v (DecidesByValue.probing_fault probes refl))
  evaluated search row s line (Ok tokens) between q v probes =
      let c = decisions s.macros s.env (hash_place line.tokens) tokens between in
      (c.0, c.1, Decides.evaluates q v (DecidesByValue.evaluated probes c.2))

  asked : (search : Search) (row : ℕ) (s : State) (line : LogicalLine) (question : Option Question)
      → unmatched_quote line.tokens ≡ None
      → question_by line.directive ≡ question
      → IsSome question
      → SomeDecided search row s line
  asked search row s line (Some Value) q v has =
      let x = probing_by (is_gnu search.profile) search row line.tokens s (operands line.tokens) in
      evaluated search row s line x.0 x.1 q v x.2
  asked search row s line (Some (Defined wanted)) q n has =
      (by_name wanted s.macros line.tokens (one_identifier (operands line.tokens)), s.meter, Decides.tests_name q n (refl, refl))
  asked search row s line None q v has = absurd (cc)

  deciding : (search : Search) (row : ℕ) (s : State) (line : LogicalLine) (quote : Option Fault) → unmatched_quote line.tokens ≡ quote → HasCondition line.directive → SomeDecided search row s line
  deciding search row s line None q has = asked search row s line (question_by line.directive) q refl has
  deciding search row s line (Some f) q has = (Err f, s.meter, Decides.unmatched q (refl, refl))

  some_deciding : (search : Search) (row : ℕ) (s : State) (line : LogicalLine) → HasCondition line.directive → SomeDecided search row s line
  some_deciding search row s line has = deciding search row s line (unmatched_quote line.tokens) refl has

  control_gives : (profile : Profile) (row : ℕ) (d : Directive) → class_of d ≡ class.Control → (s : State) (line : LogicalLine) → (m : Progress) × ExecutesDirective profile row (Some d) s line m
  control_gives profile row d is s line = gives (control_has_effect profile row d s line is)
    where
      gives : ((e : Effect) × (immediate_effect profile row (Some d) s line ≡ Some e)) ⊎ ((tokens : List Token) × (expanded_tokens profile (Some d) s line ≡ Some tokens)) → (m : Progress) × ExecutesDirective profile row (Some d) s line m
      gives (inl (e, does)) = (affected s e, executes profile row (Some d) s line (affected s e) (HasEffect.immediate does refl))
      gives (inr (tokens, is)) =
          let x = expansions s.macros s.env s.meter tokens in
          let m = affected (with_meter s x.0.meter) (expanding_effect (Some d) s row line x.0.fault x.0.tokens) in
          (m, executes profile row (Some d) s line m (HasEffect.expanding x.0 is x.1 refl))

  data Sort (profile : Profile) (row : ℕ) (d : Option Directive) : Type 0 where
    refuses : class_by d ≡ Some class.Error → Sort profile row d
    does_nothing : class_by d ≡ Some class.Ignored → Sort profile row d
    asks : (next : Bool) → checks_quotes (class_by d) ≡ true → class_by d ≡ Some (class.Includes next) → Sort profile row d
    does : checks_quotes (class_by d) ≡ true → ((s : State) (line : LogicalLine) → (m : Progress) × ExecutesDirective profile row d s line m) → Sort profile row d

  sort_in : (profile : Profile) (row : ℕ) (d : Directive) (c : Class) → class_of d ≡ c → role_in c ≡ ControlLine → Sort profile row (Some d)
  sort_in profile row d class.Error is e = refuses (ap Some is)
  sort_in profile row d class.Ignored is e = does_nothing (ap Some is)
  sort_in profile row d (class.Includes next) is e = asks next (ap (λ (c : Class). checks_quotes (Some c)) is) (ap Some is)
  sort_in profile row d class.Control is e = does (ap (λ (c : Class). checks_quotes (Some c)) is) (control_gives profile row d is)
  sort_in profile row d c is e = absurd (cc)

  sort_of : (profile : Profile) (row : ℕ) (d : Option Directive) → role_by d ≡ ControlLine → Sort profile row d
  sort_of profile row None e = absurd (cc)
  sort_of profile row (Some d) e = sort_in profile row d (class_of d) refl e

  module _ (readings : SomeReading) (trees : SomeTree) (rows : SomeRow) (context : Context) (known : KnowsAll context.names context.files) where
    abbrev SomeOpened : ℕ → Type 0
    SomeOpened depth =
        (at : Place) (s : State) (row : ℕ) (how : Opening)
        → row < length context.names
        → (m : Progress) × OpensFile context depth at s row how m

    module _ (depth : ℕ) (deeper : SomeOpened (suc depth)) where
      finding : (row : ℕ) (from : Option ℕ) (s : State) (line : LogicalLine) (meter_after : Meter) (a : IncludeName)
          → NamesHeader s line.tokens meter_after (Ok a)
          → (found : Option (ℕ × ℕ))
          → FindsFile context row from a found
          → (m : Progress) × ExecutesInclude context depth row from s line m
      finding row from s line meter_after a asking None finds =
          (stopped (with_meter s meter_after) (line_fault 31 line.tokens a.name), ExecutesInclude.missing a asking finds)
      finding row from s line meter_after a asking (Some found) finds =
          let within : found.0 < length context.names = first_within context.names (candidates_for (search_of context) row from a) (Some found) finds in
          let o = deeper (hash_place line.tokens) (with_meter s meter_after) found.0 (opening_of context row s line a found) within in
          (o.0, ExecutesInclude.included a found asking finds o.1)

      including : (row : ℕ) (from : Option ℕ) (s : State) (line : LogicalLine) (meter_after : Meter) (include_name : Result IncludeName Fault)
          → NamesHeader s line.tokens meter_after include_name
          → (m : Progress) × ExecutesInclude context depth row from s line m
      including row from s line meter_after (Err f) asking = (stopped (with_meter s meter_after) f, ExecutesInclude.operand_fault asking)
      including row from s line meter_after (Ok a) asking =
          let r = rows context.names (candidates_for (search_of context) row from a) in
          finding row from s line meter_after a asking r.0 r.1

      some_include : (row : ℕ) (from : Option ℕ) (s : State) (line : LogicalLine) → (m : Progress) × ExecutesInclude context depth row from s line m
      some_include row from s line = let a = some_asking s line.tokens in including row from s line a.1 a.0 a.2

      control_by : (row : ℕ) (s : State) (line : LogicalLine) (q r : Option Fault)
          → unmatched_quote line.tokens ≡ q
          → refusal s.waiting line.directive (operands line.tokens) ≡ r
          → Sort context.profile row line.directive
          → (m : Progress) × ExecutesControlLine context depth row s line m
      control_by row s line q r e waits (refuses is) = (stopped s (line_fault 34 line.tokens (message (operands line.tokens))), ExecutesControlLine.error is)
      control_by row s line q r e waits (does_nothing is) = (running s, ExecutesControlLine.ignored is)
      control_by row s line (Some f) r e waits (asks next looks is) = (stopped s f, ExecutesControlLine.quote_fault looks e)
      control_by row s line (Some f) r e waits (does looks by) = (stopped s f, ExecutesControlLine.quote_fault looks e)
      control_by row s line None (Some f) e waits (asks next looks is) = (stopped s f, ExecutesControlLine.refused looks e waits)
      control_by row s line None (Some f) e waits (does looks by) = (stopped s f, ExecutesControlLine.refused looks e waits)
      control_by row s line None None e free (asks next looks is) =
          let i = some_include row (if next then s.directory else None) s line in (i.0, ExecutesControlLine.include is e free i.1)
      control_by row s line None None e free (does looks by) = let m = by s line in (m.0, ExecutesControlLine.executed e free m.1)

      some_control : (row : ℕ) (s : State) (line : LogicalLine) → role line ≡ ControlLine → (m : Progress) × ExecutesControlLine context depth row s line m
      some_control row s line is =
          control_by row s line (unmatched_quote line.tokens) (refusal s.waiting line.directive (operands line.tokens)) refl refl
          (sort_of context.profile row line.directive is)

      -- a group has an outcome, after a state or a fault
      abbrev SomeGroup : ℕ → Progress → GroupParts → Type 0
      SomeGroup row r ps = (m : Progress) × ExecutesGroup context depth row r ps m

      abbrev SomeBranched : ℕ → State → Branches → Type 0
      SomeBranched row s bs = (m : Progress) × ExecutesBranches context depth row s bs m

      goes_on_by : (row : ℕ) (ps : GroupParts) → ((s : State) → SomeGroup row (running s) ps) → (s : State) (f : Option Fault) → SomeGroup row (record { state = s; fault = f }) ps
      goes_on_by row ps all s None = all s
      goes_on_by row ps all s (Some f) = (stopped s f, ExecutesGroup.already_stopped)

      goes_on : (row : ℕ) (ps : GroupParts) → ((s : State) → SomeGroup row (running s) ps) → (r : Progress) → SomeGroup row r ps
      goes_on row ps all r = goes_on_by row ps all r.state r.fault

      at_run : (row : ℕ) (s : State) (lines : List LogicalLine) (ps : GroupParts) → ((t : State) → SomeGroup row (running t) ps) → SomeGroup row (running s) (TextLines lines ps)
      at_run row s lines ps rest =
          let m = some_run context.profile s (text_tokens lines) in
          let g = goes_on row ps rest m.0 in
          (g.0, ExecutesGroup.text_lines m.1 g.1)

      at_control : (row : ℕ) (s : State) (line : LogicalLine) (ps : GroupParts) → role line ≡ ControlLine → ((t : State) → SomeGroup row (running t) ps) → SomeGroup row (running s) (Control line ps)
      at_control row s line ps is rest =
          let m = some_control row s line is in
          let g = goes_on row ps rest m.0 in
          (g.0, ExecutesGroup.control m.1 g.1)

      at_section : (row : ℕ) (s : State) (line : LogicalLine) (ps qs : GroupParts) (bs : Branches) (taken : Result Bool Fault) (meter_after : Meter)
          → Decides (search_of context) row s line meter_after taken
          → ((t : State) → SomeGroup row (running t) ps)
          → ((t : State) → SomeBranched row t bs)
          → ((t : State) → SomeGroup row (running t) qs)
          → SomeGroup row (running s) (Section line ps bs qs)
      at_section row s line ps qs bs (Err f) meter_after decides here branches rest = (stopped (with_meter s meter_after) f, ExecutesGroup.condition_fault decides)
      at_section row s line ps qs bs (Ok true) meter_after decides here branches rest =
          let m = here (with_meter s meter_after) in
          let g = goes_on row qs rest m.0 in
          (g.0, ExecutesGroup.taken decides m.1 g.1)
      at_section row s line ps qs bs (Ok false) meter_after decides here branches rest =
          let m = branches (with_meter s meter_after) in
          let g = goes_on row qs rest m.0 in
          (g.0, ExecutesGroup.skipped decides m.1 g.1)

      at_elif : (row : ℕ) (s : State) (line : LogicalLine) (ps : GroupParts) (bs : Branches) (taken : Result Bool Fault) (meter_after : Meter)
          → line.directive ≢ Some Else
          → Decides (search_of context) row s line meter_after taken
          → ((t : State) → SomeGroup row (running t) ps)
          → ((t : State) → SomeBranched row t bs)
          → SomeBranched row s (Branch line ps bs)
      at_elif row s line ps bs (Err f) meter_after is decides here more = (stopped (with_meter s meter_after) f, ExecutesBranches.branch_condition_fault is decides)
      at_elif row s line ps bs (Ok true) meter_after is decides here more = let m = here (with_meter s meter_after) in (m.0, ExecutesBranches.branch_taken is decides m.1)
      at_elif row s line ps bs (Ok false) meter_after is decides here more = let m = more (with_meter s meter_after) in (m.0, ExecutesBranches.branch_skipped is decides m.1)

      at_branch : (row : ℕ) (s : State) (line : LogicalLine) (ps : GroupParts) (bs : Branches) (final : Bool)
          → role line ≡ Elses final
          → ((t : State) → SomeGroup row (running t) ps)
          → ((t : State) → SomeBranched row t bs)
          → SomeBranched row s (Branch line ps bs)
      at_branch row s line ps bs true is here more = let m = here s in (m.0, ExecutesBranches.else_group (else_directive line.directive is) m.1)
      at_branch row s line ps bs false is here more =
          let d = some_deciding (search_of context) row s line (elif_conditional line.directive is) in
          at_elif row s line ps bs d.0 d.1 (not_else line.directive is) d.2 here more

      opening_line : (row : ℕ) (s : State) (line : LogicalLine) (ps qs : GroupParts) (bs : Branches)
          → role line ≡ Opens
          → ((t : State) → SomeGroup row (running t) ps)
          → ((t : State) → SomeBranched row t bs)
          → ((t : State) → SomeGroup row (running t) qs)
          → SomeGroup row (running s) (Section line ps bs qs)
      opening_line row s line ps qs bs is here branches rest =
          let d = some_deciding (search_of context) row s line (opens_conditional line.directive is) in
          at_section row s line ps qs bs d.0 d.1 d.2 here branches rest

      mutual
        some_group : (ps : GroupParts) → AreGroupParts ps → (row : ℕ) (s : State) → SomeGroup row (running s) ps
        some_group Done good row s = (running s, ExecutesGroup.no_parts)
        some_group (TextLines lines ps) good row s = at_run row s lines ps (λ t. some_group ps good.3 row t)
        some_group (Control line ps) good row s = at_control row s line ps good.0 (λ t. some_group ps good.1 row t)
        some_group (Section line ps bs qs) good row s =
            opening_line row s line ps qs bs good.0 (λ t. some_group ps good.1 row t) (λ t. some_branches bs false good.2 row t) (λ t. some_group qs good.3 row t)

        some_branches : (bs : Branches) (last : Bool) → AreBranches last bs → (row : ℕ) (s : State) → SomeBranched row s bs
        some_branches (End line) last good row s = (running s, ExecutesBranches.no_branch_taken)
        some_branches (Branch line ps bs) last (first, final, is, parts, more) row s =
            at_branch row s line ps bs final is (λ t. some_group ps parts row t) (λ t. some_branches bs final more row t)

      -- ---- a file

      tree_of : (profile : Profile) (row : ℕ) (bytes : List ℕ) (lines : List LogicalLine) → IsSource profile row bytes lines → (parts : GroupParts) × Tree lines parts
      tree_of profile row bytes lines is = trees lines (ap (λ x. group_fault [] x) is.lines_are ∙ is.grouped)

      reading_file : (at : Place) (s : State) (row : ℕ) (how : Opening) (bytes : List ℕ)
          → depth ≤ depth_limit
          → is_exhausted s.meter ≡ false
          → has_row row s.once ≡ false
          → file_at context.files row ≡ Some (readable bytes)
          → (r : Result (List LogicalLine) Fault)
          → Reads context.profile row bytes r
          → (m : Progress) × OpensFile context depth at s row how m
      reading_file at s row how bytes fits some new is (Err f) reads = (stopped (with_dependency (with_one_spent s) row) f, OpensFile.content_fault fits some new is reads)
      reading_file at s row how bytes fits some new is (Ok lines) reads =
          let t = tree_of context.profile row bytes lines reads in
          let g = some_group t.0 t.1.each row (entering at (with_one_spent s) row how) in
          (leaving s how (at_end g.0), OpensFile.read fits some new is reads t.1 g.1)

      at_content : (at : Place) (s : State) (row : ℕ) (how : Opening)
          → depth ≤ depth_limit
          → is_exhausted s.meter ≡ false
          → has_row row s.once ≡ false
          → (c : Option Content)
          → file_at context.files row ≡ c
          → IsSome c
          → (m : Progress) × OpensFile context depth at s row how m
      at_content at s row how fits some new None is there = absurd (cc)
      at_content at s row how fits some new (Some unreadable) is there =
          (stopped (with_dependency (with_one_spent s) row) (fault 6 at (name_in context.names row)), OpensFile.not_readable fits some new is)
      at_content at s row how fits some new (Some (readable bytes)) is there =
          let r = readings context.profile row bytes in
          reading_file at s row how bytes fits some new is r.0 r.1

      at_once : (at : Place) (s : State) (row : ℕ) (how : Opening) → row < length context.names
          → depth ≤ depth_limit
          → is_exhausted s.meter ≡ false
          → (b : Bool)
          → has_row row s.once ≡ b
          → (m : Progress) × OpensFile context depth at s row how m
      at_once at s row how within fits some true e = (running (with_dependency (with_one_spent s) row), OpensFile.not_read_again fits some e)
      at_once at s row how within fits some false e = at_content at s row how fits some e (file_at context.files row) refl (known row within)

      at_budget : (at : Place) (s : State) (row : ℕ) (how : Opening)
          → row < length context.names
          → depth ≤ depth_limit
          → (b : Bool)
          → is_exhausted s.meter ≡ b
          → (m : Progress) × OpensFile context depth at s row how m
      at_budget at s row how within fits true e = (stopped s (fault 35 at []), OpensFile.exhausted fits e)
      at_budget at s row how within fits false e = at_once at s row how within fits e (has_row row s.once) refl

      at_depth : (at : Place) (s : State) (row : ℕ) (how : Opening) → row < length context.names → (depth_limit < depth) ⊎ (depth ≤ depth_limit) → (m : Progress) × OpensFile context depth at s row how m
      at_depth at s row how within (inl deep) = (stopped s (fault 32 at (name_in context.names row)), OpensFile.too_deep deep)
      at_depth at s row how within (inr fits) = at_budget at s row how within fits (is_exhausted s.meter) refl

      some_opened : SomeOpened depth
      some_opened at s row how within = at_depth at s row how within (cases_lt depth_limit depth)

    -- by induction on the number of levels that remain
    opening : (n depth : ℕ) → 201 ≤ n + depth → SomeOpened depth
    opening zero depth h at s row how within = (stopped s (fault 32 at (name_in context.names row)), OpensFile.too_deep (omega arith))
    opening (suc n) depth h at s row how within = some_opened depth (opening n (suc depth) (omega arith)) at s row how within

    -- ---- a unit

    deeper_ones : SomeOpened 1
    deeper_ones = opening 200 1 (omega arith)

    defining : (defines : List (List ℕ)) (s : State) (r : Result (List LogicalLine) Fault) → Reads context.profile command_file (command_text defines) r → (m : Progress) × Defines context defines s m
    defining defines s (Err f) reads = (stopped s f, unread reads)
    defining defines s (Ok lines) reads =
        let t = tree_of 0 deeper_ones context.profile command_file (command_text defines) lines reads in
        let g = some_group 0 deeper_ones t.0 t.1.each command_file s in
        (at_end g.0, processed reads t.1 g.1)

    -- the files after one are opened unless it has a fault
    first_then : (main number : ℕ) (file : FirstFile) (files : List FirstFile) (s : State)
        → ((t : State) → (m : Progress) × OpensFirst context main (suc number) t files m)
        → (t : State) (f : Option Fault)
        → OpensFile context 1 (first_file_place number) s file.file (first_opening context.names main file) (record { state = t; fault = f })
        → (m : Progress) × OpensFirst context main number s (file ∷ files) m
    first_then main number file files s rest t (Some f) opens = (stopped t f, first_fault opens)
    first_then main number file files s rest t None opens = ((rest t).0, first_read opens (rest t).1)

    some_first : (main number : ℕ) (files : List FirstFile) → All (λ (f : FirstFile). f.file < length context.names) files → (s : State)
        → (m : Progress) × OpensFirst context main number s files m
    some_first main number [] within s = (running s, all_read)
    some_first main number (file ∷ files) within s =
        let inside = All-head (λ (f : FirstFile). f.file < length context.names) file files within in
        let o = deeper_ones (first_file_place number) s file.file (first_opening context.names main file) inside in
        first_then main number file files s (λ t. some_first main (suc number) files (All-tail (λ (f : FirstFile). f.file < length context.names) file files within) t)
        o.0.state o.0.fault o.1

    before_main : (unit : UnitOfList)
        → HasRows (length context.names) unit
        → (s t u : State) (f : Option Fault)
        → Defines context unit.defines.texts s (running t)
        → OpensFirst context unit.file (suc (length unit.defines.texts)) (before_first unit.file (main_name context.names unit) unit.first t) unit.first (record { state = u; fault = f })
        → (m : Progress) × Translates context unit s m
    before_main unit within s t u (Some f) d first = (stopped u f, fault_before_main d first)
    before_main unit within s t u None d first =
        let o = opening 201 0 (omega arith) (first_place unit.file) u unit.file (main_opening (main_name context.names unit)) within.0 in
        (o.0, translated d first o.1)

    after_defines : (unit : UnitOfList)
        → HasRows (length context.names) unit
        → (s t : State) (f : Option Fault)
        → Defines context unit.defines.texts s (record { state = t; fault = f })
        → (m : Progress) × Translates context unit s m
    after_defines unit within s t (Some f) d = (stopped t f, definitions_fault d)
    after_defines unit within s t None d =
        let first = some_first unit.file (suc (length unit.defines.texts)) unit.first within.1 (before_first unit.file (main_name context.names unit) unit.first t) in
        before_main unit within s t first.0.state first.0.fault d first.1

    some_translation : (unit : UnitOfList) → HasRows (length context.names) unit → (s : State) → (m : Progress) × Translates context unit s m
    some_translation unit within s =
        let r = readings context.profile command_file (command_text unit.defines.texts) in
        let d = defining unit.defines.texts s r.0 r.1 in
        after_defines unit within s d.0.state d.0.fault d.1

  pub some_unit : SomeReading → SomeTree → SomeRow → HasSomeValue
  some_unit readings trees rows names files setting unit known within =
      let t = some_translation readings trees rows (context_of_unit names files setting unit) known unit within (initial_state setting) in
      (output t.0, record { progress = t.0; translates = t.1; is_output = refl })
