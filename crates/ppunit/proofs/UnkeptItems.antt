-- Whether items are kept changes nothing else.
use Rattle.std.proofs.Common.{take, drop, codes, length, ◌≡◌, ◌∙◌, ℕ, suc, List, [], ◌∷◌, Bool, true, false, Option, Some, None, Result, Ok, Err, refl, sym, subst, ap, map}
use Rattle.pptext.specs.declared.tokens.Token.{Token}
use Rattle.pptext.specs.declared.tokens.Fault.{Fault}
use Rattle.pptext.specs.declared.tokens.Place.{Place}
use Rattle.pptext.specs.declared.sources.Profile.{Profile}
use Rattle.pptext.specs.declared.sources.Directive.{Directive}
use Rattle.pptext.specs.Profiles.{is_gnu}
use Rattle.pptext.specs.Lines.{LogicalLine}
use Rattle.pptext.specs.Tree.{GroupParts, Branches}
use Rattle.ppexpand.specs.declared.meter.Meter.{Meter}
use Rattle.ppunit.specs.declared.units.Item.{Item}
use Rattle.ppunit.specs.declared.units.Item.TheVariants as item
use Rattle.ppunit.specs.declared.units.MarkSort.TheVariants as mark_sort
use Rattle.ppunit.specs.declared.units.FirstFile.{FirstFile}
use Rattle.ppunit.specs.declared.states.Resumption.{Resumption}
use Rattle.ppunit.specs.declared.units.Unit.{Unit as UnitOfList}
use Rattle.ppunit.specs.States.{State, Search, Context, Progress, kept, mark, with_meter, Opening, in_file, with_dependency, with_one_spent, file_context, in_file_context, named, resumed_by, resumed}
use Rattle.ppunit.specs.DirectiveLines.{text_tokens}
use Rattle.ppunit.specs.Conditions.{Decides, DecidesByValue}
use Rattle.ppunit.specs.Including.{IncludeName, name_of_header, name_of_expansion}
use Rattle.ppunit.specs.Directives.{EmitsText, ExecutesDirective, NamesHeaderBy, expanded_operands}
use Rattle.ppunit.specs.Probing.{begins_with, Probes, ProbesBy}
use Rattle.ppunit.specs.DirectiveLines.{operands}
use Rattle.ppunit.specs.Including.{begins_with_header}
use Rattle.ppunit.specs.Group.{ExecutesGroup, ExecutesBranches, ExecutesControlLine, ExecutesInclude, OpensFile}
use Rattle.ppunit.specs.Directives.{at_end}
use Rattle.ppunit.specs.Unit.{Defines, unread, processed, OpensFirst, all_read, first_fault, first_read, before_first, main_name, Translates, definitions_fault, fault_before_main, translated}
use Rattle.pptext.specs.declared.sources.Directive.TheVariants.{Null, Define, Undef, Line, Pragma, Unknown}
use Rattle.ppunit.specs.LineControl.{Presumed, presumed}
use Rattle.ppunit.specs.code.Effects.{Effect, affected, immediate_pragma, immediate_effect, line_effect, expanded_tokens, expanding_effect, HasEffect}
use Rattle.ppunit.proofs.DirectiveEffects.{effect_of, executes}

-- the state with other items, kept or not
abbrev pub holding_items : Bool → List Item → State → State
holding_items keeps items s = record s { keeps = keeps; items = items }

abbrev pub with_items : Bool → List Item → Progress → Progress
with_items keeps items m = record { state = holding_items keeps items m.state; fault = m.fault }

module _ (keeps : Bool) where
  text_any : (profile : Profile) (items : List Item) (s : State) (tokens : List Token) (m : Progress) → EmitsText profile s tokens m
      → (more : List Item) × EmitsText profile (holding_items keeps items s) tokens (with_items keeps more m)
  text_any profile items s tokens m g =
      let more : List Item = kept keeps items (map item.Token g.expanded.tokens) in
      (more, record { expanded = g.expanded; expands = g.expands; is = ap (with_items keeps more) g.is })

  asks_by_any : (header : Bool) (name : Option IncludeName) (s : State) (line tokens : List Token) (meter_after : Meter) (include_name : Result IncludeName Fault) (items : List Item)
      → NamesHeaderBy header name s line tokens meter_after include_name
      → NamesHeaderBy header name (holding_items keeps items s) line tokens meter_after include_name
  asks_by_any true name s line tokens meter_after include_name items g = g
  asks_by_any false name s line tokens meter_after include_name items g = record { expanded = g.expanded; expands = g.expands; leaves = g.leaves; is = g.is }

  probes_any : {search : Search} {row : ℕ} {line : List Token} {s : State} {ts : List Token} {meter_after : Meter} {tokens : Result (List Token) Fault} (items : List Item)
      → Probes search row line s ts meter_after tokens
      → Probes search row line (holding_items keeps items s) ts meter_after tokens
  probes_any items Probes.no_tokens = Probes.no_tokens
  probes_any items (Probes.other e rest) = Probes.other e (probes_any items rest)
  probes_any items (Probes.unclosed e none) = Probes.unclosed e none
  probes_any {line = line} items (Probes.operand_fault {s = s} {ts = ts} {end = end} {meter_after = meter_after} {f = f} e ends names) =
      let operand : List Token = take end (drop 1 ts) in
      Probes.operand_fault e ends (asks_by_any (begins_with (codes "<") operand) (name_of_expansion operand) s line operand meter_after (Err f) items names)
  probes_any {line = line} items (Probes.operator {s = s} {ts = ts} {end = end} {meter_between = between} a e ends names rest) =
      let operand : List Token = take end (drop 1 ts) in
      Probes.operator a e ends (asks_by_any (begins_with (codes "<") operand) (name_of_expansion operand) s line operand between (Ok a) items names) (probes_any items rest)

  probing_any : (probes : Bool) (search : Search) (row : ℕ) (line : List Token) (s : State) (ts : List Token) (meter_after : Meter) (tokens : Result (List Token) Fault) (items : List Item)
      → ProbesBy probes search row line s ts meter_after tokens
      → ProbesBy probes search row line (holding_items keeps items s) ts meter_after tokens
  probing_any true search row line s ts meter_after tokens items g = probes_any items g
  probing_any false search row line s ts meter_after tokens items g = g

  value_any : {search : Search} {row : ℕ} {s : State} {line : List Token} {meter_after : Meter} {taken : Result Bool Fault} (items : List Item)
      → DecidesByValue search row s line meter_after taken
      → DecidesByValue search row (holding_items keeps items s) line meter_after taken
  value_any {search} {row} {s} {line} {meter_after} items (DecidesByValue.probing_fault {f = f} probes e) =
      DecidesByValue.probing_fault (probing_any (is_gnu search.profile) search row line s (operands line) meter_after (Err f) items probes) e
  value_any {search} {row} {s} {line} items (DecidesByValue.evaluated {tokens = tokens} {meter_between = between} probes condition) =
      DecidesByValue.evaluated (probing_any (is_gnu search.profile) search row line s (operands line) between (Ok tokens) items probes) condition

  decides_any : {search : Search} {row : ℕ} {s : State} {line : LogicalLine} {meter_after : Meter} {taken : Result Bool Fault} (items : List Item)
      → Decides search row s line meter_after taken
      → Decides search row (holding_items keeps items s) line meter_after taken
  decides_any items (Decides.unmatched q d) = Decides.unmatched q d
  decides_any items (Decides.tests_name q k d) = Decides.tests_name q k d
  decides_any items (Decides.evaluates q k d) = Decides.evaluates q k (value_any items d)

  pragma_of_any_items : (os : Option (List Token)) (profile : Profile) (row : ℕ) (s : State) (line : LogicalLine) (items : List Item)
      → immediate_pragma os profile row (holding_items keeps items s) line ≡ immediate_pragma os profile row s line
  pragma_of_any_items None profile row s line items = refl
  pragma_of_any_items (Some tokens) profile row s line items = refl

  effect_of_any_items : (profile : Profile) (row : ℕ) (d : Option Directive) (s : State) (line : LogicalLine) (items : List Item)
      → immediate_effect profile row d (holding_items keeps items s) line ≡ immediate_effect profile row d s line
  effect_of_any_items profile row (Some Null) s line items = refl
  effect_of_any_items profile row (Some Define) s line items = refl
  effect_of_any_items profile row (Some Undef) s line items = refl
  effect_of_any_items profile row (Some Pragma) s line items = pragma_of_any_items (expanded_operands profile s.macros (operands line.tokens)) profile row s line items
  effect_of_any_items profile row (Some Unknown) s line items = refl
  effect_of_any_items profile row d s line items = refl

  line_of_any_items : (s : State) (row : ℕ) (line : LogicalLine) (f : Option Fault) (p : Option Presumed) (items : List Item) → line_effect s row line f p ≡ line_effect (holding_items keeps items s) row line f p
  line_of_any_items s row line (Some f) p items = refl
  line_of_any_items s row line None None items = refl
  line_of_any_items s row line None (Some p) items = refl

  tokens_of_any_items : (profile : Profile) (d : Option Directive) (s : State) (line : LogicalLine) (items : List Item) → expanded_tokens profile d (holding_items keeps items s) line ≡ expanded_tokens profile d s line
  tokens_of_any_items profile (Some Line) s line items = refl
  tokens_of_any_items profile (Some Pragma) s line items = refl
  tokens_of_any_items profile d s line items = refl

  expanding_of_any_items : (d : Option Directive) (s : State) (row : ℕ) (line : LogicalLine) (f : Option Fault) (tokens : List Token) (items : List Item)
      → expanding_effect d s row line f tokens ≡ expanding_effect d (holding_items keeps items s) row line f tokens
  expanding_of_any_items (Some Pragma) s row line (Some f) tokens items = refl
  expanding_of_any_items (Some Pragma) s row line None tokens items = refl
  expanding_of_any_items d s row line f tokens items = line_of_any_items s row line f (presumed tokens) items

  effect_any : (profile : Profile) (row : ℕ) (d : Option Directive) (s : State) (line : LogicalLine) (m : Progress) (items : List Item)
      → HasEffect profile row d s line m
      → (more : List Item) × HasEffect profile row d (holding_items keeps items s) line (with_items keeps more m)
  effect_any profile row d s line m items (HasEffect.immediate {e = e} does gives) =
      let more : List Item = kept keeps items e.items in
      (more, HasEffect.immediate (effect_of_any_items profile row d s line items ∙ does) (ap (with_items keeps more) gives))
  effect_any profile row d s line m items (HasEffect.expanding x does expands gives) =
      let e : Effect = expanding_effect d s row line x.fault x.tokens in
      let more : List Item = kept keeps items e.items in (
        more,
        HasEffect.expanding x (tokens_of_any_items profile d s line items ∙ does) expands
            (ap (with_items keeps more) gives ∙ ap (affected (with_meter (holding_items keeps items s) x.meter)) (expanding_of_any_items d s row line x.fault x.tokens items)),
      )

  directive_any : (profile : Profile) (row : ℕ) (d : Option Directive) (s : State) (line : LogicalLine) (m : Progress) (items : List Item)
      → ExecutesDirective profile row d s line m
      → (more : List Item) × ExecutesDirective profile row d (holding_items keeps items s) line (with_items keeps more m)
  directive_any profile row d s line m items g =
      let h = effect_any profile row d s line m items (effect_of profile row d s line m g) in
      (h.0, executes profile row d (holding_items keeps items s) line (with_items keeps h.0 m) h.1)

  -- the including file goes on, whatever the items are
  resumed_any_by : (r : Resumption) (items : List Item) (s : State) (f : Option Fault)
      → (more : List Item) × (with_items keeps more (resumed_by r s f) ≡ resumed_by r (holding_items keeps items s) f)
  resumed_any_by r items s None = (kept keeps items (item.Mark (mark s mark_sort.Leave r.row r.last) ∷ []), refl)
  resumed_any_by r items s (Some f) = (items, refl)

  resumed_any : (r : Option Resumption) (items : List Item) (m : Progress)
      → (more : List Item) × (with_items keeps more (resumed r m) ≡ resumed r (with_items keeps items m))
  resumed_any None items m = (items, refl)
  resumed_any (Some r) items m = resumed_any_by r items m.state m.fault

  module _ (context : Context) where
    mutual
      group_any : {depth row : ℕ} {r : Progress} {ps : GroupParts} {end : Progress} (items : List Item)
          → ExecutesGroup context depth row r ps end
          → (more : List Item) × ExecutesGroup context depth row (with_items keeps items r) ps (with_items keeps more end)
      group_any items ExecutesGroup.already_stopped = (items, ExecutesGroup.already_stopped)
      group_any items ExecutesGroup.no_parts = (items, ExecutesGroup.no_parts)
      group_any items (ExecutesGroup.text_lines {s = s} {lines = lines} {m = m} gives rest) =
          let here = text_any context.profile items s (text_tokens lines) m gives in
          let more = group_any here.0 rest in
          (more.0, ExecutesGroup.text_lines here.1 more.1)
      group_any items (ExecutesGroup.control line rest) =
          let here = control_any items line in
          let more = group_any here.0 rest in
          (more.0, ExecutesGroup.control here.1 more.1)
      group_any items (ExecutesGroup.taken decides group rest) =
          let here = group_any items group in
          let more = group_any here.0 rest in
          (more.0, ExecutesGroup.taken (decides_any items decides) here.1 more.1)
      group_any items (ExecutesGroup.skipped decides branches rest) =
          let here = branches_any items branches in
          let more = group_any here.0 rest in
          (more.0, ExecutesGroup.skipped (decides_any items decides) here.1 more.1)
      group_any items (ExecutesGroup.condition_fault decides) = (items, ExecutesGroup.condition_fault (decides_any items decides))

      branches_any : {depth row : ℕ} {s : State} {bs : Branches} {m : Progress} (items : List Item)
          → ExecutesBranches context depth row s bs m
          → (more : List Item) × ExecutesBranches context depth row (holding_items keeps items s) bs (with_items keeps more m)
      branches_any items ExecutesBranches.no_branch_taken = (items, ExecutesBranches.no_branch_taken)
      branches_any items (ExecutesBranches.else_group e group) =
          let here = group_any items group in
          (here.0, ExecutesBranches.else_group e here.1)
      branches_any items (ExecutesBranches.branch_taken e decides group) =
          let here = group_any items group in
          (here.0, ExecutesBranches.branch_taken e (decides_any items decides) here.1)
      branches_any items (ExecutesBranches.branch_skipped e decides rest) =
          let more = branches_any items rest in
          (more.0, ExecutesBranches.branch_skipped e (decides_any items decides) more.1)
      branches_any items (ExecutesBranches.branch_condition_fault e decides) = (items, ExecutesBranches.branch_condition_fault e (decides_any items decides))

      control_any : {depth row : ℕ} {s : State} {line : LogicalLine} {m : Progress} (items : List Item)
          → ExecutesControlLine context depth row s line m
          → (more : List Item) × ExecutesControlLine context depth row (holding_items keeps items s) line (with_items keeps more m)
      control_any items (ExecutesControlLine.error e) = (items, ExecutesControlLine.error e)
      control_any items (ExecutesControlLine.ignored e) = (items, ExecutesControlLine.ignored e)
      control_any items (ExecutesControlLine.quote_fault e q) = (items, ExecutesControlLine.quote_fault e q)
      control_any items (ExecutesControlLine.refused e q waits) = (items, ExecutesControlLine.refused e q waits)
      control_any {row = row} items (ExecutesControlLine.executed {s = s} {line = line} {m = m} q free does) =
          let here = directive_any context.profile row line.directive s line m items does in
          (here.0, ExecutesControlLine.executed q free here.1)
      control_any items (ExecutesControlLine.include e q free line) =
          let here = includes_any items line in
          (here.0, ExecutesControlLine.include e q free here.1)

      includes_any : {depth row : ℕ} {previous : Option ℕ} {s : State} {line : LogicalLine} {m : Progress} (items : List Item)
          → ExecutesInclude context depth row previous s line m
          → (more : List Item) × ExecutesInclude context depth row previous (holding_items keeps items s) line (with_items keeps more m)
      includes_any items (ExecutesInclude.operand_fault {s = s} {line = line} {meter_after = meter_after} {f = f} asks) =
          (items, ExecutesInclude.operand_fault (asks_by_any (begins_with_header (operands line.tokens)) (name_of_header (operands line.tokens)) s line.tokens (operands line.tokens) meter_after (Err f) items asks))
      includes_any items (ExecutesInclude.missing {s = s} {line = line} {meter_after = meter_after} a asks finds) =
          (items, ExecutesInclude.missing a (asks_by_any (begins_with_header (operands line.tokens)) (name_of_header (operands line.tokens)) s line.tokens (operands line.tokens) meter_after (Ok a) items asks) finds)
      includes_any items (ExecutesInclude.included {s = s} {line = line} {meter_after = meter_after} a found asks finds opens) =
          let here = opened_any items opens in
          (here.0, ExecutesInclude.included a found (asks_by_any (begins_with_header (operands line.tokens)) (name_of_header (operands line.tokens)) s line.tokens (operands line.tokens) meter_after (Ok a) items asks) finds here.1)

      opened_any : {depth row : ℕ} {how : Opening} {at : Place} {s : State} {m : Progress} (items : List Item)
          → OpensFile context depth at s row how m
          → (more : List Item) × OpensFile context depth at (holding_items keeps items s) row how (with_items keeps more m)
      opened_any items (OpensFile.too_deep deep) = (items, OpensFile.too_deep deep)
      opened_any items (OpensFile.exhausted fits spent) = (items, OpensFile.exhausted fits spent)
      opened_any items (OpensFile.not_read_again fits more once) = (items, OpensFile.not_read_again fits more once)
      opened_any items (OpensFile.not_readable fits more once file) = (items, OpensFile.not_readable fits more once file)
      opened_any items (OpensFile.content_fault fits more once file reads) = (items, OpensFile.content_fault fits more once file reads)
      opened_any {depth} {row} {how} {at} items (OpensFile.read {s = s} {m = m} fits more once file reads tree group) =
          let first : List Item = kept keeps items (item.Mark (mark (in_file (with_dependency (with_one_spent s) row) row how) (mark_sort.Enter at) row 0) ∷ []) in
          let here = group_any first group in
          let inner : Progress = record { state = in_file_context (file_context s) (at_end m).state; fault = (at_end m).fault } in
          let last = resumed_any how.resumption here.0 inner in (
            last.0,
            subst (λ (z : Progress). OpensFile context depth at (holding_items keeps items s) row how z) (sym last.1) (OpensFile.read fits more once file reads tree here.1),
          )

    defines_any : {defines : List (List ℕ)} {s : State} {m : Progress} (items : List Item)
        → Defines context defines s m
        → (more : List Item) × Defines context defines (holding_items keeps items s) (with_items keeps more m)
    defines_any items (unread reads) = (items, unread reads)
    defines_any items (processed reads tree group) =
        let here = group_any items group in
        (here.0, processed reads tree here.1)

    first_any : {main number : ℕ} {s : State} {files : List FirstFile} {m : Progress} (items : List Item)
        → OpensFirst context main number s files m
        → (more : List Item) × OpensFirst context main number (holding_items keeps items s) files (with_items keeps more m)
    first_any items all_read = (items, all_read)
    first_any items (first_fault opens) =
        let here = opened_any items opens in
        (here.0, first_fault here.1)
    first_any items (first_read opens rest) =
        let here = opened_any items opens in
        let more = first_any here.0 rest in
        (more.0, first_read here.1 more.1)

    named_any : (main : ℕ) (name : List ℕ) (files : List FirstFile) (items : List Item) (s : State)
        → (more : List Item) × (holding_items keeps more (before_first main name files s) ≡ before_first main name files (holding_items keeps items s))
    named_any main name [] items s = (items, refl)
    named_any main name (file ∷ files) items s = (kept keeps items (item.Mark (mark (named s name) mark_sort.Line main 0) ∷ []), refl)

    before_main_any : (unit : UnitOfList) (s : State) {m : Progress} (items : List Item)
        → OpensFirst context unit.file (suc (length unit.defines.texts)) (before_first unit.file (main_name context.names unit) unit.first s) unit.first m
        → (more : List Item)
        × OpensFirst context unit.file (suc (length unit.defines.texts)) (before_first unit.file (main_name context.names unit) unit.first (holding_items keeps items s))
        unit.first (with_items keeps more m)
    before_main_any unit s {m = m} items first =
        let here = named_any unit.file (main_name context.names unit) unit.first items s in
        let more = first_any here.0 first in (
          more.0,
          subst (λ (z : State). OpensFirst context unit.file (suc (length unit.defines.texts)) z unit.first (with_items keeps more.0 m)) here.1 more.1,
        )

    pub unit_any : {unit : UnitOfList} {s : State} {m : Progress} (items : List Item)
        → Translates context unit s m
        → (more : List Item) × Translates context unit (holding_items keeps items s) (with_items keeps more m)
    unit_any items (definitions_fault defines) =
        let here = defines_any items defines in
        (here.0, definitions_fault here.1)
    unit_any {unit} items (fault_before_main {t = t} defines first) =
        let here = defines_any items defines in
        let more = before_main_any unit t here.0 first in
        (more.0, fault_before_main here.1 more.1)
    unit_any {unit} items (translated {t = t} defines first opens) =
        let here = defines_any items defines in
        let more = before_main_any unit t here.0 first in
        let main = opened_any more.0 opens in
        (main.0, translated here.1 more.1 main.1)
