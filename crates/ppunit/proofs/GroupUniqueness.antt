-- Over the same files a group, the opening of a file and a unit reach one state each, with one meter after it.
use Rattle.std.proofs.Common.{◌≡◌, ℕ, List, Option, Some, None, Result, Ok, Err, refl, sym, ap, ◌∙◌, subst, length, suc}
use Rattle.pptext.specs.declared.tokens.Place.{Place}
use Rattle.pptext.specs.declared.tokens.Fault.{Fault}
use Rattle.pptext.specs.Lines.{LogicalLine}
use Rattle.pptext.specs.Sources.{Reads}
use Rattle.pptext.specs.Tree.{GroupParts, Branches, Tree}
use Rattle.ppshelf.specs.Names.{AreNames}
use Rattle.ppunit.specs.States.{State, Context, Progress, running, stopped, leaving, Opening}
use Rattle.ppunit.specs.DirectiveLines.{text_tokens}
use Rattle.ppunit.specs.Directives.{at_end}
use Rattle.ppunit.specs.Group.{ExecutesGroup, ExecutesBranches, ExecutesControlLine, ExecutesInclude, OpensFile}
use Rattle.ppunit.specs.Unit.{Defines, unread, processed, Translates, definitions_fault, translated, command_file, command_text, first_place, OpensFirst, all_read, first_fault, first_read}
use Rattle.ppunit.specs.Unit.{before_first, main_name, fault_before_main, main_opening}
use Rattle.ppunit.specs.declared.units.FirstFile.{FirstFile}
use Rattle.ppunit.specs.declared.units.Unit.{Unit as UnitOfList}
use Rattle.ppunit.proofs.LineUniqueness.{OneExpansion, OneDecision, OneReading, OneTree, OneRow, run_once}
use Rattle.ppunit.proofs.SectionUniqueness.{AfterRun, at_run, AfterControl, at_control, at_done, at_stop, at_section, at_endif, at_branch, after_taken, after_skipped, after_refused, after_else, after_elif, after_passed}
use Rattle.ppunit.proofs.SectionUniqueness.{after_faulty}
use Rattle.ppunit.proofs.ControlLineUniqueness.{at_error, at_ignored, at_quote, at_refused, at_other, at_include, after_operand_fault, after_missing, after_included}
use Rattle.ppunit.proofs.OpeningUniqueness.{at_deep, at_over, at_known, at_unreadable, at_reading, after_fault, AfterLines, after_lines}

module _ (expansions : OneExpansion) (decisions : OneDecision) (readings : OneReading) (trees : OneTree) (rows : OneRow) where
  module _ (context : Context) (once : AreNames context.names) where
    mutual
      pub group_once : {depth row : ℕ} {r : Progress} {ps : GroupParts} {y : Progress} → ExecutesGroup context depth row r ps y → (z : Progress) → ExecutesGroup context depth row r ps z → y ≡ z
      group_once ExecutesGroup.already_stopped z d = at_stop expansions decisions context d
      group_once ExecutesGroup.no_parts z d = at_done expansions decisions context d
      group_once {depth} {row} (ExecutesGroup.text_lines {s = s} {lines = rs} {ps = ps} {m = m} gives rest) z d =
          let h : AfterRun expansions decisions context depth row s rs ps z = at_run expansions decisions context d in
          group_once rest z (subst (λ x. ExecutesGroup context depth row x ps z) (run_once expansions decisions context.profile s (text_tokens rs) h.0 m h.1 gives) h.2)
      group_once {depth} {row} (ExecutesGroup.control {s = s} {line = line} {ps = ps} here rest) z d =
          let h : AfterControl expansions decisions context depth row s line ps z = at_control expansions decisions context d in
          group_once rest z (subst (λ x. ExecutesGroup context depth row x ps z) (sym (control_once here h.0 h.1)) h.2)
      group_once (ExecutesGroup.taken decides here rest) z d =
          after_taken expansions decisions context decides (λ n g. group_once here n g) (λ n g. group_once rest n g) z (at_section expansions decisions context d)
      group_once (ExecutesGroup.skipped decides here rest) z d =
          after_skipped expansions decisions context decides (λ n g. branches_once here n g) (λ n g. group_once rest n g) z (at_section expansions decisions context d)
      group_once (ExecutesGroup.condition_fault decides) z d = after_refused expansions decisions context decides z (at_section expansions decisions context d)

      branches_once : {depth row : ℕ} {s : State} {bs : Branches} {y : Progress} → ExecutesBranches context depth row s bs y → (z : Progress) → ExecutesBranches context depth row s bs z → y ≡ z
      branches_once ExecutesBranches.no_branch_taken z d = at_endif expansions decisions context d
      branches_once (ExecutesBranches.else_group is here) z d = after_else expansions decisions context is (λ n g. group_once here n g) z (at_branch expansions decisions context d)
      branches_once (ExecutesBranches.branch_taken is decides here) z d = after_elif expansions decisions context is decides (λ n g. group_once here n g) z (at_branch expansions decisions context d)
      branches_once (ExecutesBranches.branch_skipped is decides rest) z d =
          after_passed expansions decisions context is decides (λ n g. branches_once rest n g) z (at_branch expansions decisions context d)
      branches_once (ExecutesBranches.branch_condition_fault is decides) z d = after_faulty expansions decisions context is decides z (at_branch expansions decisions context d)

      control_once : {depth row : ℕ} {s : State} {line : LogicalLine} {y : Progress} → ExecutesControlLine context depth row s line y → (z : Progress) → ExecutesControlLine context depth row s line z → y ≡ z
      control_once (ExecutesControlLine.error is) z d = at_error expansions decisions rows context once is d
      control_once (ExecutesControlLine.ignored is) z d = at_ignored expansions decisions rows context once is d
      control_once (ExecutesControlLine.quote_fault is q) z d = at_quote expansions decisions rows context once is q d
      control_once (ExecutesControlLine.refused is q waits) z d = at_refused expansions decisions rows context once is q waits d
      control_once (ExecutesControlLine.executed q free does) z d = at_other expansions decisions rows context once q free does d
      control_once (ExecutesControlLine.include is q free here) z d = includes_once here z (at_include expansions decisions rows context once is q free d)

      includes_once : {depth row : ℕ} {following : Option ℕ} {s : State} {line : LogicalLine} {y : Progress}
          → ExecutesInclude context depth row following s line y
          → (z : Progress)
          → ExecutesInclude context depth row following s line z
          → y ≡ z
      includes_once (ExecutesInclude.operand_fault asks) z d = after_operand_fault expansions decisions rows context once asks d
      includes_once (ExecutesInclude.missing a asks finds) z d = after_missing expansions decisions rows context once a asks finds d
      includes_once (ExecutesInclude.included a found asks finds opens) z d = opened_once opens z (after_included expansions decisions rows context once a found asks finds d)

      pub opened_once : {depth row : ℕ} {how : Opening} {at : Place} {s : State} {y : Progress} → OpensFile context depth at s row how y → (z : Progress) → OpensFile context depth at s row how z → y ≡ z
      opened_once (OpensFile.too_deep deep) z d = at_deep readings trees context deep d
      opened_once (OpensFile.exhausted fits spent) z d = at_over readings trees context fits spent d
      opened_once (OpensFile.not_read_again fits some known) z d = at_known readings trees context fits some known d
      opened_once (OpensFile.not_readable fits some new is) z d = at_unreadable readings trees context fits some new is d
      opened_once (OpensFile.content_fault {bytes = bytes} {f = f} fits some new is reads) z d =
          after_fault readings trees context refl (at_reading readings trees context bytes (Err f) fits some new is reads d)
      opened_once {depth} {row} {how} {at} {s} (OpensFile.read {bytes = bytes} {lines = lines} {parts = parts} fits some new is reads tree here) z d =
          let h : AfterLines readings trees context depth at s row how parts z = after_lines readings trees context refl tree (at_reading readings trees context bytes (Ok lines) fits some new is reads d) in
          ap (λ x. leaving s how (at_end x)) (group_once here h.0 h.2) ∙ sym h.1

    command_reading : (defines : List (List ℕ)) (x y : Result (List LogicalLine) Fault)
        → Reads context.profile command_file (command_text defines) x
        → Reads context.profile command_file (command_text defines) y
        → x ≡ y
    command_reading defines x y p q = readings context.profile command_file (command_text defines) x y p q

    data AfterCommands (s : State) : Result (List LogicalLine) Fault → Progress → Type 0 where
      is_unread : {f : Fault} → AfterCommands s (Err f) (stopped s f)
      is_processed : {lines : List LogicalLine} {parts : GroupParts} {m : Progress} → Tree lines parts → ExecutesGroup context 0 command_file (running s) parts m → AfterCommands s (Ok lines) (at_end m)

    at_commands : {defines : List (List ℕ)} {s : State} {m : Progress} (x : Result (List LogicalLine) Fault)
        → Reads context.profile command_file (command_text defines) x
        → Defines context defines s m → AfterCommands s x m
    at_commands {defines = defines} {s = s} x p (unread {f = f} reads) = subst (λ z. AfterCommands s z (stopped s f)) (command_reading defines (Err f) x reads p) is_unread
    at_commands {defines = defines} {s = s} x p (processed {lines = lines} {m = m} reads tree here) =
        subst (λ z. AfterCommands s z (at_end m)) (command_reading defines (Ok lines) x reads p) (is_processed tree here)

    unread_once : {s : State} {f : Fault} {x : Result (List LogicalLine) Fault} {m : Progress} → Err f ≡ x → AfterCommands s x m → stopped s f ≡ m
    unread_once {s = s} {f = f} e (is_unread {f = g}) = let same : f ≡ g = cc in ap (λ x. stopped s x) same
    unread_once e (is_processed tree here) = absurd (cc)

    processed_once : {s : State} {lines : List LogicalLine} {parts : GroupParts} {y : Progress} {x : Result (List LogicalLine) Fault} {m : Progress}
        → Ok lines ≡ x
        → Tree lines parts
        → ExecutesGroup context 0 command_file (running s) parts y
        → AfterCommands s x m
        → at_end y ≡ m
    processed_once e tree here is_unread = absurd (cc)
    processed_once {s = s} {lines = lines} {parts = parts} e tree here (is_processed {lines = lines'} {parts = parts'} {m = n} tree' here') =
        let same : lines' ≡ lines = cc in
        ap at_end (group_once here n (subst (λ z. ExecutesGroup context 0 command_file (running s) z n) (trees lines parts' parts (subst (λ z. Tree z parts') same tree') tree) here'))

    defines_once : {defines : List (List ℕ)} {s : State} {y : Progress} → Defines context defines s y → (z : Progress) → Defines context defines s z → y ≡ z
    defines_once (unread {f = f} reads) z d = unread_once refl (at_commands (Err f) reads d)
    defines_once (processed {lines = lines} reads tree here) z d = processed_once refl tree here (at_commands (Ok lines) reads d)

    first_once : {main number : ℕ} {s : State} {files : List FirstFile} {y : Progress} → OpensFirst context main number s files y
        → (z : Progress)
        → OpensFirst context main number s files z
        → y ≡ z
    first_once all_read z all_read = refl
    first_once (first_fault {t = t} {f = f} opens) z (first_fault {t = t'} {f = f'} opens') = opened_once opens (stopped t' f') opens'
    first_once (first_fault {f = f} opens) z (first_read {t = t'} opens' rest') =
        let one = opened_once opens (running t') opens' in
        let no_fault : Some f ≡ None = λ i. (one i).fault in absurd (cc)
    first_once (first_read {t = t} opens rest) z (first_fault {t = t'} {f = f'} opens') =
        let one = opened_once opens (stopped t' f') opens' in
        let no_fault : None ≡ Some f' = λ i. (one i).fault in absurd (cc)
    first_once {main} {number} (first_read {t = t} {files = files} opens rest) z (first_read {t = t'} opens' rest') =
        let one = opened_once opens (running t') opens' in
        let states : t' ≡ t = λ i. ((sym one) i).state in
        first_once rest z (subst (λ (x : State). OpensFirst context main (suc number) x files z) states rest')

    abbrev BeforeMain : UnitOfList → State → Progress → Type 0
    BeforeMain unit t m = OpensFirst context unit.file (suc (length unit.defines.texts)) (before_first unit.file (main_name context.names unit) unit.first t) unit.first m

    undefined_once : {unit : UnitOfList} {s t : State} {f : Fault} {m : Progress} → Defines context unit.defines.texts s (stopped t f) → Translates context unit s m → stopped t f ≡ m
    undefined_once here (definitions_fault {t = t'} {f = f'} here') = defines_once here (stopped t' f') here'
    undefined_once {f = f} here (fault_before_main {t = t'} here' first) =
        let one = defines_once here (running t') here' in
        let no_fault : Some f ≡ None = λ i. (one i).fault in absurd (cc)
    undefined_once {f = f} here (translated {t = t'} here' first opens) =
        let one = defines_once here (running t') here' in
        let no_fault : Some f ≡ None = λ i. (one i).fault in absurd (cc)

    -- the files that are read first, after the same definitions
    same_first : (unit : UnitOfList) {s t t' : State} {y z : Progress} → Defines context unit.defines.texts s (running t) → BeforeMain unit t y
        → Defines context unit.defines.texts s (running t') → BeforeMain unit t' z → y ≡ z
    same_first unit {t = t} {t' = t'} {z = z} here first here' first' =
        let one = defines_once here (running t') here' in
        let states : t' ≡ t = λ i. ((sym one) i).state in
        first_once first z (subst (λ (x : State). BeforeMain unit x z) states first')

    stopped_first : {unit : UnitOfList} {s t u : State} {f : Fault} {m : Progress} → Defines context unit.defines.texts s (running t) → BeforeMain unit t (stopped u f)
        → Translates context unit s m → stopped u f ≡ m
    stopped_first here first (definitions_fault {t = t'} {f = f'} here') =
        let one = defines_once here (stopped t' f') here' in
        let no_fault : None ≡ Some f' = λ i. (one i).fault in absurd (cc)
    stopped_first {unit} here first (fault_before_main here' first') = same_first unit here first here' first'
    stopped_first {unit} {f = f} here first (translated here' first' opens) =
        let one = same_first unit here first here' first' in
        let no_fault : Some f ≡ None = λ i. (one i).fault in absurd (cc)

    translated_once : {unit : UnitOfList} {s t u : State} {y m : Progress} → Defines context unit.defines.texts s (running t) → BeforeMain unit t (running u)
        → OpensFile context 0 (first_place unit.file) u unit.file (main_opening (main_name context.names unit)) y → Translates context unit s m → y ≡ m
    translated_once here first opens (definitions_fault {t = t'} {f = f'} here') =
        let one = defines_once here (stopped t' f') here' in
        let no_fault : None ≡ Some f' = λ i. (one i).fault in absurd (cc)
    translated_once {unit} here first opens (fault_before_main {f = f'} here' first') =
        let one = same_first unit here first here' first' in
        let no_fault : None ≡ Some f' = λ i. (one i).fault in absurd (cc)
    translated_once {unit} {u = u} {m = m} here first opens (translated {u = u'} here' first' opens') =
        let one = same_first unit here first here' first' in
        let states : u' ≡ u = λ i. ((sym one) i).state in
        opened_once opens m (subst (λ z. OpensFile context 0 (first_place unit.file) z unit.file (main_opening (main_name context.names unit)) m) states opens')

    pub translates_once : {unit : UnitOfList} {s : State} {y : Progress} → Translates context unit s y → (z : Progress) → Translates context unit s z → y ≡ z
    translates_once {unit} (definitions_fault here) z d = undefined_once {unit = unit} here d
    translates_once {unit} (fault_before_main here first) z d = stopped_first {unit = unit} here first d
    translates_once {unit} (translated here first opens) z d = translated_once {unit = unit} here first opens d
