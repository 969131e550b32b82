-- Over the same files a control line has one outcome, if the file that it opens has one.
use Rattle.std.proofs.Common.{◌≡◌, ℕ, suc, List, Bool, true, Option, Some, None, Ok, Err, refl, sym, ap, ◌∙◌, subst, if◌then◌else◌}
use Rattle.pptext.specs.declared.tokens.Token.{Token}
use Rattle.pptext.specs.declared.tokens.Fault.{Fault}
use Rattle.pptext.specs.declared.directives.Class.{Class}
use Rattle.pptext.specs.declared.directives.Class.TheVariants as class
use Rattle.pptext.specs.Classes.{class_by}
use Rattle.pptext.specs.Lines.{LogicalLine}
use Rattle.pptext.specs.Tree.{hash_place}
use Rattle.ppexpand.specs.declared.meter.Meter.{Meter}
use Rattle.ppshelf.specs.Names.{AreNames}
use Rattle.ppunit.specs.ShownNames.{opening_of}
use Rattle.ppunit.specs.Including.{IncludeName}
use Rattle.ppunit.specs.States.{State, Context, Progress, running, stopped, with_meter}
use Rattle.ppunit.specs.DirectiveLines.{operands, line_fault}
use Rattle.ppunit.specs.Quotes.{unmatched_quote}
use Rattle.ppunit.specs.Directives.{ExecutesDirective, refusal, message, checks_quotes, NamesHeader, FindsFile}
use Rattle.ppunit.specs.Group.{ExecutesControlLine, ExecutesInclude, OpensFile}
use Rattle.ppunit.proofs.LineUniqueness.{OneExpansion, OneDecision, OneRow, control_by_once, asks_once}
use Rattle.ppunit.proofs.SectionUniqueness.{stopped_again}
use Rattle.ppunit.proofs.DirectiveEffects.{control_class}

-- A line whose quotes are checked is neither `#error` nor a line without effect.
error_quiet : (c : Option Class) → c ≡ Some class.Error → checks_quotes c ≡ true → ⊥
error_quiet c is looks = absurd (cc)

ignored_quiet : (c : Option Class) → c ≡ Some class.Ignored → checks_quotes c ≡ true → ⊥
ignored_quiet c is looks = absurd (cc)

-- A line is refused or not.
refused_or_free : {f : Fault} (s : State) (line : LogicalLine)
    → refusal s.waiting line.directive (operands line.tokens) ≡ Some f
    → refusal s.waiting line.directive (operands line.tokens) ≡ None
    → ⊥
refused_or_free {f = f} s line waits free = let differs : Some f ≡ None = sym waits ∙ free in absurd (cc)

module _ (expansions : OneExpansion) (decisions : OneDecision) (rows : OneRow) (context : Context) (once : AreNames context.names) where
  finds_once : (from : ℕ) (following : Option ℕ) (include_name : IncludeName) (a b : Option (ℕ × ℕ)) → FindsFile context from following include_name a → FindsFile context from following include_name b → a ≡ b
  finds_once from following include_name a b p q = rows context.names once _ a b p q

  not_other : (row : ℕ) (c : Class) (s : State) (line : LogicalLine) (m : Progress)
      → class_by line.directive ≡ Some c
      → ExecutesDirective context.profile row line.directive s line m
      → Some c ≡ Some class.Control
  not_other row c s line m is does = sym is ∙ control_class context.profile row line.directive s line m does

  pub at_error : {depth row : ℕ} {s : State} {line : LogicalLine} {m : Progress}
      → class_by line.directive ≡ Some class.Error
      → ExecutesControlLine context depth row s line m
      → stopped s (line_fault 34 line.tokens (message (operands line.tokens))) ≡ m
  at_error e (ExecutesControlLine.error is) = refl
  at_error e (ExecutesControlLine.ignored is) = let differs : Some class.Error ≡ Some class.Ignored = sym e ∙ is in absurd (cc)
  at_error {line = line} e (ExecutesControlLine.quote_fault is q) = absurd (error_quiet (class_by line.directive) e is)
  at_error {line = line} e (ExecutesControlLine.refused is q waits) = absurd (error_quiet (class_by line.directive) e is)
  at_error {row = row} {s = s} {line = line} {m = m} e (ExecutesControlLine.executed q free does) =
      let differs = not_other row class.Error s line m e does in absurd (cc)
  at_error e (ExecutesControlLine.include {include_next = next} is q free here) =
      let differs : Some class.Error ≡ Some (class.Includes next) = sym e ∙ is in absurd (cc)

  pub at_ignored : {depth row : ℕ} {s : State} {line : LogicalLine} {m : Progress}
      → class_by line.directive ≡ Some class.Ignored
      → ExecutesControlLine context depth row s line m
      → running s ≡ m
  at_ignored e (ExecutesControlLine.error is) = let differs : Some class.Ignored ≡ Some class.Error = sym e ∙ is in absurd (cc)
  at_ignored e (ExecutesControlLine.ignored is) = refl
  at_ignored {line = line} e (ExecutesControlLine.quote_fault is q) = absurd (ignored_quiet (class_by line.directive) e is)
  at_ignored {line = line} e (ExecutesControlLine.refused is q waits) = absurd (ignored_quiet (class_by line.directive) e is)
  at_ignored {row = row} {s = s} {line = line} {m = m} e (ExecutesControlLine.executed q free does) =
      let differs = not_other row class.Ignored s line m e does in absurd (cc)
  at_ignored e (ExecutesControlLine.include {include_next = next} is q free here) =
      let differs : Some class.Ignored ≡ Some (class.Includes next) = sym e ∙ is in absurd (cc)

  pub at_quote : {depth row : ℕ} {s : State} {line : LogicalLine} {f : Fault} {m : Progress}
      → checks_quotes (class_by line.directive) ≡ true
      → unmatched_quote line.tokens ≡ Some f
      → ExecutesControlLine context depth row s line m
      → stopped s f ≡ m
  at_quote {line = line} looks e (ExecutesControlLine.error is) = absurd (error_quiet (class_by line.directive) is looks)
  at_quote {line = line} looks e (ExecutesControlLine.ignored is) = absurd (ignored_quiet (class_by line.directive) is looks)
  at_quote {s = s} {f = f} looks e (ExecutesControlLine.quote_fault {f = g} is q) = let same : f ≡ g = cc in ap (λ x. stopped s x) same
  at_quote looks e (ExecutesControlLine.refused is q waits) = absurd (cc)
  at_quote looks e (ExecutesControlLine.executed q free does) = absurd (cc)
  at_quote looks e (ExecutesControlLine.include is q free here) = absurd (cc)

  pub at_refused : {depth row : ℕ} {s : State} {line : LogicalLine} {f : Fault} {m : Progress}
      → checks_quotes (class_by line.directive) ≡ true
      → unmatched_quote line.tokens ≡ None
      → refusal s.waiting line.directive (operands line.tokens) ≡ Some f
      → ExecutesControlLine context depth row s line m
      → stopped s f ≡ m
  at_refused {line = line} looks q waits (ExecutesControlLine.error is) = absurd (error_quiet (class_by line.directive) is looks)
  at_refused {line = line} looks q waits (ExecutesControlLine.ignored is) = absurd (ignored_quiet (class_by line.directive) is looks)
  at_refused looks q waits (ExecutesControlLine.quote_fault is e) = absurd (cc)
  at_refused {s = s} {f = f} looks q waits (ExecutesControlLine.refused {f = g} is q' waits') =
      let both : Some f ≡ Some g = sym waits ∙ waits' in
      let same : f ≡ g = cc in
      ap (λ x. stopped s x) same
  at_refused {s = s} {line = line} looks q waits (ExecutesControlLine.executed q' free does) = absurd (refused_or_free s line waits free)
  at_refused {s = s} {line = line} looks q waits (ExecutesControlLine.include is q' free here) = absurd (refused_or_free s line waits free)

  pub at_other : {depth row : ℕ} {s : State} {line : LogicalLine} {k m : Progress}
      → unmatched_quote line.tokens ≡ None
      → refusal s.waiting line.directive (operands line.tokens) ≡ None
      → ExecutesDirective context.profile row line.directive s line k
      → ExecutesControlLine context depth row s line m
      → k ≡ m
  at_other {row = row} {s = s} {line = line} {k = k} q free does (ExecutesControlLine.error is) =
      let differs = not_other row class.Error s line k is does in absurd (cc)
  at_other {row = row} {s = s} {line = line} {k = k} q free does (ExecutesControlLine.ignored is) =
      let differs = not_other row class.Ignored s line k is does in absurd (cc)
  at_other q free does (ExecutesControlLine.quote_fault is e) = absurd (cc)
  at_other {s = s} {line = line} q free does (ExecutesControlLine.refused is e waits) = absurd (refused_or_free s line waits free)
  at_other {row = row} {s = s} {line = line} {k = k} {m = m} q free does (ExecutesControlLine.executed e free' does') =
      control_by_once expansions decisions context.profile row line.directive s line k m does does'
  at_other {row = row} {s = s} {line = line} {k = k} q free does (ExecutesControlLine.include {include_next = next} is e free' here) =
      let differs = not_other row (class.Includes next) s line k is does in absurd (cc)

  pub at_include : {depth row : ℕ} {next : Bool} {s : State} {line : LogicalLine} {m : Progress}
      → class_by line.directive ≡ Some (class.Includes next)
      → unmatched_quote line.tokens ≡ None
      → refusal s.waiting line.directive (operands line.tokens) ≡ None
      → ExecutesControlLine context depth row s line m
      → ExecutesInclude context depth row (if next then s.directory else None) s line m
  at_include {next = next} e q free (ExecutesControlLine.error is) = let differs : Some (class.Includes next) ≡ Some class.Error = sym e ∙ is in absurd (cc)
  at_include {next = next} e q free (ExecutesControlLine.ignored is) = let differs : Some (class.Includes next) ≡ Some class.Ignored = sym e ∙ is in absurd (cc)
  at_include e q free (ExecutesControlLine.quote_fault is q') = absurd (cc)
  at_include {s = s} {line = line} e q free (ExecutesControlLine.refused is q' waits) = absurd (refused_or_free s line waits free)
  at_include {row = row} {next = next} {s = s} {line = line} {m = m} e q free (ExecutesControlLine.executed q' free' does) =
      let differs = not_other row (class.Includes next) s line m e does in absurd (cc)
  at_include {depth = depth} {row = row} {next = next} {s = s} {line = line} {m = m} e q free (ExecutesControlLine.include {include_next = other} is q' free' here) =
      let both : Some (class.Includes other) ≡ Some (class.Includes next) = sym is ∙ e in
      let same : other ≡ next = cc in
      subst (λ (b : Bool). ExecutesInclude context depth row (if b then s.directory else None) s line m) same here

  -- An include line names one header.
  same_asked : (s : State) (line : List Token) (meter_after following : Meter) (a b : IncludeName) → NamesHeader s line meter_after (Ok a) → NamesHeader s line following (Ok b) → a ≡ b
  same_asked s line meter_after following a b p q = let one : Ok a ≡ Ok b = (asks_once expansions decisions s line meter_after following (Ok a) (Ok b) p q).0 in cc

  pub after_operand_fault : {depth row : ℕ} {start : Option ℕ} {s : State} {line : LogicalLine} {meter_after : Meter} {f : Fault} {m : Progress}
      → NamesHeader s line.tokens meter_after (Err f)
      → ExecutesInclude context depth row start s line m
      → stopped (with_meter s meter_after) f ≡ m
  after_operand_fault {s = s} {line = line} {meter_after = meter_after} {f = f} asks (ExecutesInclude.operand_fault {meter_after = following} {f = g} asks') =
      let one = asks_once expansions decisions s line.tokens meter_after following (Err f) (Err g) asks asks' in
      stopped_again expansions decisions context {A = IncludeName} s meter_after following f g one.0 one.1
  after_operand_fault {s = s} {line = line} {meter_after = meter_after} {f = f} asks (ExecutesInclude.missing {meter_after = following} a asks' finds) =
      let one : Err f ≡ Ok a = (asks_once expansions decisions s line.tokens meter_after following (Err f) (Ok a) asks asks').0 in absurd (cc)
  after_operand_fault {s = s} {line = line} {meter_after = meter_after} {f = f} asks (ExecutesInclude.included {meter_after = following} a found asks' finds opens) =
      let one : Err f ≡ Ok a = (asks_once expansions decisions s line.tokens meter_after following (Err f) (Ok a) asks asks').0 in absurd (cc)

  pub after_missing : {depth row : ℕ} {start : Option ℕ} {s : State} {line : LogicalLine} {meter_after : Meter} {m : Progress} (a : IncludeName)
      → NamesHeader s line.tokens meter_after (Ok a)
      → FindsFile context row start a None
      → ExecutesInclude context depth row start s line m
      → stopped (with_meter s meter_after) (line_fault 31 line.tokens a.name) ≡ m
  after_missing {s = s} {line = line} {meter_after = meter_after} a asks finds (ExecutesInclude.operand_fault {meter_after = following} {f = f} asks') =
      let one : Ok a ≡ Err f = (asks_once expansions decisions s line.tokens meter_after following (Ok a) (Err f) asks asks').0 in absurd (cc)
  after_missing {s = s} {line = line} {meter_after = meter_after} a asks finds (ExecutesInclude.missing {meter_after = following} b asks' finds') =
      let same = same_asked s line.tokens meter_after following a b asks asks' in
      let remainders = (asks_once expansions decisions s line.tokens meter_after following (Ok a) (Ok b) asks asks').1 in
      λ i. stopped (with_meter s (remainders i)) (line_fault 31 line.tokens (same i).name)
  after_missing {row = row} {start = start} {s = s} {line = line} {meter_after = meter_after} a asks finds (ExecutesInclude.included {meter_after = following} b found asks' finds' opens) =
      let same = same_asked s line.tokens meter_after following a b asks asks' in
      let one : None ≡ Some found = finds_once row start b None (Some found) (subst (λ x. FindsFile context row start x None) same finds) finds' in absurd (cc)

  pub after_included : {depth row : ℕ} {start : Option ℕ} {s : State} {line : LogicalLine} {meter_after : Meter} {m : Progress} (a : IncludeName) (found : ℕ × ℕ)
      → NamesHeader s line.tokens meter_after (Ok a)
      → FindsFile context row start a (Some found)
      → ExecutesInclude context depth row start s line m
      → OpensFile context (suc depth) (hash_place line.tokens) (with_meter s meter_after) found.0 (opening_of context row s line a found) m
  after_included {s = s} {line = line} {meter_after = meter_after} a found asks finds (ExecutesInclude.operand_fault {meter_after = following} {f = f} asks') =
      let one : Ok a ≡ Err f = (asks_once expansions decisions s line.tokens meter_after following (Ok a) (Err f) asks asks').0 in absurd (cc)
  after_included {row = row} {start = start} {s = s} {line = line} {meter_after = meter_after} a found asks finds (ExecutesInclude.missing {meter_after = following} b asks' finds') =
      let same = same_asked s line.tokens meter_after following a b asks asks' in
      let one : Some found ≡ None = finds_once row start b (Some found) None (subst (λ x. FindsFile context row start x (Some found)) same finds) finds' in absurd (cc)
  after_included {depth = depth} {row = row} {start = start} {s = s} {line = line} {meter_after = meter_after} {m = m} a found asks finds
      (ExecutesInclude.included {meter_after = following} b other asks' finds' opens) =
      let same = same_asked s line.tokens meter_after following a b asks asks' in
      let one : Some found ≡ Some other = finds_once row start b (Some found) (Some other) (subst (λ x. FindsFile context row start x (Some found)) same finds) finds' in
      let same_row : other ≡ found = cc in
      let remainders = sym (asks_once expansions decisions s line.tokens meter_after following (Ok a) (Ok b) asks asks').1 in
      let named : OpensFile context (suc depth) (hash_place line.tokens) (with_meter s following) other.0 (opening_of context row s line a other) m =
      subst (λ (x : IncludeName). OpensFile context (suc depth) (hash_place line.tokens) (with_meter s following) other.0 (opening_of context row s line x other) m) (sym same) opens in
      subst (λ (x : Meter). OpensFile context (suc depth) (hash_place line.tokens) (with_meter s x) found.0 (opening_of context row s line a found) m) remainders
      (subst (λ (x : ℕ × ℕ). OpensFile context (suc depth) (hash_place line.tokens) (with_meter s following) x.0 (opening_of context row s line a x) m) same_row named)
