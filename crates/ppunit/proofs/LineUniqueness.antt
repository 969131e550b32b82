-- The effect of a line that opens no file is unique, and so is the meter after it.
use Rattle.std.proofs.Common.{◌≡◌, ℕ, suc, Bool, true, false, List, [], ◌++◌, take, drop, codes, Option, None, Some, Result, refl, sym, ap, ◌∙◌, subst, Ok, Err}
use Rattle.std.proofs.lemmas.Bool.{false≢true}
use Rattle.pptext.specs.declared.tokens.Place.{Place}
use Rattle.pptext.specs.declared.tokens.Token.{Token}
use Rattle.pptext.specs.declared.tokens.Fault.{Fault}
use Rattle.pptext.specs.declared.sources.Profile.{Profile}
use Rattle.pptext.specs.declared.sources.Directive.{Directive}
use Rattle.pptext.specs.declared.directives.Question.TheVariants.{Defined, Value}
use Rattle.pptext.specs.Profiles.{is_gnu}
use Rattle.pptext.specs.Lines.{LogicalLine}
use Rattle.pptext.specs.Sources.{Reads}
use Rattle.pptext.specs.Tree.{hash_place, GroupParts, Tree}
use Rattle.ppmacro.specs.Names.{Macros}
use Rattle.ppexpand.specs.declared.meter.Meter.{Meter}
use Rattle.ppexpand.specs.declared.env.Env.{Env}
use Rattle.ppexpand.specs.Expansion.{Expansion}
use Rattle.ppexpand.specs.Expansion.{IsExpansion}
use Rattle.ppexpand.specs.OpenInvocations.{open_expansion}
use Rattle.ppexpand.proofs.OpenLists.{leaves_same}
use Rattle.ppexpr.specs.Conditions.{IsCondition}
use Rattle.ppshelf.specs.Names.{AreNames}
use Rattle.ppshelf.specs.Search.{Candidate, IsFirstRow}
use Rattle.ppunit.specs.States.{State, Progress, with_meter, Search}
use Rattle.ppunit.specs.DirectiveLines.{operands, line_fault, one_identifier}
use Rattle.ppunit.specs.Including.{IncludeName, begins_with_header, name_of_expansion_or, name_of_header, name_of_expansion}
use Rattle.ppunit.specs.Conditions.{by_name, Decides, DecidesByValue}
use Rattle.ppunit.specs.Probing.{begins_with, NamesOperand, directory_before, has_file, number_for, after_first, Probes, ProbesBy}
use Rattle.ppunit.specs.Directives.{EmitsText, meter_at_text, waits_in, text_emitted, ExecutesDirective, NamesHeader, NamesHeaderBy}
use Rattle.ppunit.specs.code.Effects.{affected, expanding_effect, HasEffect}
use Rattle.ppunit.proofs.DirectiveEffects.{effect_of, expanding_is_not_immediate}

abbrev pub OneExpansion : Type 0
OneExpansion =
    (macros : Macros) (env : Env) (meter : Meter) (tokens : List Token) (a b : Expansion) → IsExpansion macros env meter tokens a → IsExpansion macros env meter tokens b → a ≡ b

abbrev pub OneDecision : Type 0
OneDecision =
    (macros : Macros) (env : Env) (at : Place) (tokens : List Token) (meter meter_after following : Meter) (a b : Result Bool Fault)
    → IsCondition macros env at tokens meter a meter_after
    → IsCondition macros env at tokens meter b following
    → (a ≡ b) × (meter_after ≡ following)

abbrev pub OneReading : Type 0
OneReading =
    (profile : Profile) (file : ℕ) (bytes : List ℕ) (a b : Result (List LogicalLine) Fault) → Reads profile file bytes a → Reads profile file bytes b
    → a ≡ b

abbrev pub OneTree : Type 0
OneTree = (lines : List LogicalLine) (a b : GroupParts) → Tree lines a → Tree lines b → a ≡ b

abbrev pub OneRow : Type 0
OneRow = (names : List (List ℕ)) → AreNames names → (candidates : List Candidate) (a b : Option (ℕ × ℕ)) → IsFirstRow names candidates a → IsFirstRow names candidates b → a ≡ b

module _ (expansions : OneExpansion) (decisions : OneDecision) where
  -- Text lines have one expansion, and leave the same invocation open.
  pub run_once : (profile : Profile) (s : State) (tokens : List Token) (a b : Progress) → EmitsText profile s tokens a → EmitsText profile s tokens b → a ≡ b
  run_once profile s tokens a b p q =
      let meter : Meter = meter_at_text s.waiting s.meter in
      let all : List Token = s.waiting ++ tokens in
      let one = expansions s.macros s.env meter all p.expanded q.expanded p.expands q.expands in
      let opens : open_expansion p.expands ≡ open_expansion q.expands = leaves_same s.macros s.env meter all p.expanded q.expanded p.expands q.expands in
      p.is ∙ (λ i. text_emitted s (one i) (waits_in profile (opens i))) ∙ sym q.is

  effect_once : (profile : Profile) (row : ℕ) (d : Option Directive) (s : State) (r : LogicalLine) (a b : Progress)
      → HasEffect profile row d s r a
      → HasEffect profile row d s r b
      → a ≡ b
  effect_once profile row d s r a b (HasEffect.immediate {e = e} p made) (HasEffect.immediate {e = f} q gives) =
      let same : e ≡ f = cc in
      made ∙ ap (affected s) same ∙ sym gives
  effect_once profile row d s r a b (HasEffect.immediate {e = e} p made) (HasEffect.expanding {tokens = tokens} x is expands gives) = absurd (expanding_is_not_immediate profile row d s r tokens e is p)
  effect_once profile row d s r a b (HasEffect.expanding {tokens = tokens} x is expands made) (HasEffect.immediate {e = e} q gives) = absurd (expanding_is_not_immediate profile row d s r tokens e is q)
  effect_once profile row d s r a b (HasEffect.expanding {tokens = us} x is expands made) (HasEffect.expanding {tokens = vs} y is' expands' gives) =
      let same : vs ≡ us = cc in
      made
      ∙ ap (λ (e : Expansion). affected (with_meter s e.meter) (expanding_effect d s row r e.fault e.tokens))
      (expansions s.macros s.env s.meter us x y expands (subst (λ ts. IsExpansion s.macros s.env s.meter ts y) same expands'))
      ∙ sym gives

  pub control_by_once : (profile : Profile) (row : ℕ) (d : Option Directive) (s : State) (r : LogicalLine) (a b : Progress)
      → ExecutesDirective profile row d s r a
      → ExecutesDirective profile row d s r b
      → a ≡ b
  control_by_once profile row d s r a b p q = effect_once profile row d s r a b (effect_of profile row d s r a p) (effect_of profile row d s r b q)

  -- A result that costs nothing is unique, and so is the meter after it.
  free_once : {A : Type 0} (meter meter_after following : Meter) (is a b : A) → (meter_after ≡ meter) × (a ≡ is) → (following ≡ meter) × (b ≡ is) → (a ≡ b) × (meter_after ≡ following)
  free_once meter meter_after following is a b p q = (p.1 ∙ sym q.1, p.0 ∙ sym q.0)

  asks_by_once : (header : Bool) (name : Option IncludeName) (s : State) (line tokens : List Token) (meter_after following : Meter) (a b : Result IncludeName Fault)
      → NamesHeaderBy header name s line tokens meter_after a
      → NamesHeaderBy header name s line tokens following b
      → (a ≡ b) × (meter_after ≡ following)
  asks_by_once true name s line tokens meter_after following a b p q = free_once s.meter meter_after following _ a b p q
  asks_by_once false name s line tokens meter_after following a b p q =
      let one = expansions s.macros s.env s.meter tokens p.expanded q.expanded p.expands q.expands in (
        p.is ∙ ap (λ (e : Expansion). name_of_expansion_or (line_fault 30 line []) e.fault e.tokens) one ∙ sym q.is,
        p.leaves ∙ ap (λ (e : Expansion). e.meter) one ∙ sym q.leaves,
      )

  pub asks_once : (s : State) (line : List Token) (meter_after following : Meter) (a b : Result IncludeName Fault)
      → NamesHeader s line meter_after a
      → NamesHeader s line following b
      → (a ≡ b) × (meter_after ≡ following)
  asks_once s line meter_after following a b p q =
      asks_by_once (begins_with_header (operands line)) (name_of_header (operands line)) s line (operands line) meter_after following a b p q

  -- An operand names one header; with the same end it is the same operand.
  operand_once : (s : State) (line ts : List Token) (end last : ℕ) (meter_after following : Meter) (a b : Result IncludeName Fault)
      → Some end ≡ Some last
      → NamesOperand s line (take end ts) meter_after a
      → NamesOperand s line (take last ts) following b
      → (a ≡ b) × (meter_after ≡ following)
  operand_once s line ts end last meter_after following a b e p q =
      let same : last ≡ end = cc in
      let operand : List Token = take end ts in
      asks_by_once (begins_with (codes "<") operand) (name_of_expansion operand) s line operand meter_after following a b p
      (subst (λ (n : ℕ). NamesOperand s line (take n ts) following b) same q)

  -- An operator has one number, so that a list of tokens has one result.
  probes_once : {search : Search} {row : ℕ} {line : List Token} {s : State} {ts : List Token} {meter_after following : Meter} {a b : Result (List Token) Fault}
      → Probes search row line s ts meter_after a
      → Probes search row line s ts following b
      → (a ≡ b) × (meter_after ≡ following)
  probes_once Probes.no_tokens Probes.no_tokens = (refl, refl)
  probes_once (Probes.other {t = t} e p) (Probes.other e' q) = let x = probes_once p q in (ap (after_first t) x.0, x.1)
  probes_once (Probes.other e p) (Probes.unclosed e' none) = absurd (false≢true (sym e ∙ e'))
  probes_once (Probes.other e p) (Probes.operand_fault e' ends names) = absurd (false≢true (sym e ∙ e'))
  probes_once (Probes.other e p) (Probes.operator a e' ends names q) = absurd (false≢true (sym e ∙ e'))
  probes_once (Probes.unclosed e none) (Probes.other e' q) = absurd (false≢true (sym e' ∙ e))
  probes_once (Probes.unclosed e none) (Probes.unclosed e' none') = (refl, refl)
  probes_once (Probes.unclosed e none) (Probes.operand_fault {end = end} e' ends names) = let differs : None ≡ Some end = sym none ∙ ends in absurd (cc)
  probes_once (Probes.unclosed e none) (Probes.operator {end = end} a e' ends names q) = let differs : None ≡ Some end = sym none ∙ ends in absurd (cc)
  probes_once (Probes.operand_fault e ends names) (Probes.other e' q) = absurd (false≢true (sym e' ∙ e))
  probes_once (Probes.operand_fault {end = end} e ends names) (Probes.unclosed e' none) = let differs : None ≡ Some end = sym none ∙ ends in absurd (cc)
  probes_once {line = line} (Probes.operand_fault {s = s} {ts = ts} {end = end} {meter_after = m} {f = f} e ends names) (Probes.operand_fault {end = last} {meter_after = n} {f = g} e' ends' names') =
      let x = operand_once s line (drop 1 ts) end last m n (Err f) (Err g) (sym ends ∙ ends') names names' in
      let both : Err f ≡ Err g = x.0 in
      let same : f ≡ g = cc in
      (ap (λ (z : Fault). Err z) same, x.1)
  probes_once {line = line} (Probes.operand_fault {s = s} {ts = ts} {end = end} {meter_after = m} {f = f} e ends names) (Probes.operator {end = last} {meter_between = n} a e' ends' names' q) =
      let x = operand_once s line (drop 1 ts) end last m n (Err f) (Ok a) (sym ends ∙ ends') names names' in
      let differs : Err f ≡ Ok a = x.0 in
      absurd (cc)
  probes_once (Probes.operator a e ends names p) (Probes.other e' q) = absurd (false≢true (sym e' ∙ e))
  probes_once (Probes.operator {end = end} a e ends names p) (Probes.unclosed e' none) = let differs : None ≡ Some end = sym none ∙ ends in absurd (cc)
  probes_once {line = line} (Probes.operator {s = s} {ts = ts} {end = end} {meter_between = m} a e ends names p) (Probes.operand_fault {end = last} {meter_after = n} {f = f} e' ends' names') =
      let x = operand_once s line (drop 1 ts) last end n m (Err f) (Ok a) (sym ends' ∙ ends) names' names in
      let differs : Err f ≡ Ok a = x.0 in
      absurd (cc)
  probes_once {search} {row} {line} {meter_after = after_p} {following = after_q}
      (Probes.operator {s = s} {t = t} {ts = ts} {end = end} {meter_between = m} {tokens = us} a e ends names p)
      (Probes.operator {end = last} {meter_between = n} {tokens = vs} b e' ends' names' q) =
      let x = operand_once s line (drop 1 ts) end last m n (Ok a) (Ok b) (sym ends ∙ ends') names names' in
      let both : Ok a ≡ Ok b = x.0 in
      let header : a ≡ b = cc in
      let indices : Some last ≡ Some end = sym ends' ∙ ends in
      let same : last ≡ end = cc in
      let there : Probes search row line (with_meter s m) (drop (suc last) (drop 1 ts)) after_q vs =
      subst (λ (z : Meter). Probes search row line (with_meter s z) (drop (suc last) (drop 1 ts)) after_q vs) (sym x.1) q in
      let y = probes_once p (subst (λ (k : ℕ). Probes search row line (with_meter s m) (drop (suc k) (drop 1 ts)) after_q vs) same there) in
      ((λ i. after_first (number_for t (has_file search row (directory_before t s.directory) (header i))) (y.0 i)), y.1)

  probing_once : (probes : Bool) (search : Search) (row : ℕ) (line : List Token) (s : State) (ts : List Token) (meter_after following : Meter) (a b : Result (List Token) Fault)
      → ProbesBy probes search row line s ts meter_after a
      → ProbesBy probes search row line s ts following b
      → (a ≡ b) × (meter_after ≡ following)
  probing_once true search row line s ts meter_after following a b p q = probes_once p q
  probing_once false search row line s ts meter_after following a b p q = free_once s.meter meter_after following (Ok ts) a b p q

  values_once : {search : Search} {row : ℕ} {s : State} {line : List Token} {meter_after following : Meter} {a b : Result Bool Fault}
      → DecidesByValue search row s line meter_after a
      → DecidesByValue search row s line following b
      → (a ≡ b) × (meter_after ≡ following)
  values_once {search} {row} {s} {line} {meter_after = m} {following = n} (DecidesByValue.probing_fault {f = f} p e) (DecidesByValue.probing_fault {f = g} q e') =
      let x = probing_once (is_gnu search.profile) search row line s (operands line) m n (Err f) (Err g) p q in
      let both : Err f ≡ Err g = x.0 in
      let same : f ≡ g = cc in
      (e ∙ ap (λ (z : Fault). Err z) same ∙ sym e', x.1)
  values_once {search} {row} {s} {line} {meter_after = m} (DecidesByValue.probing_fault {f = f} p e) (DecidesByValue.evaluated {tokens = us} {meter_between = n} q condition) =
      let x = probing_once (is_gnu search.profile) search row line s (operands line) m n (Err f) (Ok us) p q in
      let differs : Err f ≡ Ok us = x.0 in
      absurd (cc)
  values_once {search} {row} {s} {line} {following = n} (DecidesByValue.evaluated {tokens = us} {meter_between = m} p condition) (DecidesByValue.probing_fault {f = f} q e) =
      let x = probing_once (is_gnu search.profile) search row line s (operands line) n m (Err f) (Ok us) q p in
      let differs : Err f ≡ Ok us = x.0 in
      absurd (cc)
  values_once {search} {row} {s} {line} {meter_after = after_p} {following = after_q} {a = a} {b = b}
      (DecidesByValue.evaluated {tokens = us} {meter_between = m} p condition)
      (DecidesByValue.evaluated {tokens = vs} {meter_between = n} q condition') =
      let x = probing_once (is_gnu search.profile) search row line s (operands line) m n (Ok us) (Ok vs) p q in
      let both : Ok us ≡ Ok vs = x.0 in
      let same : us ≡ vs = cc in
      decisions s.macros s.env (hash_place line) us m after_p after_q a b condition
      (subst (λ (z : List Token). IsCondition s.macros s.env (hash_place line) z m b after_q) (sym same)
      (subst (λ (z : Meter). IsCondition s.macros s.env (hash_place line) vs z b after_q) (sym x.1) condition'))

  -- A line has one question.
  decisions_once : {search : Search} {row : ℕ} {s : State} {line : LogicalLine} {meter_after following : Meter} {a b : Result Bool Fault}
      → Decides search row s line meter_after a
      → Decides search row s line following b
      → (a ≡ b) × (meter_after ≡ following)
  decisions_once {s = s} {meter_after = r} {following = t} {a = a} {b = b} (Decides.unmatched {f = f} q x) (Decides.unmatched {f = g} q' y) =
      let same : f ≡ g = cc in
      free_once s.meter r t (Err f) a b x (y.0, y.1 ∙ ap (λ (z : Fault). Err z) (sym same))
  decisions_once (Decides.unmatched q x) (Decides.tests_name q' n y) = absurd (cc)
  decisions_once (Decides.unmatched q x) (Decides.evaluates q' v y) = absurd (cc)
  decisions_once (Decides.tests_name q n x) (Decides.unmatched q' y) = absurd (cc)
  decisions_once {s = s} {line = line} {meter_after = r} {following = t} {a = a} {b = b} (Decides.tests_name {wanted = v} q n x) (Decides.tests_name {wanted = w} q' n' y) =
      let both : Some (Defined v) ≡ Some (Defined w) = sym n ∙ n' in
      let same : v ≡ w = cc in
      free_once s.meter r t _ a b x (y.0, y.1 ∙ ap (λ (z : Bool). by_name z s.macros line.tokens (one_identifier (operands line.tokens))) (sym same))
  decisions_once (Decides.tests_name {wanted = w} q n x) (Decides.evaluates q' v y) = let differs : Some (Defined w) ≡ Some Value = sym n ∙ v in absurd (cc)
  decisions_once (Decides.evaluates q v x) (Decides.unmatched q' y) = absurd (cc)
  decisions_once (Decides.evaluates q v x) (Decides.tests_name {wanted = w} q' n y) = let differs : Some (Defined w) ≡ Some Value = sym n ∙ v in absurd (cc)
  decisions_once (Decides.evaluates q v x) (Decides.evaluates q' v' y) = values_once x y

  pub decides_once : (search : Search) (row : ℕ) (s : State) (line : LogicalLine) (meter_after following : Meter) (a b : Result Bool Fault)
      → Decides search row s line meter_after a
      → Decides search row s line following b
      → (a ≡ b) × (meter_after ≡ following)
  decides_once search row s line meter_after following a b p q = decisions_once p q
