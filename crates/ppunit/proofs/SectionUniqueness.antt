-- Over the same files an if-section has one outcome, if its groups have one each.
use Rattle.std.proofs.Common.{◌≡◌, ◌≢◌, ℕ, Bool, true, false, List, Some, Result, Ok, Err, refl, sym, subst}
use Rattle.pptext.specs.declared.tokens.Fault.{Fault}
use Rattle.pptext.specs.declared.sources.Directive.TheVariants.{Else}
use Rattle.pptext.specs.Lines.{LogicalLine}
use Rattle.pptext.specs.Tree.{GroupParts, Done, TextLines, Control, Section, Branches, End, Branch}
use Rattle.ppexpand.specs.declared.meter.Meter.{Meter}
use Rattle.ppunit.specs.States.{State, Context, Progress, running, stopped, with_meter, search_of}
use Rattle.ppunit.specs.DirectiveLines.{text_tokens}
use Rattle.ppunit.specs.Conditions.{Decides}
use Rattle.ppunit.specs.Directives.{EmitsText}
use Rattle.ppunit.specs.Group.{ExecutesGroup, ExecutesBranches, ExecutesControlLine}
use Rattle.ppunit.proofs.LineUniqueness.{OneExpansion, OneDecision, decides_once}

module _ (expansions : OneExpansion) (decisions : OneDecision) (context : Context) where
  abbrev pub AfterRun : ℕ → ℕ → State → List LogicalLine → GroupParts → Progress → Type 0
  AfterRun depth row s rs ps end = (m : Progress) × EmitsText context.profile s (text_tokens rs) m × ExecutesGroup context depth row m ps end

  pub at_run : {depth row : ℕ} {s : State} {rs : List LogicalLine} {ps : GroupParts} {end : Progress} → ExecutesGroup context depth row (running s) (TextLines rs ps) end → AfterRun depth row s rs ps end
  at_run (ExecutesGroup.text_lines {m = m} gives rest) = (m, gives, rest)

  abbrev pub AfterControl : ℕ → ℕ → State → LogicalLine → GroupParts → Progress → Type 0
  AfterControl depth row s line ps end = (m : Progress) × ExecutesControlLine context depth row s line m × ExecutesGroup context depth row m ps end

  pub at_control : {depth row : ℕ} {s : State} {line : LogicalLine} {ps : GroupParts} {end : Progress} → ExecutesGroup context depth row (running s) (Control line ps) end → AfterControl depth row s line ps end
  at_control (ExecutesGroup.control {m = m} here rest) = (m, here, rest)

  pub at_done : {depth row : ℕ} {s : State} {end : Progress} → ExecutesGroup context depth row (running s) Done end → running s ≡ end
  at_done ExecutesGroup.no_parts = refl

  pub at_stop : {depth row : ℕ} {s : State} {f : Fault} {ps : GroupParts} {end : Progress} → ExecutesGroup context depth row (stopped s f) ps end → stopped s f ≡ end
  at_stop ExecutesGroup.already_stopped = refl

  pub data AfterSection (depth row : ℕ) (s : State) (line : LogicalLine) (ps : GroupParts) (bs : Branches) (qs : GroupParts) : Progress → Type 0 where
    is_taken : {meter_after : Meter} {m end : Progress}
        → Decides (search_of context) row s line meter_after (Ok true)
        → ExecutesGroup context depth row (running (with_meter s meter_after)) ps m
        → ExecutesGroup context depth row m qs end
        → AfterSection depth row s line ps bs qs end
    is_skipped : {meter_after : Meter} {m end : Progress}
        → Decides (search_of context) row s line meter_after (Ok false)
        → ExecutesBranches context depth row (with_meter s meter_after) bs m
        → ExecutesGroup context depth row m qs end
        → AfterSection depth row s line ps bs qs end
    is_refused : {meter_after : Meter} {f : Fault} → Decides (search_of context) row s line meter_after (Err f) → AfterSection depth row s line ps bs qs (stopped (with_meter s meter_after) f)

  pub at_section : {depth row : ℕ} {s : State} {line : LogicalLine} {ps qs : GroupParts} {bs : Branches} {end : Progress}
      → ExecutesGroup context depth row (running s) (Section line ps bs qs) end
      → AfterSection depth row s line ps bs qs end
  at_section (ExecutesGroup.taken decides here rest) = is_taken decides here rest
  at_section (ExecutesGroup.skipped decides here rest) = is_skipped decides here rest
  at_section (ExecutesGroup.condition_fault decides) = is_refused decides

  pub at_endif : {depth row : ℕ} {s : State} {line : LogicalLine} {m : Progress} → ExecutesBranches context depth row s (End line) m → running s ≡ m
  at_endif ExecutesBranches.no_branch_taken = refl

  pub data AfterBranch (depth row : ℕ) (s : State) (line : LogicalLine) (ps : GroupParts) (bs : Branches) : Progress → Type 0 where
    is_else : {m : Progress} → line.directive ≡ Some Else → ExecutesGroup context depth row (running s) ps m → AfterBranch depth row s line ps bs m
    is_elif : {meter_after : Meter} {m : Progress}
        → line.directive ≢ Some Else
        → Decides (search_of context) row s line meter_after (Ok true)
        → ExecutesGroup context depth row (running (with_meter s meter_after)) ps m
        → AfterBranch depth row s line ps bs m
    is_passed : {meter_after : Meter} {m : Progress}
        → line.directive ≢ Some Else
        → Decides (search_of context) row s line meter_after (Ok false)
        → ExecutesBranches context depth row (with_meter s meter_after) bs m
        → AfterBranch depth row s line ps bs m
    is_faulty : {meter_after : Meter} {f : Fault}
        → line.directive ≢ Some Else
        → Decides (search_of context) row s line meter_after (Err f)
        → AfterBranch depth row s line ps bs (stopped (with_meter s meter_after) f)

  pub at_branch : {depth row : ℕ} {s : State} {line : LogicalLine} {ps : GroupParts} {bs : Branches} {m : Progress} → ExecutesBranches context depth row s (Branch line ps bs) m → AfterBranch depth row s line ps bs m
  at_branch (ExecutesBranches.else_group is here) = is_else is here
  at_branch (ExecutesBranches.branch_taken is decides here) = is_elif is decides here
  at_branch (ExecutesBranches.branch_skipped is decides rest) = is_passed is decides rest
  at_branch (ExecutesBranches.branch_condition_fault is decides) = is_faulty is decides

  -- ---- if-sections, by the decision of the first derivation

  abbrev SameGroup : ℕ → ℕ → Progress → GroupParts → Progress → Type 0
  SameGroup depth row r ps y = (z : Progress) → ExecutesGroup context depth row r ps z → y ≡ z

  abbrev SameBranches : ℕ → ℕ → State → Branches → Progress → Type 0
  SameBranches depth row s bs y = (z : Progress) → ExecutesBranches context depth row s bs z → y ≡ z

  -- Equal decisions of a line leave equal meters.
  taken_again : (depth row : ℕ) (s : State) (line : LogicalLine) (ps : GroupParts) (meter_after following : Meter) (decision : Result Bool Fault) (z : Progress)
      → Decides (search_of context) row s line meter_after decision
      → Decides (search_of context) row s line following decision
      → ExecutesGroup context depth row (running (with_meter s following)) ps z
      → ExecutesGroup context depth row (running (with_meter s meter_after)) ps z
  taken_again depth row s line ps meter_after following decision z decides decides' here =
      let remainders = sym (decides_once expansions decisions (search_of context) row s line meter_after following decision decision decides decides').1 in
      subst (λ (x : Meter). ExecutesGroup context depth row (running (with_meter s x)) ps z) remainders here

  skipped_again : (depth row : ℕ) (s : State) (line : LogicalLine) (bs : Branches) (meter_after following : Meter) (decision : Result Bool Fault) (z : Progress)
      → Decides (search_of context) row s line meter_after decision
      → Decides (search_of context) row s line following decision
      → ExecutesBranches context depth row (with_meter s following) bs z
      → ExecutesBranches context depth row (with_meter s meter_after) bs z
  skipped_again depth row s line bs meter_after following decision z decides decides' here =
      let remainders = sym (decides_once expansions decisions (search_of context) row s line meter_after following decision decision decides decides').1 in
      subst (λ (x : Meter). ExecutesBranches context depth row (with_meter s x) bs z) remainders here

  -- Equal faults with equal meters stop with equal outcomes.
  pub stopped_again : {A : Type 0} (s : State) (meter_after following : Meter) (f g : Fault)
      → ◌≡◌ {A = Result A Fault} (Err f) (Err g)
      → meter_after ≡ following
      → stopped (with_meter s meter_after) f ≡ stopped (with_meter s following) g
  stopped_again s meter_after following f g faults remainders = let same : f ≡ g = cc in λ i. stopped (with_meter s (remainders i)) (same i)

  refused_again : (row : ℕ) (s : State) (line : LogicalLine) (meter_after following : Meter) (f g : Fault)
      → Decides (search_of context) row s line meter_after (Err f)
      → Decides (search_of context) row s line following (Err g)
      → stopped (with_meter s meter_after) f ≡ stopped (with_meter s following) g
  refused_again row s line meter_after following f g decides decides' =
      let one = decides_once expansions decisions (search_of context) row s line meter_after following (Err f) (Err g) decides decides' in
      stopped_again {A = Bool} s meter_after following f g one.0 one.1

  same_decision : (row : ℕ) (s : State) (line : LogicalLine) (meter_after following : Meter) (a b : Result Bool Fault)
      → Decides (search_of context) row s line meter_after a
      → Decides (search_of context) row s line following b
      → a ≡ b
  same_decision row s line meter_after following a b p q = (decides_once expansions decisions (search_of context) row s line meter_after following a b p q).0

  pub after_taken : {depth row : ℕ} {s : State} {line : LogicalLine} {ps qs : GroupParts} {bs : Branches} {meter_after : Meter} {m y : Progress}
      → Decides (search_of context) row s line meter_after (Ok true)
      → SameGroup depth row (running (with_meter s meter_after)) ps m
      → SameGroup depth row m qs y
      → (z : Progress)
      → AfterSection depth row s line ps bs qs z
      → y ≡ z
  after_taken {depth = depth} {row = row} {s = s} {line = line} {ps = ps} {qs = qs} {meter_after = meter_after} decides here rest z (is_taken {meter_after = following} {m = n} decides' here' rest') =
      rest z (subst (λ x. ExecutesGroup context depth row x qs z) (sym (here n (taken_again depth row s line ps meter_after following (Ok true) n decides decides' here'))) rest')
  after_taken {row = row} {s = s} {line = line} {meter_after = meter_after} decides here rest z (is_skipped {meter_after = following} decides' here' rest') =
      let differs : Ok true ≡ Ok false = same_decision row s line meter_after following (Ok true) (Ok false) decides decides' in absurd (cc)
  after_taken {row = row} {s = s} {line = line} {meter_after = meter_after} decides here rest z (is_refused {meter_after = following} {f = f} decides') =
      let differs : Ok true ≡ Err f = same_decision row s line meter_after following (Ok true) (Err f) decides decides' in absurd (cc)

  pub after_skipped : {depth row : ℕ} {s : State} {line : LogicalLine} {ps qs : GroupParts} {bs : Branches} {meter_after : Meter} {m y : Progress}
      → Decides (search_of context) row s line meter_after (Ok false)
      → SameBranches depth row (with_meter s meter_after) bs m
      → SameGroup depth row m qs y
      → (z : Progress)
      → AfterSection depth row s line ps bs qs z
      → y ≡ z
  after_skipped {row = row} {s = s} {line = line} {meter_after = meter_after} decides here rest z (is_taken {meter_after = following} decides' here' rest') =
      let differs : Ok false ≡ Ok true = same_decision row s line meter_after following (Ok false) (Ok true) decides decides' in absurd (cc)
  after_skipped {depth = depth} {row = row} {s = s} {line = line} {qs = qs} {bs = bs} {meter_after = meter_after} decides here rest z (is_skipped {meter_after = following} {m = n} decides' here' rest') =
      rest z (subst (λ x. ExecutesGroup context depth row x qs z) (sym (here n (skipped_again depth row s line bs meter_after following (Ok false) n decides decides' here'))) rest')
  after_skipped {row = row} {s = s} {line = line} {meter_after = meter_after} decides here rest z (is_refused {meter_after = following} {f = f} decides') =
      let differs : Ok false ≡ Err f = same_decision row s line meter_after following (Ok false) (Err f) decides decides' in absurd (cc)

  pub after_refused : {depth row : ℕ} {s : State} {line : LogicalLine} {ps qs : GroupParts} {bs : Branches} {meter_after : Meter} {f : Fault}
      → Decides (search_of context) row s line meter_after (Err f)
      → (z : Progress)
      → AfterSection depth row s line ps bs qs z
      → stopped (with_meter s meter_after) f ≡ z
  after_refused {row = row} {s = s} {line = line} {meter_after = meter_after} {f = f} decides z (is_taken {meter_after = following} decides' here' rest') =
      let differs : Err f ≡ Ok true = same_decision row s line meter_after following (Err f) (Ok true) decides decides' in absurd (cc)
  after_refused {row = row} {s = s} {line = line} {meter_after = meter_after} {f = f} decides z (is_skipped {meter_after = following} decides' here' rest') =
      let differs : Err f ≡ Ok false = same_decision row s line meter_after following (Err f) (Ok false) decides decides' in absurd (cc)
  after_refused {row = row} {s = s} {line = line} {meter_after = meter_after} {f = f} decides z (is_refused {meter_after = following} {f = g} decides') =
      refused_again row s line meter_after following f g decides decides'

  not_both : (line : LogicalLine) → line.directive ≡ Some Else → line.directive ≢ Some Else → ⊥
  not_both line e f = f e

  pub after_else : {depth row : ℕ} {s : State} {line : LogicalLine} {ps : GroupParts} {bs : Branches} {y : Progress}
      → line.directive ≡ Some Else
      → SameGroup depth row (running s) ps y
      → (z : Progress)
      → AfterBranch depth row s line ps bs z
      → y ≡ z
  after_else is here z (is_else is' here') = here z here'
  after_else {line = line} is here z (is_elif is' decides here') = absurd (not_both line is is')
  after_else {line = line} is here z (is_passed is' decides rest) = absurd (not_both line is is')
  after_else {line = line} is here z (is_faulty is' decides) = absurd (not_both line is is')

  pub after_elif : {depth row : ℕ} {s : State} {line : LogicalLine} {ps : GroupParts} {bs : Branches} {meter_after : Meter} {y : Progress}
      → line.directive ≢ Some Else
      → Decides (search_of context) row s line meter_after (Ok true)
      → SameGroup depth row (running (with_meter s meter_after)) ps y
      → (z : Progress)
      → AfterBranch depth row s line ps bs z
      → y ≡ z
  after_elif {line = line} is decides here z (is_else is' here') = absurd (not_both line is' is)
  after_elif {depth = depth} {row = row} {s = s} {line = line} {ps = ps} {meter_after = meter_after} is decides here z (is_elif {meter_after = following} is' decides' here') =
      here z (taken_again depth row s line ps meter_after following (Ok true) z decides decides' here')
  after_elif {row = row} {s = s} {line = line} {meter_after = meter_after} is decides here z (is_passed {meter_after = following} is' decides' rest) =
      let differs : Ok true ≡ Ok false = same_decision row s line meter_after following (Ok true) (Ok false) decides decides' in absurd (cc)
  after_elif {row = row} {s = s} {line = line} {meter_after = meter_after} is decides here z (is_faulty {meter_after = following} {f = f} is' decides') =
      let differs : Ok true ≡ Err f = same_decision row s line meter_after following (Ok true) (Err f) decides decides' in absurd (cc)

  pub after_passed : {depth row : ℕ} {s : State} {line : LogicalLine} {ps : GroupParts} {bs : Branches} {meter_after : Meter} {y : Progress}
      → line.directive ≢ Some Else
      → Decides (search_of context) row s line meter_after (Ok false)
      → SameBranches depth row (with_meter s meter_after) bs y
      → (z : Progress)
      → AfterBranch depth row s line ps bs z
      → y ≡ z
  after_passed {line = line} is decides rest z (is_else is' here') = absurd (not_both line is' is)
  after_passed {row = row} {s = s} {line = line} {meter_after = meter_after} is decides rest z (is_elif {meter_after = following} is' decides' here') =
      let differs : Ok false ≡ Ok true = same_decision row s line meter_after following (Ok false) (Ok true) decides decides' in absurd (cc)
  after_passed {depth = depth} {row = row} {s = s} {line = line} {bs = bs} {meter_after = meter_after} is decides rest z (is_passed {meter_after = following} is' decides' rest') =
      rest z (skipped_again depth row s line bs meter_after following (Ok false) z decides decides' rest')
  after_passed {row = row} {s = s} {line = line} {meter_after = meter_after} is decides rest z (is_faulty {meter_after = following} {f = f} is' decides') =
      let differs : Ok false ≡ Err f = same_decision row s line meter_after following (Ok false) (Err f) decides decides' in absurd (cc)

  pub after_faulty : {depth row : ℕ} {s : State} {line : LogicalLine} {ps : GroupParts} {bs : Branches} {meter_after : Meter} {f : Fault}
      → line.directive ≢ Some Else
      → Decides (search_of context) row s line meter_after (Err f)
      → (z : Progress)
      → AfterBranch depth row s line ps bs z
      → stopped (with_meter s meter_after) f ≡ z
  after_faulty {line = line} is decides z (is_else is' here') = absurd (not_both line is' is)
  after_faulty {row = row} {s = s} {line = line} {meter_after = meter_after} {f = f} is decides z (is_elif {meter_after = following} is' decides' here') =
      let differs : Err f ≡ Ok true = same_decision row s line meter_after following (Err f) (Ok true) decides decides' in absurd (cc)
  after_faulty {row = row} {s = s} {line = line} {meter_after = meter_after} {f = f} is decides z (is_passed {meter_after = following} is' decides' rest) =
      let differs : Err f ≡ Ok false = same_decision row s line meter_after following (Err f) (Ok false) decides decides' in absurd (cc)
  after_faulty {row = row} {s = s} {line = line} {meter_after = meter_after} {f = f} is decides z (is_faulty {meter_after = following} {f = g} is' decides') =
      refused_again row s line meter_after following f g decides decides'
