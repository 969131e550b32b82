-- The invariant of a loop over the expansion steps of a list, and the number of steps that remain.
use Rattle.std.proofs.Common.{◌≡◌, ◌∙◌, ℕ, suc, ◌<◌, MatchOption, List, [], ◌∷◌, ◌++◌, Option, Some, None, Ok, Err, refl, sym, ap, subst, arith, append_assoc, append-nil}
use Rattle.pptext.specs.declared.tokens.Fault.{Fault}
use Rattle.ppmacro.specs.Names.{Macros}
use Rattle.ppmacro.specs.HideSetPool.{HideSetPool}
use Rattle.ppmacro.specs.Hiding.{Hiding}
use Rattle.ppmacro.specs.HideSets.{hidings}
use Rattle.ppmacro.specs.declared.hidden_token.Hidden.{Hidden}
use Rattle.ppexpand.specs.declared.env.Env.{Env}
use Rattle.ppexpand.specs.declared.meter.Meter.{Meter}
use Rattle.ppexpand.specs.declared.expand_step.Invocation.{Invocation as CodeInvocation}
use Rattle.ppexpand.specs.ExpansionStep.{Invocation, ExpansionStep, ReplacementFault, Replaced, Invoked, arguments_to_expand, finish_by_parameter, ExpandedArguments, with_expanded}
use Rattle.ppexpand.specs.Budget.{spend_one}
use Rattle.ppexpand.specs.Expansion.{Outcome, step_in_budget, Expands, ExpandsTo, ExpandsArguments, token_fault, replacement_fault, argument_fault, invocation_fault, invocation_replaced, none, too_deep, pre_expanded, pre_expansion_fault}
use Rattle.ppexpand.specs.code.ProgramValues.{HasFailed, at_token, in_replacement, Advances, EndsWith, HasAdvanced, HasEnded, HasStepped, HasInvoked, ClosedStepsTo, fault_in_arguments, finishes, ExpandsArgument, expands, raises, deep}
use Rattle.ppexpand.specs.Laws.{by_invoking}
use Rattle.ppexpand.proofs.OutcomeExistence.{total}
use Rattle.ppexpand.proofs.OutcomeUniqueness.{same_outcome}

module _ (macros : Macros) (env : Env) (level : ℕ) where
  -- how many expansion steps a list takes
  abbrev pub turns_left : Meter → List Hiding → ℕ
  turns_left meter list = (total macros env level meter list).0

  -- Each outcome of `list` yields an outcome of `start`, with `tokens` emitted first.
  abbrev pub Follows : Meter → List Hiding → List Hiding → Meter → List Hiding → Type 0
  Follows first start tokens meter list = (n : ℕ) (out : Outcome) → Expands macros env level meter n list out → ExpandsTo macros env level first start (record { tokens = tokens ++ out.tokens; fault = out.fault; meter = out.meter })

  pub follows_start : (meter : Meter) (start : List Hiding) → Follows meter start [] meter start
  follows_start meter start n out d = (n, d)

  pub advances_falls : (meter : Meter) (list : List Hiding) (meter_after : Meter) (next tokens : List Hiding)
      → Advances macros env level meter list meter_after next tokens
      → turns_left meter_after next < turns_left meter list
  advances_falls meter list meter_after next tokens step =
      let here = total macros env level meter list in
      let there = total macros env level meter_after next in
      let more = step.prepends_step there.0 there.1 there.2 in
      let same = (same_outcome macros env more here.0 here.1 here.2).0 in
      rw (← same) (omega arith)

  pub follows_on : (first : Meter) (start emitted : List Hiding) (meter : Meter) (list : List Hiding) (meter_after : Meter) (next tokens : List Hiding)
      → Follows first start emitted meter list
      → Advances macros env level meter list meter_after next tokens
      → Follows first start (emitted ++ tokens) meter_after next
  follows_on first start emitted meter list meter_after next tokens so_far step n out d =
      let whole = so_far (suc n) _ (step.prepends_step n out d) in
      (whole.0, rw append_assoc whole.1)

  pub follows_end : (first : Meter) (start emitted : List Hiding) (meter : Meter) (list : List Hiding) (fault : Option Fault) (meter_after : Meter)
      → Follows first start emitted meter list
      → EndsWith macros env level meter list fault meter_after
      → ExpandsTo macros env level first start (record { tokens = emitted; fault = fault; meter = meter_after })
  follows_end first start emitted meter list fault meter_after so_far d =
      let whole = so_far 0 _ d in
      (whole.0, rw (append-nil emitted) at whole.1)

  -- A list ends at the fault of its step.
  pub failed_ends : (meter : Meter) (list : List Hiding) (f : Fault) {meter_after : Meter}
      → HasFailed (step_in_budget macros env meter list) meter f meter_after
      → EndsWith macros env level meter list (Some f) meter_after
  failed_ends meter list f (at_token e) = token_fault e
  failed_ends meter list f (in_replacement e) = replacement_fault e

  -- the invariant and the number of remaining steps after one expansion step
  pub more_follows : (first : Meter) (start emitted : List Hiding) (meter : Meter) (list : List Hiding) (meter_after : Meter) (next more : List Hiding)
      → Follows first start emitted meter list
      → HasAdvanced macros env level meter list emitted meter_after next more
      → Follows first start more meter_after next
  more_follows first start emitted meter list meter_after next more so_far step =
      subst (λ ts. Follows first start ts meter_after next) (sym step.1) (follows_on first start emitted meter list meter_after next step.0 so_far step.2)

  pub more_falls : (meter : Meter) (list emitted : List Hiding) (meter_after : Meter) (next more : List Hiding)
      → HasAdvanced macros env level meter list emitted meter_after next more
      → turns_left meter_after next < turns_left meter list
  more_falls meter list emitted meter_after next more step = advances_falls meter list meter_after next step.0 step.2

  pub end_follows : (first : Meter) (start emitted : List Hiding) (meter : Meter) (list : List Hiding) (fault : Option Fault) (meter_after : Meter) (more : List Hiding)
      → Follows first start emitted meter list
      → HasEnded macros env level meter list emitted fault meter_after more
      → ExpandsTo macros env level first start (record { tokens = more; fault = fault; meter = meter_after })
  end_follows first start emitted meter list fault meter_after more so_far end =
      subst (λ ts. ExpandsTo macros env level first start (record { tokens = ts; fault = fault; meter = meter_after })) (sym end.1)
      (follows_end first start emitted meter list fault meter_after so_far end.0)

-- ---- the step of an invocation

module _ (macros : Macros) (env : Env) (level : ℕ) (meter : Meter) (list : List Hiding) (invocation : Invocation) (found : step_in_budget macros env meter list ≡ Invoked invocation) where
  invocation_ends : {meter_after : Meter} {t : ExpansionStep}
      → ClosedStepsTo macros env level invocation (spend_one meter) meter_after t
      → (f : Fault)
      → t ≡ ReplacementFault f
      → EndsWith macros env level meter list (Some f) meter_after
  invocation_ends {meter_after} (fault_in_arguments args) f e =
      argument_fault found (subst (λ g. ExpandsArguments macros env level invocation (spend_one meter) (arguments_to_expand env invocation) meter_after (Err g)) (let same : _ ≡ f = cc e in same) args)
  invocation_ends (finishes args) f e = invocation_fault found args.2 (ap (finish_by_parameter invocation) (sym args.1) ∙ e)

  invocation_goes_on : {meter_after : Meter} {t : ExpansionStep}
      → ClosedStepsTo macros env level invocation (spend_one meter) meter_after t
      → (next : List Hiding)
      → t ≡ Replaced next
      → Advances macros env level meter list meter_after next []
  invocation_goes_on (fault_in_arguments args) next e = absurd (cc e)
  invocation_goes_on (finishes args) next e = record { prepends_step = λ n out d. invocation_replaced found args.2 (ap (finish_by_parameter invocation) (sym args.1) ∙ e) d; leads = by_invoking found args.2 (ap (finish_by_parameter invocation) (sym args.1) ∙ e) }

  -- If the invocation is replaced, the list advances by one expansion step.
  pub invocation_taken : (s : HideSetPool) (hs : List Hidden) (emitted more : List Hiding) (meter_after : Meter) → more ≡ emitted
      → ClosedStepsTo macros env level invocation (spend_one meter) meter_after (Replaced (hidings s hs))
      → HasAdvanced macros env level meter list emitted meter_after (hidings s hs) more
  invocation_taken s hs emitted more meter_after same h = ([], same ∙ sym (append-nil emitted), invocation_goes_on h (hidings s hs) refl)

  -- If the invocation fails, the list ends with the fault.
  pub invocation_raises : (emitted more : List Hiding) (f : Fault) (meter_after : Meter) → more ≡ emitted
      → ClosedStepsTo macros env level invocation (spend_one meter) meter_after (ReplacementFault f)
      → HasEnded macros env level meter list emitted (Some f) meter_after more
  invocation_raises emitted more f meter_after same h = (invocation_ends h f refl, same)

-- A step that raises a fault has not begun an invocation.
pub begun_raises : (macros : Macros) (env : Env) (level : ℕ) (meter : Meter) (list emitted : List Hiding) (found : Option CodeInvocation) (invocation : CodeInvocation → Invocation) (f : Fault) (meter_after : Meter) (next more : List Hiding)
    → MatchOption found ((level : ℕ) → HasStepped macros env level meter list emitted (Err f) meter_after next more) (λ c. HasInvoked macros env meter list emitted (invocation c) (Err f) meter_after more)
    → HasStepped macros env level meter list emitted (Err f) meter_after next more
begun_raises macros env level meter list emitted None invocation f meter_after next more h = h level
begun_raises macros env level meter list emitted (Some c) invocation f meter_after next more h = absurd (cc h.1)

-- prepends the expansions so far to those of the meter arguments
abbrev pub before_rest : List (List Hiding) → ExpandedArguments → ExpandedArguments
before_rest so_far (Ok as') = Ok (so_far ++ as')
before_rest so_far (Err fault) = Err fault

before_rest-more : (so_far : List (List Hiding)) (a : List Hiding) (r : ExpandedArguments) → before_rest so_far (with_expanded a r) ≡ before_rest (so_far ++ a ∷ []) r
before_rest-more so_far a (Ok as') = ap Ok (sym (append_assoc so_far (a ∷ []) as'))
before_rest-more so_far a (Err fault) = refl

module _ (macros : Macros) (env : Env) (level : ℕ) (invocation : Invocation) where
  -- Each result for the arguments in `rest` yields a result for `all`, with `so_far` first.
  abbrev pub ArgumentsFollow : Meter → List (List Hiding) → List (List Hiding) → Meter → List (List Hiding) → Type 0
  ArgumentsFollow first all so_far meter rest =
      (meter_after : Meter) (r : ExpandedArguments)
      → ExpandsArguments macros env level invocation meter rest meter_after r
      → ExpandsArguments macros env level invocation first all meter_after (before_rest so_far r)

  pub arguments_start : (meter : Meter) (all : List (List Hiding)) → ArgumentsFollow meter all [] meter all
  arguments_start meter all meter_after (Ok as') d = d
  arguments_start meter all meter_after (Err f) d = d

  pub arguments_used : (first : Meter) (all so_far : List (List Hiding)) (meter between : Meter) (rest : List (List Hiding)) (list tokens : List Hiding)
      → ArgumentsFollow first all so_far meter (list ∷ rest)
      → ExpandsArgument macros env level invocation.name_token.token meter list between (Ok tokens)
      → ArgumentsFollow first all (so_far ++ tokens ∷ []) between rest
  arguments_used first all so_far meter between rest list tokens h (expands low one) meter_after r d =
      subst (ExpandsArguments macros env level invocation first all meter_after) (before_rest-more so_far tokens r) (h meter_after (with_expanded tokens r) (pre_expanded low one d))

  pub arguments_refused : (first : Meter) (all so_far : List (List Hiding)) (meter meter_after : Meter) (rest : List (List Hiding)) (list : List Hiding) (f : Fault)
      → ArgumentsFollow first all so_far meter (list ∷ rest)
      → ExpandsArgument macros env level invocation.name_token.token meter list meter_after (Err f)
      → ExpandsArguments macros env level invocation first all meter_after (Err f)
  arguments_refused first all so_far meter meter_after rest list f h (raises low one) = h meter_after (Err f) (pre_expansion_fault low one)
  arguments_refused first all so_far meter meter_after rest list f h (deep high) = h meter (Err f) (too_deep high)

  pub arguments_end : (first : Meter) (all so_far : List (List Hiding)) (meter : Meter) → ArgumentsFollow first all so_far meter [] → ExpandsArguments macros env level invocation first all meter (Ok so_far)
  arguments_end first all so_far meter h = rw (append-nil so_far) at (h meter (Ok []) none)
