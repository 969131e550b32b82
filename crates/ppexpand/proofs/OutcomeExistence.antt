-- Each list has an outcome: expansion terminates.
use Rattle.std.proofs.Common.{◌≡◌, ℕ, zero, suc, ◌+◌, ◌<◌, ◌≤◌, List, [], ◌∷◌, Option, Some, None, Ok, Err, refl, subst, arith}
use Rattle.pptext.specs.declared.tokens.Fault.{Fault}
use Rattle.ppmacro.specs.Names.{HideSet, Macros}
use Rattle.ppmacro.specs.Hiding.{Hiding}
use Rattle.ppexpand.specs.declared.env.Env.{Env}
use Rattle.ppexpand.specs.declared.meter.Meter.{Meter}
use Rattle.ppexpand.specs.ExpansionStep.{Invocation, ExpansionStep, Done, TokenFault, Emits, ReplacementFault, Replaced, Invoked, arguments_to_expand, finish_invocation, fault_at_expansion, Counts, counter_value}
use Rattle.ppexpand.specs.ExpansionStep.{ExpandedArguments, with_expanded}
use Rattle.ppexpand.specs.Budget.{spend_one, count_on}
use Rattle.ppexpand.specs.Expansion.{Outcome, step_in_budget, Expands, done, token_fault, emits, replacement_fault, replaced, argument_fault, invocation_fault, invocation_replaced, ExpandsArguments, counts}
use Rattle.ppexpand.specs.Expansion.{none, too_deep, pre_expanded}
use Rattle.ppexpand.specs.Expansion.{pre_expansion_fault}
use Rattle.ppexpand.specs.Termination as ending
use Rattle.ppexpand.proofs.Termination as fronts
use Rattle.ppexpand.proofs.HideSetSteps as step_lemmas
use native.Mathlib.Decide.{dec_lt}

module _ (macros : Macros) (env : Env) where
  -- a list has some outcome, after some number of steps
  abbrev pub HasOutcome : ℕ → Meter → List Hiding → Type 0
  HasOutcome level meter list = (n : ℕ) × (out : Outcome) × Expands macros env level meter n list out

  abbrev pub HasExpanded : ℕ → Invocation → Meter → List (List Hiding) → Type 0
  HasExpanded level invocation meter as' = (meter_after : Meter) × (r : ExpandedArguments) × ExpandsArguments macros env level invocation meter as' meter_after r

  abbrev Deeper : ℕ → Type 0
  Deeper level = level < 256 → (meter : Meter) (list : List Hiding) → HasOutcome (suc level) meter list

  by_outcome : (level : ℕ) (invocation : Invocation) (meter : Meter) (list : List Hiding) (rest : List (List Hiding))
      → level < 256
      → ((between : Meter) → HasExpanded level invocation between rest)
      → (n : ℕ) (tokens : List Hiding) (fault : Option Fault) (between : Meter)
      → Expands macros env (suc level) meter n list (record { tokens = tokens; fault = fault; meter = between })
      → HasExpanded level invocation meter (list ∷ rest)
  by_outcome level invocation meter list rest h more n tokens None between d = let m = more between in (m.0, with_expanded tokens m.1, pre_expanded h d m.2)
  by_outcome level invocation meter list rest h more n tokens (Some f) between d = (between, Err f, pre_expansion_fault h d)

  arguments_total : (level : ℕ) → Deeper level → (invocation : Invocation) (meter : Meter) (as' : List (List Hiding)) → HasExpanded level invocation meter as'
  arguments_total level deeper invocation meter [] = (meter, Ok [], none)
  arguments_total level deeper invocation meter (list ∷ rest) =
      elim (dec_lt level 256) [
        | yes h ↦
            (let one : HasOutcome (suc level) meter list = deeper h meter list in
            let more : (between : Meter) → HasExpanded level invocation between rest = λ between. arguments_total level deeper invocation between rest in
            by_outcome level invocation meter list rest h more one.0 one.1.tokens one.1.fault one.1.meter one.2)
        | no h ↦ (meter, Err (fault_at_expansion 21 invocation.name_token), too_deep (omega arith))
      ]

  Ends : List HideSet → Type 0
  Ends = ending.Ends macros

  abbrev Later : ℕ → List Hiding → Type 0
  Later level list = (meter : Meter) (next : List Hiding) → ending.Step macros (ending.hides list) (ending.hides next) → HasOutcome level meter next

  after_invocation : (level : ℕ) (meter : Meter) (list : List Hiding)
      → Later level list
      → (invocation : Invocation)
      → step_in_budget macros env meter list ≡ Invoked invocation
      → (meter_after : Meter) (r : ExpandedArguments)
      → ExpandsArguments macros env level invocation (spend_one meter) (arguments_to_expand env invocation) meter_after r
      → ((as' : List (List Hiding)) → step_lemmas.FinishesTo macros env list (finish_invocation env invocation as'))
      → HasOutcome level meter list
  after_invocation level meter list later invocation e meter_after (Err fault) a ends = (0, record { tokens = []; fault = Some fault; meter = meter_after }, argument_fault e a)
  after_invocation level meter list later invocation e meter_after (Ok as') a ends = by_end (finish_invocation env invocation as') refl (ends as')
    where
      by_end : (t : ExpansionStep) → finish_invocation env invocation as' ≡ t → step_lemmas.FinishesTo macros env list t → HasOutcome level meter list
      by_end Done f h = absurd h
      by_end (TokenFault fault) f h = absurd h
      by_end (ReplacementFault fault) f h = (0, record { tokens = []; fault = Some fault; meter = meter_after }, invocation_fault e a f)
      by_end (Emits t rest) f h = absurd h
      by_end (Replaced next) f h =
          let rest : HasOutcome level meter_after next = later meter_after next h in
          (suc rest.0, rest.1, invocation_replaced e a f rest.2)
      by_end (Counts t rest) f h = absurd h
      by_end (Invoked c) f h = absurd h

  by_turn : (level : ℕ)
      → Deeper level
      → (meter : Meter) (list : List Hiding)
      → Later level list
      → (t : ExpansionStep)
      → step_in_budget macros env meter list ≡ t
      → step_lemmas.StepsTo macros env list t
      → HasOutcome level meter list
  by_turn level deeper meter list later Done e h = (0, record { tokens = []; fault = None; meter = meter }, done e)
  by_turn level deeper meter list later (TokenFault fault) e h = (0, record { tokens = []; fault = Some fault; meter = meter }, token_fault e)
  by_turn level deeper meter list later (Emits t rest) e h =
      let step : ending.Step macros (ending.hides list) (ending.hides rest) = rw h ending.emits in
      let more : HasOutcome level meter rest = later meter rest step in
      (suc more.0, record { tokens = t ∷ more.1.tokens; fault = more.1.fault; meter = more.1.meter }, emits e more.2)
  by_turn level deeper meter list later (ReplacementFault fault) e h = (0, record { tokens = []; fault = Some fault; meter = spend_one meter }, replacement_fault e)
  by_turn level deeper meter list later (Replaced next) e h =
      let more : HasOutcome level (spend_one meter) next = later (spend_one meter) next h in
      (suc more.0, more.1, replaced e more.2)
  by_turn level deeper meter list later (Counts t rest) e h =
      let more : HasOutcome level (count_on meter) (counter_value meter.counter t ∷ rest) = later (count_on meter) (counter_value meter.counter t ∷ rest) h in
      (suc more.0, more.1, counts e more.2)
  by_turn level deeper meter list later (Invoked invocation) e h =
      let as' : HasExpanded level invocation (spend_one meter) (arguments_to_expand env invocation) = arguments_total level deeper invocation (spend_one meter) (arguments_to_expand env invocation) in
      after_invocation level meter list later invocation e as'.0 as'.1 as'.2 (λ bs. step_lemmas.finished_steps macros env list invocation bs h)

  list_total : (level : ℕ) → Deeper level → (hs : List HideSet) → Ends hs → (meter : Meter) (list : List Hiding) → ending.hides list ≡ hs → HasOutcome level meter list
  unfolding Ends
  list_total level deeper hs (ending.ends more) meter list e =
      by_turn level deeper meter list
      (λ meter_after next step. list_total level deeper (ending.hides next)
      (more (ending.hides next) (subst (λ x. ending.Step macros x (ending.hides next)) e step)) meter_after next refl)
      (step_in_budget macros env meter list) refl (step_lemmas.turn_within_steps macros env meter list)

  all_end : (xs : List Hiding) → Ends (ending.hides xs)
  unfolding Ends
  all_end xs = fronts.all_end macros (ending.hides xs)

  by_levels : (levels level : ℕ) → 256 ≤ level + levels → (meter : Meter) (list : List Hiding) → HasOutcome level meter list
  by_levels zero level h meter list = list_total level (λ low. absurd (omega arith)) (ending.hides list) (all_end list) meter list refl
  by_levels (suc levels) level h meter list = list_total level (λ low. by_levels levels (suc level) (omega arith)) (ending.hides list) (all_end list) meter list refl

  pub total : (level : ℕ) (meter : Meter) (list : List Hiding) → HasOutcome level meter list
  total level meter list = by_levels 256 level (omega arith) meter list
