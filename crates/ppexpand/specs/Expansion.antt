-- The expansion of a list (6.10.3.4), within a budget of replacements or without one.
use Rattle.std.specs.Prelude.{◌≡◌, ℕ, suc, ◌+◌, ◌<◌, ◌≤◌, List, [], ◌∷◌, map, Option, Some, None, Ok, Err}
use Rattle.pptext.specs.declared.tokens.Token.{Token}
use Rattle.pptext.specs.declared.tokens.Fault.{Fault}
use Rattle.ppmacro.specs.Names.{Macros}
use Rattle.ppmacro.specs.Hiding.{Hiding}
use Rattle.ppmacro.specs.Substitution.{unhidden}
use Rattle.ppexpand.specs.declared.env.Env.{Env}
use Rattle.ppexpand.specs.declared.meter.Meter.{Meter}
use Rattle.ppexpand.specs.ExpansionStep.{Invocation, ExpansionStep, Done, TokenFault, Emits, ReplacementFault, Replaced, Counts, Invoked, counter_value, expansion_step, arguments_to_expand, finish_invocation, fault_at_expansion}
use Rattle.ppexpand.specs.ExpansionStep.{ExpandedArguments, with_expanded}
use Rattle.ppexpand.specs.Budget.{in_budget, spend_one, count_on}

-- the emitted tokens, the fault that stopped the expansion, if any, and the meter after it
pub record Outcome : Type 0 where
  pub tokens : List Hiding
  pub fault : Option Fault
  pub meter : Meter

-- no token is emitted, and the expansion stops with this fault, or ends without one
abbrev pub stops_with : Meter → Option Fault → Outcome
stops_with meter f = record { tokens = []; fault = f; meter = meter }

-- adds a token that is emitted before the others
abbrev pub with_emitted : Hiding → Outcome → Outcome
with_emitted t out = record out { tokens = t ∷ out.tokens }

module _ (macros : Macros) (env : Env) where
  -- the expansion step of a list within the remaining budget
  abbrev pub step_in_budget : Meter → List Hiding → ExpansionStep
  step_in_budget meter list = in_budget meter list (expansion_step macros env list)

  mutual
    -- At this level, with this meter, a list has this outcome after this number of steps. The steps of arguments and
    -- a step that ends the list aren't counted. Each replacement takes one from the budget.
    pub data Expands : ℕ → Meter → ℕ → List Hiding → Outcome → Type 0 where
      done : {level : ℕ} {meter : Meter} {list : List Hiding}
          → step_in_budget meter list ≡ Done
          → Expands level meter 0 list (stops_with meter None)
      token_fault : {level : ℕ} {meter : Meter} {list : List Hiding} {f : Fault}
          → step_in_budget meter list ≡ TokenFault f
          → Expands level meter 0 list (stops_with meter (Some f))
      emits : {level steps : ℕ} {meter : Meter} {list : List Hiding} {t : Hiding} {rest : List Hiding} {out : Outcome}
          → step_in_budget meter list ≡ Emits t rest
          → Expands level meter steps rest out
          → Expands level meter (suc steps) list (with_emitted t out)
      replacement_fault : {level : ℕ} {meter : Meter} {list : List Hiding} {f : Fault}
          → step_in_budget meter list ≡ ReplacementFault f
          → Expands level meter 0 list (stops_with (spend_one meter) (Some f))
      replaced : {level steps : ℕ} {meter : Meter} {list next : List Hiding} {out : Outcome}
          → step_in_budget meter list ≡ Replaced next
          → Expands level (spend_one meter) steps next out
          → Expands level meter (suc steps) list out
      counts : {level steps : ℕ} {meter : Meter} {list : List Hiding} {t : Hiding} {rest : List Hiding} {out : Outcome}
          → step_in_budget meter list ≡ Counts t rest
          → Expands level (count_on meter) steps (counter_value meter.counter t ∷ rest) out
          → Expands level meter (suc steps) list out
      argument_fault : {level : ℕ} {meter meter_after : Meter} {list : List Hiding} {invocation : Invocation} {f : Fault}
          → step_in_budget meter list ≡ Invoked invocation
          → ExpandsArguments level invocation (spend_one meter) (arguments_to_expand env invocation) meter_after (Err f)
          → Expands level meter 0 list (stops_with meter_after (Some f))
      invocation_fault : {level : ℕ} {meter meter_after : Meter} {list : List Hiding} {invocation : Invocation} {expanded : List (List Hiding)} {f : Fault}
          → step_in_budget meter list ≡ Invoked invocation
          → ExpandsArguments level invocation (spend_one meter) (arguments_to_expand env invocation) meter_after (Ok expanded)
          → finish_invocation env invocation expanded ≡ ReplacementFault f
          → Expands level meter 0 list (stops_with meter_after (Some f))
      invocation_replaced : {level steps : ℕ} {meter meter_after : Meter} {list next : List Hiding} {invocation : Invocation}
          {expanded : List (List Hiding)} {out : Outcome}
          → step_in_budget meter list ≡ Invoked invocation
          → ExpandsArguments level invocation (spend_one meter) (arguments_to_expand env invocation) meter_after (Ok expanded)
          → finish_invocation env invocation expanded ≡ Replaced next
          → Expands level meter_after steps next out
          → Expands level meter (suc steps) list out

    -- The arguments of an invocation in a list at this level. Each is expanded as a list of its own, one level deeper
    -- (6.10.3.1), in the order of the list, up to the first fault, within one budget. The largest level is 256.
    pub data ExpandsArguments : ℕ → Invocation → Meter → List (List Hiding) → Meter → ExpandedArguments → Type 0 where
      none : {level : ℕ} {invocation : Invocation} {meter : Meter}
          → ExpandsArguments level invocation meter [] meter (Ok [])
      too_deep : {level : ℕ} {invocation : Invocation} {meter : Meter} {list : List Hiding} {rest : List (List Hiding)}
          → 256 ≤ level
          → ExpandsArguments level invocation meter (list ∷ rest) meter (Err (fault_at_expansion 21 invocation.name_token))
      pre_expanded : {level steps : ℕ} {invocation : Invocation} {meter between meter_after : Meter} {list tokens : List Hiding}
          {rest : List (List Hiding)} {out : ExpandedArguments}
          → level < 256
          → Expands (suc level) meter steps list (record { tokens = tokens; fault = None; meter = between })
          → ExpandsArguments level invocation between rest meter_after out
          → ExpandsArguments level invocation meter (list ∷ rest) meter_after (with_expanded tokens out)
      pre_expansion_fault : {level steps : ℕ} {invocation : Invocation} {meter meter_after : Meter} {list tokens : List Hiding}
          {rest : List (List Hiding)} {f : Fault}
          → level < 256
          → Expands (suc level) meter steps list (record { tokens = tokens; fault = Some f; meter = meter_after })
          → ExpandsArguments level invocation meter (list ∷ rest) meter_after (Err f)

  abbrev mutual
    -- the number of replacements in an expansion, including one that has a fault
    pub count : {level steps : ℕ} {meter : Meter} {list : List Hiding} {out : Outcome} → Expands level meter steps list out → ℕ
    count (done e) = 0
    count (token_fault e) = 0
    count (emits e more) = count more
    count (replacement_fault e) = 1
    count (replaced e more) = suc (count more)
    count (counts e more) = suc (count more)
    count (argument_fault e arguments) = suc (count_arguments arguments)
    count (invocation_fault e arguments f) = suc (count_arguments arguments)
    count (invocation_replaced e arguments f more) = suc (count_arguments arguments + count more)

    pub count_arguments : {level : ℕ} {invocation : Invocation} {meter meter_after : Meter} {as' : List (List Hiding)} {out : ExpandedArguments}
        → ExpandsArguments level invocation meter as' meter_after out
        → ℕ
    count_arguments none = 0
    count_arguments (too_deep h) = 0
    count_arguments (pre_expanded h one more) = count one + count_arguments more
    count_arguments (pre_expansion_fault h one) = count one

-- a list has this outcome, at this level and with this meter
abbrev pub ExpandsTo : Macros → Env → ℕ → Meter → List Hiding → Outcome → Type 0
ExpandsTo macros env level meter list out = (steps : ℕ) × Expands macros env level meter steps list out

-- what an expansion yields: the emitted tokens, the fault that stopped it, if any, and the meter after it
pub record Expansion : Type 0 where
  pub tokens : List Token
  pub fault : Option Fault
  pub meter : Meter

-- The expansion of a list of tokens, with this meter before it. The list is at level 0, and its tokens have empty hide sets.
pub record IsExpansion (macros : Macros) (env : Env) (meter : Meter) (tokens : List Token) (e : Expansion) : Type 0 where
  pub outcome : Outcome
  pub expands : ExpandsTo macros env 0 meter (map unhidden tokens) outcome
  pub emitted : e.tokens ≡ map (λ t. t.token) outcome.tokens
  pub fault_is : e.fault ≡ outcome.fault
  pub meter_is : e.meter ≡ outcome.meter

-- the number of replacements in an expansion
abbrev pub count_expansion : {macros : Macros} {env : Env} {meter : Meter} {tokens : List Token} {e : Expansion}
    → IsExpansion macros env meter tokens e
    → ℕ
count_expansion {macros} {env} x = count macros env x.expands.1
