-- The values of the program's types: vocabulary of the code. No definition rests on this file.
use Rattle.std.specs.Prelude.{◌≡◌, ℕ, suc, ◌+◌, ◌<◌, ◌≤◌, List, [], ◌∷◌, ◌++◌, map, Bool, true, false, length, ◌==◌, Option, Some, None, Result, Ok, Err}
use Rattle.std.specs.Prelude.{Vec}
use Rattle.std.specs.Global.{Global}
use Rattle.std.specs.FinSet as set
use Rattle.std.specs.List.{AllByRecursion}
use Rattle.std.specs.Option.{option_map}
use Rattle.pptext.specs.declared.tokens.Token.{Token}
use Rattle.pptext.specs.declared.tokens.Fault.{Fault}
use Rattle.pptext.specs.Tokens.{fault}
use Rattle.ppmacro.specs.Names.{Macros}
use Rattle.ppmacro.specs.HideSetPool.{HideSetPool}
use Rattle.ppmacro.specs.Hiding.{Hiding}
use Rattle.ppmacro.specs.HideSets.{set_at, IsKnown, hiding, hidings, HasSets, AllKnown}
use Rattle.ppmacro.specs.Substituting.{lists_of, expansion_if_computed, expansions_if_computed, ListsKnown}
use Rattle.ppmacro.specs.declared.macros.Macro.{Macro}
use Rattle.ppmacro.specs.declared.hidden_token.Hidden.{Hidden}
use Rattle.ppmacro.specs.declared.hidden_token.ArgumentExpansion.{ArgumentExpansion}
use Rattle.ppmacro.specs.declared.hidden_token.ArgumentExpansion.TheVariants.{Unused, AsGiven, Owned}
use Rattle.ppexpand.specs.declared.env.Env.{Env}
use Rattle.ppexpand.specs.ExpansionStep.{Invocation, ExpansionStep, Done, TokenFault, Emits, ReplacementFault, Replaced, Counts, Invoked, arguments_to_expand, expansions_by_parameter, finish_by_parameter}
use Rattle.ppexpand.specs.declared.meter.Meter.{Meter}
use Rattle.ppexpand.specs.Budget.{spend_one}
use Rattle.ppexpand.specs.declared.expand_step.Action.{Action}
use Rattle.ppexpand.specs.declared.expand_step.Action.TheVariants as action
use Rattle.ppexpand.specs.Expansion.{Outcome, step_in_budget, Expands, ExpandsArguments}
use Rattle.ppexpand.specs.Laws.{Leads, LeadsOn}

-- ---- arguments

abbrev pub given_in : HideSetPool → List (Vec Hidden Global) → List (List Hiding)
given_in sets given = map (hidings sets) (lists_of given)

abbrev pub expanded_in : HideSetPool → List (Vec Hidden Global) → List ArgumentExpansion → List (Option (List Hiding))
expanded_in sets given expanded = map (λ o. option_map (hidings sets) o) (expansions_if_computed given expanded)

abbrev pub fitting_in : HideSetPool → Option (Vec (Vec Hidden Global) Global) → Option (List (List Hiding))
fitting_in sets None = None
fitting_in sets (Some v) = Some (given_in sets v.items)

abbrev pub FittingKnown : HideSetPool → Option (Vec (Vec Hidden Global) Global) → Type 0
FittingKnown sets None = Unit {0}
FittingKnown sets (Some v) = ListsKnown sets v.items

-- the tokens that an expansion owns
abbrev pub owned_tokens : ArgumentExpansion → List Hidden
owned_tokens Unused = []
owned_tokens AsGiven = []
owned_tokens (Owned v) = v.items

-- the hide sets of all these tokens exist
pub record ExpansionsKnown (sets : HideSetPool) (es : List ArgumentExpansion) : Type 0 where
  pub each : AllByRecursion (λ e. AllKnown sets (owned_tokens e)) es

-- there are no tokens between the parentheses
abbrev pub is_bare : List (Vec Hidden Global) → Bool
is_bare (v ∷ []) = length v.items == 0
is_bare _ = false

-- ---- expansion steps

-- an invocation: the macro name token, the macro, the arguments, the intersection of the hide sets of the name and of the
-- `)`, and the tokens after it
abbrev pub invocation_in : HideSetPool → Hidden → Macro → List (Vec Hidden Global) → ℕ → List Hidden → Invocation
invocation_in sets name_token macro given base following = record {
  name_token = hiding sets name_token;
  macro = macro;
  arguments = given_in sets given;
  names_to_hide = set.insert (set_at sets base) name_token.token.text;
  following = hidings sets following;
}

-- the hide sets of an invocation exist
pub record InvocationKnown (sets : HideSetPool) (name : Hidden) (given : List (Vec Hidden Global)) (base : ℕ) : Type 0 where
  pub name_token : HasSets sets name
  pub arguments : ListsKnown sets given
  pub base_known : IsKnown sets base

-- the expansion step of an action after which this list remains
abbrev pub step_in : HideSetPool → List Hidden → Action → ExpansionStep
step_in sets following action.Done = Done
step_in sets following (action.Emits token) = Emits (hiding sets token) (hidings sets following)
step_in sets following action.Replaced = Replaced (hidings sets following)
step_in sets following (action.Counts token) = Counts (hiding sets token) (hidings sets following)
step_in sets following (action.Invoked c) = Invoked (invocation_in sets c.name_token c.definition.now c.arguments.items c.base following)

abbrev pub ActionKnown : HideSetPool → List Hidden → Action → Type 0
ActionKnown sets following action.Done = Unit {0}
ActionKnown sets following (action.Emits token) = HasSets sets token × AllKnown sets following
ActionKnown sets following action.Replaced = AllKnown sets following
ActionKnown sets following (action.Counts token) = HasSets sets token × AllKnown sets following
ActionKnown sets following (action.Invoked c) = InvocationKnown sets c.name_token c.arguments.items c.base × AllKnown sets following

-- the expansion step of a macro's name: of its action, after which this list remains, or of the fault of its replacement
abbrev pub named_in : HideSetPool → List Hidden → Result Action Fault → ExpansionStep
named_in sets following (Ok a) = step_in sets following a
named_in sets following (Err f) = ReplacementFault f

-- the expansion step of a macro's name if the budget is exhausted
abbrev pub refused_in : HideSetPool → List Hidden → Result Action Fault → ExpansionStep
refused_in sets following (Ok a) = step_in sets following a
refused_in sets following (Err f) = TokenFault f

-- the meter after an action: a replacement takes one from the budget; that of `__COUNTER__` is still to be made
abbrev pub charged : Action → Meter → Meter
charged action.Done meter = meter
charged (action.Emits token) meter = meter
charged action.Replaced meter = spend_one meter
charged (action.Counts token) meter = meter
charged (action.Invoked c) meter = spend_one meter

-- the meter after the step of a macro's name, if something remained of the budget; a fault costs as much as a replacement
abbrev pub charged_in : Result Action Fault → Meter → Meter
charged_in (Ok a) meter = charged a meter
charged_in (Err f) meter = spend_one meter

-- this step raises this fault, and the meter before it becomes the meter after it
pub data HasFailed (step : ExpansionStep) (meter : Meter) (f : Fault) : Meter → Type 0 where
  at_token : step ≡ TokenFault f → HasFailed step meter f meter
  in_replacement : step ≡ ReplacementFault f → HasFailed step meter f (spend_one meter)

-- this step was made: by this action, after which this list remains, or it raised this fault; and the meter before it became the meter after it
abbrev pub HasActed : HideSetPool → List Hidden → ExpansionStep → Meter → Result Action Fault → Meter → Type 0
HasActed sets following step meter (Ok a) meter_after = (step_in sets following a ≡ step) × (meter_after ≡ charged a meter)
HasActed sets following step meter (Err f) meter_after = HasFailed step meter f meter_after

-- the expansion step of a replacement after which this list remains
abbrev pub replaced_in : HideSetPool → List Hidden → Result (Unit {0}) Fault → ExpansionStep
replaced_in sets following (Ok u) = Replaced (hidings sets following)
replaced_in sets following (Err f) = ReplacementFault f

-- ---- expansion

-- an argument of an invocation at this level has this expansion or this fault, and this is the meter after it
pub data ExpandsArgument (macros : Macros) (env : Env) (level : ℕ) (name_token : Token) (meter : Meter) (list : List Hiding)
    : Meter → Result (List Hiding) Fault → Type 0 where
  expands : {steps : ℕ} {meter_after : Meter} {tokens : List Hiding}
      → level < 256
      → Expands macros env (suc level) meter steps list (record { tokens = tokens; fault = None; meter = meter_after })
      → ExpandsArgument macros env level name_token meter list meter_after (Ok tokens)
  raises : {steps : ℕ} {meter_after : Meter} {tokens : List Hiding} {f : Fault}
      → level < 256
      → Expands macros env (suc level) meter steps list (record { tokens = tokens; fault = Some f; meter = meter_after })
      → ExpandsArgument macros env level name_token meter list meter_after (Err f)
  deep : 256 ≤ level → ExpandsArgument macros env level name_token meter list meter (Err (fault 21 name_token.used name_token.text))

-- an argument of an invocation at this level has an expansion, which this value of the program represents, or it has this
-- fault
abbrev pub HasExpanded : Macros → Env → ℕ → Token → Meter → Meter → HideSetPool → HideSetPool → List Hidden → Result ArgumentExpansion Fault → Type 0
HasExpanded macros env level name_token meter meter_after before sets given (Ok e) = (tokens : List Hiding)
    × (option_map (hidings sets) (expansion_if_computed given e) ≡ Some tokens)
    × ExpandsArgument macros env level name_token meter (hidings before given) meter_after (Ok tokens)
HasExpanded macros env level name_token meter meter_after before sets given (Err f) = ExpandsArgument macros env level name_token meter (hidings before given) meter_after (Err f)

-- the arguments of an invocation at this level that are to be expanded have these expansions by parameter or this fault, and this is the
-- meter after them
abbrev pub ExpandsInvocationArguments : Macros → Env → ℕ → Invocation → Meter → Meter → Result (List (Option (List Hiding))) Fault → Type 0
ExpandsInvocationArguments macros env level invocation meter meter_after (Ok expanded) = (expansions : List (List Hiding))
    × (expanded ≡ expansions_by_parameter env invocation expansions)
    × ExpandsArguments macros env level invocation meter (arguments_to_expand env invocation) meter_after (Ok expansions)
ExpandsInvocationArguments macros env level invocation meter meter_after (Err f) = ExpandsArguments macros env level invocation meter (arguments_to_expand env invocation) meter_after (Err f)

-- an invocation at this level has this expansion step: its arguments are expanded, and then it is replaced
pub data ClosedStepsTo (macros : Macros) (env : Env) (level : ℕ) (invocation : Invocation) (meter : Meter) : Meter → ExpansionStep → Type 0 where
  fault_in_arguments : {meter_after : Meter} {f : Fault}
      → ExpandsInvocationArguments macros env level invocation meter meter_after (Err f)
      → ClosedStepsTo macros env level invocation meter meter_after (ReplacementFault f)
  finishes : {meter_after : Meter} {expanded : List (Option (List Hiding))}
      → ExpandsInvocationArguments macros env level invocation meter meter_after (Ok expanded)
      → ClosedStepsTo macros env level invocation meter meter_after (finish_by_parameter invocation expanded)

-- one expansion step leads from the first list to the second, and emits these tokens
pub record Advances (macros : Macros) (env : Env) (level : ℕ) (meter : Meter) (list : List Hiding) (meter_after : Meter)
    (next : List Hiding) (tokens : List Hiding) : Type 0 where
  pub prepends_step : (n : ℕ) (out : Outcome)
      → Expands macros env level meter_after n next out
      → Expands macros env level meter (suc n) list (record { tokens = tokens ++ out.tokens; fault = out.fault; meter = out.meter })
  pub leads : Leads macros env level meter list meter_after next

-- the list ends here, with this fault or without one, and this is the meter after it
abbrev pub EndsWith : Macros → Env → ℕ → Meter → List Hiding → Option Fault → Meter → Type 0
EndsWith macros env level meter list f meter_after = Expands macros env level meter 0 list (record { tokens = []; fault = f; meter = meter_after })

-- one expansion step leads from a list to another, and appends the tokens that it emits
abbrev pub HasAdvanced : Macros → Env → ℕ → Meter → List Hiding → List Hiding → Meter → List Hiding → List Hiding → Type 0
HasAdvanced macros env level meter list emitted meter_after next emitted_after = (tokens : List Hiding)
    × (emitted_after ≡ emitted ++ tokens)
    × Advances macros env level meter list meter_after next tokens

-- a list ended, with this fault or without one, and the emitted tokens did not change
abbrev pub HasEnded : Macros → Env → ℕ → Meter → List Hiding → List Hiding → Option Fault → Meter → List Hiding → Type 0
HasEnded macros env level meter list emitted f meter_after emitted_after = EndsWith macros env level meter list f meter_after × (emitted_after ≡ emitted)

-- one expansion step was made: the list continues, or it ended, or it ended with this fault
abbrev pub HasStepped : Macros → Env → ℕ → Meter → List Hiding → List Hiding → Result Bool Fault → Meter → List Hiding → List Hiding → Type 0
HasStepped macros env level meter list emitted (Ok true) meter_after next emitted_after = HasAdvanced macros env level meter list emitted meter_after next emitted_after
HasStepped macros env level meter list emitted (Ok false) meter_after next emitted_after = HasEnded macros env level meter list emitted None meter_after emitted_after
HasStepped macros env level meter list emitted (Err f) meter_after next emitted_after = HasEnded macros env level meter list emitted (Some f) meter_after emitted_after

-- a list begins with this invocation, which is counted; nothing was emitted, and the list continues
abbrev pub HasInvoked : Macros → Env → Meter → List Hiding → List Hiding → Invocation → Result Bool Fault → Meter → List Hiding → Type 0
HasInvoked macros env meter list emitted invocation r meter_after emitted_after =
    (step_in_budget macros env meter list ≡ Invoked invocation) × (r ≡ Ok true) × (meter_after ≡ spend_one meter) × (emitted_after ≡ emitted)

-- the list has this outcome after at least n steps
pub record Takes (macros : Macros) (env : Env) (level : ℕ) (meter : Meter) (n : ℕ) (list : List Hiding) (out : Outcome) : Type 0 where
  pub steps : ℕ
  pub more : n ≤ steps
  pub is : Expands macros env level meter steps list out

-- at least this many expansion steps lead from a list to another, and append the tokens that they emit
pub record HasPassed (least : ℕ) (macros : Macros) (env : Env) (level : ℕ) (meter : Meter) (list emitted : List Hiding) (meter_after : Meter)
    (next emitted_after : List Hiding) : Type 0 where
  pub tokens : List Hiding
  pub emits : emitted_after ≡ emitted ++ tokens
  pub takes : (n : ℕ) (out : Outcome)
      → Expands macros env level meter_after n next out
      → Takes macros env level meter (least + n) list (record { tokens = tokens ++ out.tokens; fault = out.fault; meter = out.meter })
  pub number : ℕ
  pub leads : LeadsOn macros env level number meter list meter_after next
