-- Whether the group after `#if` or `#elif` is taken (6.10.1), or the first fault. `at` is the location of the directive's `#`.
use Rattle.std.specs.Prelude.{◌≡◌, ℕ, Bool, not, List, [], Some, None, Result, Ok, Err, true, false}
use Rattle.std.specs.List.{list_any}
use Rattle.pptext.specs.declared.tokens.Place.{Place}
use Rattle.pptext.specs.declared.tokens.Token.{Token}
use Rattle.pptext.specs.declared.tokens.Fault.{Fault}
use Rattle.pptext.specs.Tokens.{fault}
use Rattle.ppmacro.specs.Names.{Macros}
use Rattle.ppexpand.specs.declared.env.Env.{Env}
use Rattle.ppexpand.specs.declared.meter.Meter.{Meter}
use Rattle.ppexpand.specs.Expansion.{Expansion, IsExpansion, count_expansion}
use Rattle.ppexpr.specs.declared.symbols.Value.{Value}
use Rattle.ppexpr.specs.declared.symbols.Failure.{Failure}
use Rattle.ppexpr.specs.declared.symbols.Failure.TheVariants.{ZeroDivisor, Overflow, Shift}
use Rattle.ppexpr.specs.declared.symbols.Evaluation.{Evaluation}
use Rattle.ppexpr.specs.declared.symbols.Symbol.{Symbol}
use Rattle.ppexpr.specs.Grammar.{IsExpression}
use Rattle.ppexpr.specs.Values.{is_zero, Denotes}
use Rattle.ppexpr.specs.DefinedOperator.{is_defined, ReplacesDefined}
use Rattle.ppexpr.specs.Operators.{spelling_of}
use Rattle.ppexpr.specs.Tokens.{symbols_of}
use Rattle.ppexpr.specs.Nesting.{IsTooNested}

abbrev pub Condition : Type 0
Condition = Result Bool Fault

-- ---- the value

abbrev pub failure_fault : Place → Failure → Fault
failure_fault at (ZeroDivisor o) = fault 26 at (spelling_of o)
failure_fault at (Overflow o) = fault 27 at (spelling_of o)
failure_fault at (Shift o) = fault 28 at (spelling_of o)

-- the group is taken if the value is not 0
abbrev pub taken : Place → Result Value Failure → Condition
taken at (Ok v) = Ok (not (is_zero v))
taken at (Err f) = Err (failure_fault at f)

-- ---- the steps, from the last to the first

-- a list that is no expression, such as the empty list, is fault 23
pub data EvaluatesShallow (at : Place) (symbols : List Symbol) : Condition → Type 0 where
  no_expression : ¬ IsExpression symbols → EvaluatesShallow at symbols (Err (fault 23 at []))
  has_value : {o : Evaluation} → Denotes symbols o → EvaluatesShallow at symbols (taken at o.value)

-- an expression that is nested too deep is fault 29
pub data EvaluatesSymbols (at : Place) (symbols : List Symbol) : Condition → Type 0 where
  too_nested : IsTooNested symbols → EvaluatesSymbols at symbols (Err (fault 29 at []))
  not_nested : {c : Condition} → ¬ IsTooNested symbols → EvaluatesShallow at symbols c → EvaluatesSymbols at symbols c

-- a `defined` that replacement made is fault 22; then the first constant from the left without a value is fault 24 or 25
pub data EvaluatesTokens (at : Place) (tokens : List Token) : Condition → Type 0 where
  defined_after_replacement : list_any is_defined tokens ≡ true → EvaluatesTokens at tokens (Err (fault 22 at []))
  bad_constant : {f : Fault} → list_any is_defined tokens ≡ false → symbols_of at tokens ≡ Err f → EvaluatesTokens at tokens (Err f)
  constants : {symbols : List Symbol} {c : Condition}
      → list_any is_defined tokens ≡ false
      → symbols_of at tokens ≡ Ok symbols
      → EvaluatesSymbols at symbols c
      → EvaluatesTokens at tokens c

-- The meter before the condition, the result, and the meter after it. A use of `defined` without a name is fault 22. A fault of macro
-- replacement is the result.
pub data IsCondition (macros : Macros) (env : Env) (at : Place) (tokens : List Token) (meter : Meter) : Condition → Meter → Type 0 where
  ill_formed : ((without_defined : List Token) → ¬ ReplacesDefined macros tokens without_defined)
      → IsCondition macros env at tokens meter (Err (fault 22 at [])) meter
  expansion_fault : {without_defined : List Token} {e : Expansion} {f : Fault}
      → ReplacesDefined macros tokens without_defined
      → IsExpansion macros env meter without_defined e
      → e.fault ≡ Some f
      → IsCondition macros env at tokens meter (Err f) e.meter
  replaced : {without_defined : List Token} {e : Expansion} {c : Condition}
      → ReplacesDefined macros tokens without_defined
      → IsExpansion macros env meter without_defined e
      → e.fault ≡ None
      → EvaluatesTokens at e.tokens c
      → IsCondition macros env at tokens meter c e.meter

-- the number of replacements in a condition
abbrev pub count_condition : {macros : Macros} {env : Env} {at : Place} {tokens : List Token} {meter meter_after : Meter} {c : Condition}
    → IsCondition macros env at tokens meter c meter_after
    → ℕ
count_condition (ill_formed none) = 0
count_condition (expansion_fault replaces expands fault_is) = count_expansion expands
count_condition (replaced replaces expands fault_is evaluates) = count_expansion expands
