-- Conditions within a budget compared with conditions within a larger one or without one.
use Rattle.std.proofs.Common.{◌≡◌, ◌≢◌, ℕ, ◌+◌, ◌<◌, List, [], ◌∷◌, Option, Some, None, Result, Ok, Err, sym, ◌∙◌, subst, arith}
use Rattle.pptext.specs.declared.tokens.Place.{Place}
use Rattle.pptext.specs.declared.tokens.Token.{Token}
use Rattle.pptext.specs.declared.tokens.Kind.{Kind}
use Rattle.pptext.specs.declared.tokens.Kind.TheVariants.{Ident, Number, CharConst, Str, Punct, Header, Other}
use Rattle.pptext.specs.declared.tokens.Fault.{Fault}
use Rattle.pptext.specs.Tokens.{fault}
use Rattle.ppmacro.specs.Names.{Macros}
use Rattle.ppexpand.specs.declared.env.Env.{Env}
use Rattle.ppexpand.specs.declared.meter.Meter.{Meter}
use Rattle.ppexpand.specs.Budget.{with_budget}
use Rattle.ppexpand.specs.Laws.{plus}
use Rattle.ppexpand.proofs.BudgetLemmas.{plus-nothing, plus-none, Covers, expansion_spends, expansion_enough, expansion_short}
use Rattle.ppexpand.proofs.BudgetFaults.{expansion_never_refused}
use Rattle.ppexpr.specs.declared.symbols.Value.{Value}
use Rattle.ppexpr.specs.declared.symbols.Failure.{Failure}
use Rattle.ppexpr.specs.declared.symbols.Failure.TheVariants.{ZeroDivisor, Overflow, Shift}
use Rattle.ppexpr.specs.declared.symbols.Symbol.{Symbol}
use Rattle.ppexpr.specs.Tokens.{symbol_by, symbol_of, symbol_then, symbols_of, constant_or}
use Rattle.ppexpr.specs.Conditions.{Condition, taken, EvaluatesShallow, no_expression, has_value, EvaluatesSymbols, too_nested, not_nested}
use Rattle.ppexpr.specs.Conditions.{EvaluatesTokens, defined_after_replacement, bad_constant, constants, IsCondition, ill_formed, expansion_fault}
use Rattle.ppexpr.specs.Conditions.{replaced, count_condition}

-- ---- the budget

-- the cost of a condition and the rest of the budget add up to the budget
pub condition_spends : {macros : Macros} {env : Env} {at : Place} {tokens : List Token} {meter meter_after : Meter} {c : Condition}
    → (d : IsCondition macros env at tokens meter c meter_after)
    → meter.remaining ≡ plus (count_condition d) meter_after.remaining
condition_spends {meter = meter} (ill_formed none) = plus-nothing meter.remaining
condition_spends {macros} {env} (expansion_fault replaces x faulty) = expansion_spends macros env x
condition_spends {macros} {env} (replaced replaces x whole decides) = expansion_spends macros env x

-- A budget of the cost plus n does not change the condition, except that n is left.
pub condition_enough : {macros : Macros} {env : Env} {at : Place} {tokens : List Token} {meter meter_after : Meter} {c : Condition} (b : ℕ)
    → Covers meter.remaining b
    → (d : IsCondition macros env at tokens meter c meter_after) (n : ℕ)
    → b ≡ count_condition d + n
    → IsCondition macros env at tokens (with_budget (Some b) meter) c (with_budget (Some n) meter_after)
condition_enough {macros} {env} {at} {tokens} {meter} b is (ill_formed bad) n sum =
    let same : b ≡ n = omega arith in
    let left : ℕ → Type 0 = λ x. IsCondition macros env at tokens (with_budget (Some b) meter) (Err (fault 22 at [])) (with_budget (Some x) meter) in
    subst left same (ill_formed bad)
condition_enough {macros} {env} b is (expansion_fault replaces x faulty) n sum = expansion_fault replaces (expansion_enough macros env b is x n sum) faulty
condition_enough {macros} {env} b is (replaced replaces x whole decides) n sum = replaced replaces (expansion_enough macros env b is x n sum) whole decides

-- the condition is fault 35, and nothing is left of the budget
pub record IsRefused (macros : Macros) (env : Env) (at : Place) (tokens : List Token) (meter : Meter) : Type 0 where
  pub fault : Fault
  pub number : fault.number ≡ 35
  pub meter_after : Meter
  pub nothing : meter_after.remaining ≡ Some 0
  pub is : IsCondition macros env at tokens meter (Err fault) meter_after

-- A budget below the cost is used up, and the condition is fault 35.
pub condition_short : {macros : Macros} {env : Env} {at : Place} {tokens : List Token} {meter meter_after : Meter} {c : Condition} (b : ℕ)
    → Covers meter.remaining b
    → (d : IsCondition macros env at tokens meter c meter_after)
    → b < count_condition d
    → IsRefused macros env at tokens (with_budget (Some b) meter)
condition_short b is (ill_formed bad) less = absurd (omega arith)
condition_short {macros} {env} {meter = meter} b is (expansion_fault {without_defined = us} {e = e} replaces x faulty) less =
    let s = expansion_short macros env b is x less in
    record { fault = s.fault; number = s.number; meter_after = s.expansion.meter; nothing = s.nothing; is = expansion_fault replaces s.is s.stopped }
condition_short {macros} {env} {meter = meter} b is (replaced {without_defined = us} {e = e} replaces x whole decides) less =
    let s = expansion_short macros env b is x less in
    record { fault = s.fault; number = s.number; meter_after = s.expansion.meter; nothing = s.nothing; is = expansion_fault replaces s.is s.stopped }

-- If there is no budget before a condition, there is none after it.
pub condition_leaves_none : {macros : Macros} {env : Env} {at : Place} {tokens : List Token} {meter meter_after : Meter} {c : Condition}
    → meter.remaining ≡ None
    → IsCondition macros env at tokens meter c meter_after
    → meter_after.remaining ≡ None
condition_leaves_none {meter_after = meter_after} is d = plus-none (count_condition d) meter_after.remaining (sym is ∙ condition_spends d)

-- ---- without a budget, no condition is fault 35

-- a value, or a fault other than 35
abbrev pub IsOther : {A : Type 0} → Result A Fault → Type 0
IsOther (Ok x) = Unit {0}
IsOther (Err f) = f.number ≢ 35

constant_other : (at : Place) (n : ℕ) (s : List ℕ) (v : Option Value) → n < 35 → IsOther (constant_or (fault n at s) v)
constant_other at n s None less = λ e. absurd (omega arith)
constant_other at n s (Some v) less = tt

symbol_other : (at : Place) (k : Kind) (s : List ℕ) → IsOther (symbol_by at k s)
symbol_other at Ident s = tt
symbol_other at Number s = constant_other at 24 s _ (omega arith)
symbol_other at CharConst s = constant_other at 25 s _ (omega arith)
symbol_other at Str s = tt
symbol_other at Punct s = tt
symbol_other at Header s = tt
symbol_other at Other s = tt

then_other : (s : Result Symbol Fault) (ss : Result (List Symbol) Fault) → IsOther s → IsOther ss → IsOther (symbol_then s ss)
then_other (Ok s) (Ok ss) h k = tt
then_other (Ok s) (Err f) h k = k
then_other (Err f) ss h k = h

symbols_other : (at : Place) (ts : List Token) → IsOther (symbols_of at ts)
symbols_other at [] = tt
symbols_other at (t ∷ ts) = then_other (symbol_of at t) (symbols_of at ts) (symbol_other at t.kind t.text) (symbols_other at ts)

taken_other : (at : Place) (v : Result Value Failure) → IsOther (taken at v)
taken_other at (Ok v) = tt
taken_other at (Err (ZeroDivisor o)) = λ e. absurd (omega arith)
taken_other at (Err (Overflow o)) = λ e. absurd (omega arith)
taken_other at (Err (Shift o)) = λ e. absurd (omega arith)

evaluates_other : (at : Place) (s : List Symbol) (c : Condition) → EvaluatesShallow at s c → IsOther c
evaluates_other at s c (no_expression none) = λ e. absurd (omega arith)
evaluates_other at s c (has_value {o = o} h) = taken_other at o.value

judges_other : (at : Place) (s : List Symbol) (c : Condition) → EvaluatesSymbols at s c → IsOther c
judges_other at s c (too_nested deep) = λ e. absurd (omega arith)
judges_other at s c (not_nested shallow h) = evaluates_other at s c h

decides_other : (at : Place) (ts : List Token) (c : Condition) → EvaluatesTokens at ts c → IsOther c
decides_other at ts c (defined_after_replacement e) = λ e. absurd (omega arith)
decides_other at ts c (bad_constant e g) = subst IsOther g (symbols_other at ts)
decides_other at ts c (constants {symbols = s} e g h) = judges_other at s c h

condition_other : {macros : Macros} {env : Env} {at : Place} {tokens : List Token} {meter meter_after : Meter} {c : Condition}
    → meter.remaining ≡ None
    → IsCondition macros env at tokens meter c meter_after
    → IsOther c
condition_other is (ill_formed none) = λ e. absurd (omega arith)
condition_other {macros} {env} is (expansion_fault replaces x faulty) = expansion_never_refused macros env is x faulty
condition_other {at = at} {c = c} is (replaced {e = e} replaces x whole decides) = decides_other at e.tokens c decides

pub condition_never_refused : {macros : Macros} {env : Env} {at : Place} {tokens : List Token} {meter meter_after : Meter} {f : Fault}
    → meter.remaining ≡ None
    → IsCondition macros env at tokens meter (Err f) meter_after
    → f.number ≢ 35
condition_never_refused is d = condition_other is d
