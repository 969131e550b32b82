-- Every condition has a result.
use Rattle.std.proofs.Common.{◌≡◌, ℕ, zero, suc, ◌+◌, ◌<◌, ◌≤◌, ◌⊎◌, inl, inr, Bool, true, false, List, [], ◌∷◌, length, take, map, count_by, Option, Some, None, Result, Ok, Err, refl, arith}
use Rattle.std.specs.Prelude.{MatchOption}
use Rattle.std.specs.List.{list_any, suffix_len}
use Rattle.std.proofs.lemmas.Bool.{cases_lt}
use Rattle.pptext.specs.declared.tokens.Place.{Place}
use Rattle.pptext.specs.declared.tokens.Token.{Token}
use Rattle.pptext.specs.declared.tokens.Fault.{Fault}
use Rattle.pptext.specs.Tokens.{fault}
use Rattle.ppmacro.specs.Names.{Macros}
use Rattle.ppmacro.specs.Substitution.{unhidden}
use Rattle.ppexpand.specs.declared.env.Env.{Env}
use Rattle.ppexpand.specs.declared.meter.Meter.{Meter}
use Rattle.ppexpand.specs.Expansion.{Expansion, IsExpansion}
use Rattle.ppexpand.proofs.OutcomeExistence.{total}
use Rattle.ppexpr.specs.declared.symbols.Symbol.{Symbol}
use Rattle.ppexpr.specs.declared.symbols.Evaluation.{Evaluation}
use Rattle.ppexpr.specs.Grammar.{IsExpression}
use Rattle.ppexpr.specs.Values.{Denotes}
use Rattle.ppexpr.specs.Conditions.{Condition, taken, EvaluatesShallow, no_expression, has_value, EvaluatesSymbols, too_nested, not_nested}
use Rattle.ppexpr.specs.Conditions.{EvaluatesTokens, defined_after_replacement, bad_constant, constants, IsCondition, ill_formed, expansion_fault}
use Rattle.ppexpr.specs.Conditions.{replaced}
use Rattle.ppexpr.specs.DefinedOperator.{is_defined, Operand, operand, defined_value, ReplacesDefined, nothing, other, defined_use}
use Rattle.ppexpr.specs.Tokens.{symbols_of}
use Rattle.ppexpr.specs.code.Pending.{evaluations}
use Rattle.ppexpr.specs.Nesting.{is_open, is_close, is_question, is_sign, most_levels, IsTooNested}
use Rattle.ppexpr.proofs.DefinedReplacement.{Begins, begins_other, begins_defined, defined_without_operand}
use Rattle.ppexpr.proofs.MachineCorrectness.{exact}
use Rattle.ppexpr.proofs.UnreplacedConditions.{operand_shorter}
use Rattle.ppexpr.proofs.MachineRuns.{run}

-- ---- the uses of `defined` are replaced by numbers, or one is ill-formed

abbrev Answered : Macros → List Token → Type 0
Answered macros ts = ((us : List Token) × ReplacesDefined macros ts us) ⊎ ((us : List Token) → ¬ ReplacesDefined macros ts us)

answered_after_other : (macros : Macros) (t : Token) (ts : List Token) → is_defined t ≡ false → Answered macros ts → Answered macros (t ∷ ts)
answered_after_other macros t ts e (inl h) = inl (t ∷ h.0, other e h.1)
answered_after_other macros t ts e (inr none) = inr (λ us a. let b : Begins macros t ts us = begins_other macros t ts us e a in none b.us b.replaces)

answered_after_defined : (macros : Macros) (d : Token) (ts : List Token) (o : Operand) → is_defined d ≡ true → operand ts ≡ Some o → Answered macros o.rest → Answered macros (d ∷ ts)
answered_after_defined macros d ts o e k (inl h) = inl (defined_value macros d o.name ∷ h.0, defined_use e k h.1)
answered_after_defined macros d ts o e k (inr none) = inr (λ us a. let b : Begins macros (defined_value macros d o.name) o.rest us = begins_defined macros d ts us o e k a in none b.us b.replaces)

-- `Answered` holds for every list that is not longer
abbrev AnsweredUpTo : Macros → List Token → Type 0
AnsweredUpTo macros ts = (rest : List Token) → length rest ≤ length ts → Answered macros rest

answered_defined : (macros : Macros) (d : Token) (ts : List Token) (o : Option Operand) → is_defined d ≡ true → operand ts ≡ o → AnsweredUpTo macros ts → Answered macros (d ∷ ts)
answered_defined macros d ts None e k r = inr (λ us a. defined_without_operand macros d ts us e k a)
answered_defined macros d ts (Some o) e k r = answered_after_defined macros d ts o e k (r o.rest (omega (arith, operand_shorter ts o k)))

answered_first : (macros : Macros) (t : Token) (ts : List Token) (b : Bool) → is_defined t ≡ b → AnsweredUpTo macros ts → Answered macros (t ∷ ts)
answered_first macros t ts false e r = answered_after_other macros t ts e (r ts (omega arith))
answered_first macros t ts true e r = answered_defined macros t ts (operand ts) e refl r

answered : (n : ℕ) (macros : Macros) (ts : List Token) → length ts ≤ n → Answered macros ts
answered n macros [] h = inl ([], nothing)
answered zero macros (t ∷ ts) h = absurd (omega arith)
answered (suc n) macros (t ∷ ts) h = answered_first macros t ts (is_defined t) refl (λ rest k. answered n macros rest (omega arith))

-- ---- the symbols are nested too deep, or not

not_nothing : (Q : List Symbol → Type 0) → ¬ Q [] → (k : ℕ) → Q (take k []) → ⊥
not_nothing Q none zero q = none q
not_nothing Q none (suc k) q = none q

not_among : (x : Symbol) (s : List Symbol) (Q : List Symbol → Type 0) → ¬ Q [] → ¬ ((k : ℕ) × Q (x ∷ take k s)) → (k : ℕ) → Q (take k (x ∷ s)) → ⊥
not_among x s Q none later zero q = none q
not_among x s Q none later (suc k) q = later (k, q)

-- For a decidable property, some prefix of the list has it, or no prefix has it.
somewhere : (s : List Symbol) (Q : List Symbol → Type 0) → ((l : List Symbol) → Q l ⊎ ¬ Q l) → ((k : ℕ) × Q (take k s)) ⊎ ¬ ((k : ℕ) × Q (take k s))
somewhere [] Q d = elim (d []) [
  | inl q ↦ inl (0, q)
  | inr none ↦ inr (λ h. not_nothing Q none h.0 h.1)
]
somewhere (x ∷ s) Q d = elim (d []) [
  | inl q ↦ inl (0, q)
  | inr none ↦ elim (somewhere s (λ l. Q (x ∷ l)) (λ l. d (x ∷ l))) [
    | inl h ↦ inl (suc h.0, h.1)
    | inr later ↦ inr (λ h. not_among x s Q none later h.0 h.1)
  ]
]

below_or : (a b : ℕ) → (a < b) ⊎ ¬ (a < b)
below_or a b = elim (cases_lt a b) [ inl less ↦ inl less | inr least ↦ inr (λ h. absurd (omega arith)) ]

too_nested_or : (s : List Symbol) → IsTooNested s ⊎ ¬ IsTooNested s
too_nested_or s = elim (somewhere s (λ l. count_by is_close l + most_levels < count_by is_open l) (λ l. below_or (count_by is_close l + most_levels) (count_by is_open l))) [
  | inl deep ↦ inl (inl deep)
  | inr no_parentheses ↦ elim (below_or most_levels (count_by is_question s)) [
    | inl many ↦ inl (inr (inl many))
    | inr few ↦ elim (somewhere s (λ l. most_levels < suffix_len is_sign l) (λ l. below_or most_levels (suffix_len is_sign l))) [
      | inl deep ↦ inl (inr (inr deep))
      | inr no_signs ↦ inr (λ h. elim h [ inl deep ↦ no_parentheses deep | inr more ↦ elim more [ inl many ↦ few many | inr deep ↦ no_signs deep ] ])
    ]
  ]
]

-- ---- the steps of a condition

some_value : (at : Place) (s : List Symbol) (r : Option Evaluation) → MatchOption r (¬ IsExpression s) (Denotes s) → (c : Condition) × EvaluatesShallow at s c
some_value at s None h = (Err (fault 23 at []), no_expression h)
some_value at s (Some o) h = (taken at o.value, has_value h)

some_judgement : (at : Place) (s : List Symbol) → (c : Condition) × EvaluatesSymbols at s c
some_judgement at s = elim (too_nested_or s) [
  | inl deep ↦ (Err (fault 29 at []), too_nested deep)
  | inr shallow ↦ let e = some_value at s (run evaluations ([], None) s) (exact s (run evaluations ([], None) s) refl) in (e.0, not_nested shallow e.1)
]

some_constants : (at : Place) (ts : List Token) (r : Result (List Symbol) Fault) → list_any is_defined ts ≡ false → symbols_of at ts ≡ r → (c : Condition) × EvaluatesTokens at ts c
some_constants at ts (Err f) e h = (Err f, bad_constant e h)
some_constants at ts (Ok s) e h = let j = some_judgement at s in (j.0, constants e h j.1)

some_decision : (at : Place) (ts : List Token) (b : Bool) → list_any is_defined ts ≡ b → (c : Condition) × EvaluatesTokens at ts c
some_decision at ts true e = (Err (fault 22 at []), defined_after_replacement e)
some_decision at ts false e = some_constants at ts (symbols_of at ts) e refl

some_replacement : (macros : Macros) (env : Env) (at : Place) (ts us : List Token) (meter : Meter) (e : Expansion) (f : Option Fault)
    → ReplacesDefined macros ts us
    → IsExpansion macros env meter us e
    → e.fault ≡ f
    → (c : Condition) × (meter_after : Meter) × IsCondition macros env at ts meter c meter_after
some_replacement macros env at ts us meter e (Some f) a x h = (Err f, e.meter, expansion_fault a x h)
some_replacement macros env at ts us meter e None a x h = let d = some_decision at e.tokens (list_any is_defined e.tokens) refl in (d.0, e.meter, replaced a x h d.1)

some_expansion : (macros : Macros) (env : Env) (meter : Meter) (ts : List Token) → (e : Expansion) × IsExpansion macros env meter ts e
some_expansion macros env meter ts =
    let one = total macros env 0 meter (map unhidden ts) in
    (record { tokens = map (λ t. t.token) one.1.tokens; fault = one.1.fault; meter = one.1.meter }, record { outcome = one.1; expands = (one.0, one.2); emitted = refl; fault_is = refl; meter_is = refl })

pub some_condition : (macros : Macros) (env : Env) (at : Place) (ts : List Token) (meter : Meter)
    → (c : Condition) × (meter_after : Meter) × IsCondition macros env at ts meter c meter_after
some_condition macros env at ts meter = elim (answered (length ts) macros ts (omega arith)) [
  | inl h ↦ let e = some_expansion macros env meter h.0 in some_replacement macros env at ts h.0 meter e.0 e.0.fault h.1 e.1 refl
  | inr none ↦ (Err (fault 22 at []), meter, ill_formed none)
]
