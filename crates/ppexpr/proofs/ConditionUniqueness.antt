-- A condition has at most one result.
use Rattle.std.proofs.Common.{◌≡◌, List, [], ◌∷◌, Some, None, Ok, Err, refl, sym, ◌∙◌, ap, map, subst}
use Rattle.pptext.specs.declared.tokens.Place.{Place}
use Rattle.pptext.specs.declared.tokens.Token.{Token}
use Rattle.pptext.specs.declared.tokens.Fault.{Fault}
use Rattle.ppmacro.specs.Names.{Macros}
use Rattle.ppexpand.specs.declared.env.Env.{Env}
use Rattle.ppexpand.specs.declared.meter.Meter.{Meter}
use Rattle.ppexpand.specs.Expansion.{Expansion, IsExpansion}
use Rattle.ppexpand.proofs.OutcomeUniqueness.{same_outcome}
use Rattle.ppexpr.specs.declared.symbols.Symbol.{Symbol}
use Rattle.ppexpr.specs.declared.symbols.Evaluation.{Evaluation}
use Rattle.ppexpr.specs.Values.{Denotes}
use Rattle.ppexpr.specs.Conditions.{Condition, taken, EvaluatesShallow, no_expression, has_value, EvaluatesSymbols, too_nested, not_nested}
use Rattle.ppexpr.specs.Conditions.{EvaluatesTokens, defined_after_replacement, bad_constant, constants, IsCondition, ill_formed, expansion_fault}
use Rattle.ppexpr.specs.Conditions.{replaced}
use Rattle.ppexpr.specs.Values.{evaluation_of}
use Rattle.ppexpr.specs.DefinedOperator.{defined_value, ReplacesDefined, nothing, other, defined_use}
use Rattle.ppexpr.specs.Tokens.{symbols_of}
use Rattle.ppexpr.proofs.TreeUniqueness.{same_tree}
use Rattle.ppexpr.proofs.DefinedReplacement.{Begins, begins_other, begins_defined}

same_nothing : (macros : Macros) (vs : List Token) → ReplacesDefined macros [] vs → [] ≡ vs
same_nothing macros vs nothing = refl

same_without_defined : (macros : Macros) (ts us vs : List Token) → ReplacesDefined macros ts us → ReplacesDefined macros ts vs → us ≡ vs
same_without_defined macros ts us vs nothing h = same_nothing macros vs h
same_without_defined macros ts us vs (other {t = t} {ts = ss} {us = xs} e a) h =
    let b : Begins macros t ss vs = begins_other macros t ss vs e h in
    ap (λ x. t ∷ x) (same_without_defined macros ss xs b.us a b.replaces) ∙ sym b.is
same_without_defined macros ts us vs (defined_use {d = d} {ts = ss} {us = xs} {o = o} e g a) h =
    let b : Begins macros (defined_value macros d o.name) o.rest vs = begins_defined macros d ss vs o e g h in
    ap (λ x. defined_value macros d o.name ∷ x) (same_without_defined macros o.rest xs b.us a b.replaces) ∙ sym b.is

same_expansion : (macros : Macros) (env : Env) (meter : Meter) (ts : List Token) (d e : Expansion) → IsExpansion macros env meter ts d → IsExpansion macros env meter ts e → d ≡ e
same_expansion macros env meter ts d e g h =
    let same : g.outcome ≡ h.outcome = (same_outcome macros env g.expands.1 h.expands.0 h.outcome h.expands.1).1 in
    let emitted : d.tokens ≡ e.tokens = g.emitted ∙ (ap (λ o. map (λ t. t.token) o.tokens) same ∙ sym h.emitted) in
    let fault_is : d.fault ≡ e.fault = g.fault_is ∙ (ap (λ o. o.fault) same ∙ sym h.fault_is) in
    let lefts : d.meter ≡ e.meter = g.meter_is ∙ (ap (λ o. o.meter) same ∙ sym h.meter_is) in
    λ i. record { tokens = emitted i; fault = fault_is i; meter = lefts i }

same_evaluations : (s : List Symbol) (o p : Evaluation) → Denotes s o → Denotes s p → o ≡ p
same_evaluations s o p h k = sym h.2 ∙ (ap evaluation_of (same_tree s h.0 k.0 h.1 k.1) ∙ k.2)

same_evaluation : (at : Place) (s : List Symbol) (c d : Condition) → EvaluatesShallow at s c → EvaluatesShallow at s d → c ≡ d
same_evaluation at s c d (no_expression n) (no_expression m) = refl
same_evaluation at s c d (no_expression n) (has_value h) = absurd (n (h.0, h.1))
same_evaluation at s c d (has_value h) (no_expression n) = absurd (n (h.0, h.1))
same_evaluation at s c d (has_value {o = o} h) (has_value {o = p} k) = ap (λ (x : Evaluation). taken at x.value) (same_evaluations s o p h k)

same_judgement : (at : Place) (s : List Symbol) (c d : Condition) → EvaluatesSymbols at s c → EvaluatesSymbols at s d → c ≡ d
same_judgement at s c d (too_nested n) (too_nested m) = refl
same_judgement at s c d (too_nested n) (not_nested m h) = absurd (m n)
same_judgement at s c d (not_nested m h) (too_nested n) = absurd (m n)
same_judgement at s c d (not_nested m h) (not_nested n k) = same_evaluation at s c d h k

same_symbols : (at : Place) (ts : List Token) (s r : List Symbol) → symbols_of at ts ≡ Ok s → symbols_of at ts ≡ Ok r → s ≡ r
same_symbols at ts s r e f = cc

same_decision : (at : Place) (ts : List Token) (c d : Condition) → EvaluatesTokens at ts c → EvaluatesTokens at ts d → c ≡ d
same_decision at ts c d (defined_after_replacement e) (defined_after_replacement f) = refl
same_decision at ts c d (defined_after_replacement e) (bad_constant f g) = cc
same_decision at ts c d (defined_after_replacement e) (constants f g j) = cc
same_decision at ts c d (bad_constant f g) (defined_after_replacement e) = cc
same_decision at ts c d (bad_constant e f) (bad_constant g h) = cc
same_decision at ts c d (bad_constant e f) (constants g h j) = cc
same_decision at ts c d (constants f g j) (defined_after_replacement e) = cc
same_decision at ts c d (constants g h j) (bad_constant e f) = cc
same_decision at ts c d (constants {symbols = s} e f j) (constants {symbols = r} g h k) =
    same_judgement at r c d (subst (λ (x : List Symbol). EvaluatesSymbols at x c) (same_symbols at ts s r f h) j) k

-- The tokens, with `defined` replaced by numbers, have at most one expansion.
same_replacement : (macros : Macros) (env : Env) (meter : Meter) (ts us vs : List Token) (d e : Expansion)
    → ReplacesDefined macros ts us
    → ReplacesDefined macros ts vs
    → IsExpansion macros env meter us d
    → IsExpansion macros env meter vs e
    → d ≡ e
same_replacement macros env meter ts us vs d e a b g h = same_expansion macros env meter vs d e (subst (λ (x : List Token). IsExpansion macros env meter x d) (same_without_defined macros ts us vs a b) g) h

same_fault : (d e : Expansion) (f q : Fault) → d ≡ e → d.fault ≡ Some f → e.fault ≡ Some q → f ≡ q
same_fault d e f q s g h = let k : d.fault ≡ e.fault = ap (λ (x : Expansion). x.fault) s in cc

no_fault : (d e : Expansion) (f : Fault) → d ≡ e → d.fault ≡ Some f → e.fault ≡ None → ⊥
no_fault d e f s g h = let k : d.fault ≡ e.fault = ap (λ (x : Expansion). x.fault) s in cc

pub same_condition : (macros : Macros) (env : Env) (at : Place) (ts : List Token) (meter meter_after other_after : Meter) (c d : Condition)
    → IsCondition macros env at ts meter c meter_after
    → IsCondition macros env at ts meter d other_after
    → (c ≡ d) × (meter_after ≡ other_after)
same_condition macros env at ts meter meter_after other_after c d (ill_formed n) (ill_formed m) = (refl, refl)
same_condition macros env at ts meter meter_after other_after c d (ill_formed n) (expansion_fault a g h) = absurd (n _ a)
same_condition macros env at ts meter meter_after other_after c d (ill_formed n) (replaced a g h j) = absurd (n _ a)
same_condition macros env at ts meter meter_after other_after c d (expansion_fault a g h) (ill_formed n) = absurd (n _ a)
same_condition macros env at ts meter meter_after other_after c d (replaced a g h j) (ill_formed n) = absurd (n _ a)
same_condition macros env at ts meter meter_after other_after c d
    (expansion_fault {without_defined = us} {e = x} {f = f} a g h) (expansion_fault {without_defined = vs} {e = y} {f = q} b k i) =
    let same : x ≡ y = same_replacement macros env meter ts us vs x y a b g k in
    (ap (λ (z : Fault). Err z) (same_fault x y f q same h i), ap (λ (z : Expansion). z.meter) same)
same_condition macros env at ts meter meter_after other_after c d
    (expansion_fault {without_defined = us} {e = x} {f = f} a g h) (replaced {without_defined = vs} {e = y} b k i j) =
    absurd (no_fault x y f (same_replacement macros env meter ts us vs x y a b g k) h i)
same_condition macros env at ts meter meter_after other_after c d
    (replaced {without_defined = vs} {e = y} b k i j) (expansion_fault {without_defined = us} {e = x} {f = f} a g h) =
    absurd (no_fault x y f (same_replacement macros env meter ts us vs x y a b g k) h i)
same_condition macros env at ts meter meter_after other_after c d
    (replaced {without_defined = us} {e = x} a g h i) (replaced {without_defined = vs} {e = y} b k n j) =
    let same : x ≡ y = same_replacement macros env meter ts us vs x y a b g k in
    (same_decision at y.tokens c d (subst (λ (z : Expansion). EvaluatesTokens at z.tokens c) same i) j, ap (λ (z : Expansion). z.meter) same)
