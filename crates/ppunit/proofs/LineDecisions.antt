-- A decision from the tokens and the directive of a line is a decision of the line. Whether an option, as a line's directive, is `None`.
use Rattle.std.proofs.Common.{◌≡◌, ◌≢◌, ℕ, Bool, true, false, ◌&&◌, List, refl, sym, ap, ◌∙◌, subst, Option, None, Some, IsSome, Result, Ok, Err}
use Rattle.std.specs.List.{list_any}
use Rattle.std.specs.Option.{is_some}
use Rattle.std.proofs.lemmas.Bool.{false≢true}
use Rattle.pptext.specs.declared.tokens.Place.{Place}
use Rattle.pptext.specs.declared.tokens.Token.{Token}
use Rattle.pptext.specs.declared.tokens.Fault.{Fault}
use Rattle.pptext.specs.declared.sources.Profile.{Profile}
use Rattle.pptext.specs.declared.sources.Directive.{Directive}
use Rattle.pptext.specs.declared.directives.Class.{Class}
use Rattle.pptext.specs.declared.directives.Question.TheVariants.{Defined, Value}
use Rattle.pptext.specs.declared.directives.Question.{Question}
use Rattle.pptext.specs.declared.directives.Class.TheVariants as class
use Rattle.pptext.specs.Classes.{class_of, question_in, question_of, elifs, begins_elif_group}
use Rattle.pptext.specs.Lines.{LogicalLine}
use Rattle.ppunit.specs.States.{Search, State, with_meter}
use Rattle.ppunit.specs.Conditions.{by_name, DecidesByValue, Decides}
use Rattle.ppunit.specs.code.Lines.{directed, IsConditional}
use Rattle.ppunit.specs.Quotes.{unmatched_quote}
use Rattle.ppunit.specs.DirectiveLines.{operands, one_identifier}
use Rattle.ppunit.specs.Probing.{is_operator, Probes, ProbesBy, ProbesLine}
use Rattle.ppexpr.specs.Conditions.{IsCondition}
use Rattle.pptext.specs.Profiles.{is_gnu}
use Rattle.pptext.specs.Tree.{hash_place}
use Rattle.ppexpand.specs.declared.meter.Meter.{Meter}
use Rattle.ppunit.proofs.HasIncludeNumbers.{none_applies, unprobed}
use Rattle.ppunit.specs.code.Walk.{ContinuesIf, ContinuesBy, TakesBranch}

pub none_of : {A : Type 0} (o : Option A) → ((x : A) → o ≡ Some x → ⊥) → o ≡ None
none_of None never = refl
none_of (Some n) never = absurd (never n refl)

pub some_not : {A : Type 0} (o : Option A) → is_some o ≡ true → o ≡ None → ⊥
some_not None is none = absurd (cc)
some_not (Some x) is none = cc

pub decides_at : (search : Search) (row : ℕ) (s : State) (r : LogicalLine) (d : Directive) (tokens : List Token) (meter_after : Meter) (taken : Result Bool Fault)
    → r.directive ≡ Some d
    → tokens ≡ r.tokens
    → ((number : ℕ) → Decides search row s (directed d tokens number) meter_after taken)
    → Decides search row s r meter_after taken
decides_at search row s r d tokens meter_after taken is same decides =
    subst (λ (z : Option Directive). Decides search row s (record { tokens = r.tokens; number = r.number; directive = z }) meter_after taken) (sym is)
    (subst (λ (ts : List Token). Decides search row s (directed d ts r.number) meter_after taken) same (decides r.number))

-- an unmatched quote
pub decides_quote : (search : Search) (row : ℕ) (s : State) (d : Directive) (tokens : List Token) (number : ℕ) (f : Fault)
    → unmatched_quote tokens ≡ Some f
    → Decides search row s (directed d tokens number) s.meter (Err f)
decides_quote search row s d tokens number f q = Decides.unmatched q (refl, refl)

-- a line that asks for a name
pub decides_name : (search : Search) (row : ℕ) (s : State) (d : Directive) (tokens : List Token) (number : ℕ) (wanted : Bool) (taken : Result Bool Fault)
    → unmatched_quote tokens ≡ None
    → question_of d ≡ Some (Defined wanted)
    → taken ≡ by_name wanted s.macros tokens (one_identifier (operands tokens))
    → Decides search row s (directed d tokens number) s.meter taken
decides_name search row s d tokens number wanted taken q n is = Decides.tests_name q n (refl, is)

-- a line that asks for a value
pub decides_value : (search : Search) (row : ℕ) (s : State) (d : Directive) (tokens : List Token) (number : ℕ) (meter_after : Meter) (taken : Result Bool Fault)
    → unmatched_quote tokens ≡ None
    → question_of d ≡ Some Value
    → DecidesByValue search row s tokens meter_after taken
    → Decides search row s (directed d tokens number) meter_after taken
decides_value search row s d tokens number meter_after taken q v value = Decides.evaluates q v value

-- A line that asks, but not for a name, has a condition.
pub asks_value : (q : Option Question) → IsSome q → ((wanted : Bool) → q ≢ Some (Defined wanted)) → q ≡ Some Value
asks_value None has other = absurd (cc)
asks_value (Some Value) has other = refl
asks_value (Some (Defined wanted)) has other = absurd (other wanted refl)

enters_by_condition : (search : Search) (row : ℕ) (d : Directive) (s : State) (r : LogicalLine) (meter_after : Meter) (taken : Result Bool Fault)
    → begins_elif_group d ≡ true
    → Decides search row s r meter_after taken
    → ContinuesBy search row (Some d) s r meter_after taken
enters_by_condition search row d s r meter_after taken e decides = subst (λ (b : Bool). ContinuesIf search row b s r meter_after taken) (sym e) decides

pub enters_asked : (search : Search) (row : ℕ) (s : State) (r : LogicalLine) (d : Directive) (tokens : List Token) (meter_after : Meter) (taken : Result Bool Fault)
    → r.directive ≡ Some d
    → tokens ≡ r.tokens
    → begins_elif_group d ≡ true
    → ((number : ℕ) → Decides search row s (directed d tokens number) meter_after taken)
    → TakesBranch search row s r meter_after taken
enters_asked search row s r d tokens meter_after taken is same e decides =
    subst (λ (z : Option Directive). ContinuesBy search row z s r meter_after taken) (sym is)
    (enters_by_condition search row d s r meter_after taken e (decides_at search row s r d tokens meter_after taken is same decides))

elif_asks : (c : Class) → elifs c ≡ true → IsSome (question_in c)
elif_asks (class.Elifs q) e = refl
elif_asks c e = absurd (cc)

pub conditional : (d : Directive) → begins_elif_group d ≡ true → IsConditional d
conditional d e = elif_asks (class_of d) e

-- ---- conditions, with or without has-include operators

unprobed_by : (search : Search) (row : ℕ) (line : List Token) (s : State) (ts : List Token) (b : Bool) → (b && list_any is_operator ts) ≡ false
    → ProbesBy b search row line s ts s.meter (Ok ts)
unprobed_by search row line s ts true e = unprobed search row line s ts (none_applies ts e)
unprobed_by search row line s ts false e = (refl, refl)

-- Without operators, the condition is that of the operands.
pub decides_unprobed : (search : Search) (row : ℕ) (s : State) (line ts : List Token) (profile : Profile) (at : Place) (meter_after : Meter) (taken : Result Bool Fault)
    → profile ≡ search.profile
    → ts ≡ operands line
    → at ≡ hash_place line
    → false ≡ (is_gnu profile && list_any is_operator ts)
    → IsCondition s.macros s.env at ts s.meter taken meter_after
    → DecidesByValue search row s line meter_after taken
decides_unprobed search row s line ts profile at meter_after taken same_profile same_tokens same_place e condition =
    let none = sym (e ∙ ap (λ (z : Profile). is_gnu z && list_any is_operator ts) same_profile ∙ ap (λ (z : List Token). is_gnu search.profile && list_any is_operator z) same_tokens) in
    DecidesByValue.evaluated (unprobed_by search row line s (operands line) (is_gnu search.profile) none)
    (subst (λ (z : Place). IsCondition s.macros s.env z (operands line) s.meter taken meter_after) same_place
    (subst (λ (z : List Token). IsCondition s.macros s.env at z s.meter taken meter_after) same_tokens condition))

probed_by : (search : Search) (row : ℕ) (line : List Token) (s : State) (ts : List Token) (b : Bool) (meter_after : Meter) (r : Result (List Token) Fault)
    → (b && list_any is_operator ts) ≡ true
    → Probes search row line s ts meter_after r
    → ProbesBy b search row line s ts meter_after r
probed_by search row line s ts true meter_after r e probes = probes
probed_by search row line s ts false meter_after r e probes = absurd (false≢true e)

-- With operators, the condition is that of the operands with numbers in their place.
pub probes_line : (search : Search) (row : ℕ) (s : State) (line ts : List Token) (profile : Profile) (meter_after : Meter) (r : Result (List Token) Fault)
    → profile ≡ search.profile
    → ts ≡ operands line
    → true ≡ (is_gnu profile && list_any is_operator ts)
    → Probes search row line s (operands line) meter_after r
    → ProbesLine search row s line meter_after r
probes_line search row s line ts profile meter_after r same_profile same_tokens e probes =
    let some = sym (e ∙ ap (λ (z : Profile). is_gnu z && list_any is_operator ts) same_profile ∙ ap (λ (z : List Token). is_gnu search.profile && list_any is_operator z) same_tokens) in
    probed_by search row line s (operands line) (is_gnu search.profile) meter_after r some probes

-- The value of the probed tokens, in the state after probing, decides.
pub decides_probed : (search : Search) (row : ℕ) (s t : State) (line tokens : List Token) (at : Place) (meter_after : Meter) (taken : Result Bool Fault)
    → t ≡ with_meter s t.meter
    → at ≡ hash_place line
    → ProbesLine search row s line t.meter (Ok tokens)
    → IsCondition t.macros t.env at tokens t.meter taken meter_after
    → DecidesByValue search row s line meter_after taken
decides_probed search row s t line tokens at meter_after taken same same_place probes condition =
    DecidesByValue.evaluated probes
    (subst (λ (z : Place). IsCondition s.macros s.env z tokens t.meter taken meter_after) same_place
    (subst (λ (z : State). IsCondition z.macros z.env at tokens t.meter taken meter_after) same condition))
