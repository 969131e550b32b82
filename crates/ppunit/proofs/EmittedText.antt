-- What text lines emit, from the expansion of their tokens. A run without tokens, for example of blank lines, emits nothing.
use Rattle.std.proofs.Common.{◌≡◌, Bool, true, false, true≢false, ◌&&◌, List, [], ◌∷◌, ◌++◌, length, nat_eq, map, Option, None, Some, refl, sym, ap, ◌∙◌, ◌<◌, subst, suc, arith, if◌then◌else◌}
use Rattle.std.specs.Prelude.{◌==◌}
use Rattle.std.proofs.lemmas.Bool.{eqb-true}
use Rattle.pptext.specs.declared.tokens.Token.{Token}
use Rattle.pptext.specs.declared.tokens.Fault.{Fault}
use Rattle.pptext.specs.declared.sources.Profile.{Profile}
use Rattle.pptext.specs.Profiles.{is_gnu}
use Rattle.pptext.specs.Tokens.{fault}
use Rattle.ppmacro.specs.Names.{Macros}
use Rattle.ppmacro.specs.Substitution.{unhidden}
use Rattle.ppexpand.specs.declared.env.Env.{Env}
use Rattle.ppexpand.specs.declared.meter.Meter.{Meter}
use Rattle.ppexpand.specs.Budget.{spend_one, give_back_one}
use Rattle.ppexpand.specs.Expansion.{Expansion, IsExpansion, stops_with, done}
use Rattle.ppexpand.specs.OpenInvocations.{begins_open, stopped_at, still_open, open_expansion}
use Rattle.ppexpand.proofs.OpenLists.{open_at_another_fault}
use Rattle.ppexpand.proofs.WaitingLists.{expands_open, remains_one, spends_again}
use Rattle.ppunit.specs.declared.units.Item.TheVariants as item
use Rattle.ppunit.specs.States.{State, running, emitted, with_meter, with_waiting}
use Rattle.ppunit.specs.Directives.{meter_at_text, waits_in, fault_unless, text_emitted, EmitsText}
use Rattle.ppunit.specs.code.TextLines.{ExpandsText, waits_or_stops}
use Rattle.ppunit.proofs.KeptItems.{kept-nothing}
use Rattle.ppunit.proofs.TextRuns.{none_next}

-- ---- the tokens that wait

if_same : {A : Type 0} (b : Bool) (a : A) → (if b then a else a) ≡ a
if_same true a = refl
if_same false a = refl

-- Without an open invocation nothing waits.
pub nothing_waits : (profile : Profile) → waits_in profile [] ≡ []
nothing_waits profile = if_same (is_gnu profile) []

-- Outside GNU C nothing waits.
pub waits_elsewhere : (profile : Profile) (open' : List Token) → is_gnu profile ≡ false → waits_in profile open' ≡ []
waits_elsewhere profile open' other = ap (λ (gnu : Bool). if gnu then open' else []) other

-- In GNU C the whole open invocation waits.
pub waits_all : (profile : Profile) (open' : List Token) → is_gnu profile ≡ true → waits_in profile open' ≡ open'
waits_all profile open' gnu = ap (λ (b : Bool). if b then open' else []) gnu

-- Without a fault no invocation is open, and so nothing waits.
pub open_without : (macros : Macros) (env : Env) (meter : Meter) (tokens : List Token) (x : Expansion) (expands : IsExpansion macros env meter tokens x)
    → x.fault ≡ None
    → open_expansion expands ≡ []
open_without macros env meter tokens x expands none =
    ap (λ (f : Option Fault). still_open macros f (stopped_at macros env expands.expands.1)) (sym expands.fault_is ∙ none)

pub waits_without : (profile : Profile) (macros : Macros) (env : Env) (meter : Meter) (tokens : List Token) (x : Expansion)
    (expands : IsExpansion macros env meter tokens x)
    → x.fault ≡ None
    → waits_in profile (open_expansion expands) ≡ []
waits_without profile macros env meter tokens x expands none =
    ap (waits_in profile) (open_without macros env meter tokens x expands none) ∙ nothing_waits profile

-- Nor does anything wait outside GNU C, or at a fault other than 17.
pub waits_at_another_fault : (profile : Profile) (macros : Macros) (env : Env) (meter : Meter) (tokens : List Token) (x : Expansion)
    (expands : IsExpansion macros env meter tokens x) (f : Fault)
    → x.fault ≡ Some f
    → (is_gnu profile && (f.number == 17)) ≡ false
    → waits_in profile (open_expansion expands) ≡ []
waits_at_another_fault profile macros env meter tokens x expands f is other = elim (is_gnu profile) as (λ gnu. is_gnu profile ≡ gnu → waits_in profile (open_expansion expands) ≡ []) [
  | true ↦ λ gnu. ap (waits_in profile) (open_at_another_fault expands f is (ap (λ b. b && (f.number == 17)) (sym gnu) ∙ other)) ∙ nothing_waits profile
  | false ↦ λ elsewhere. waits_elsewhere profile (open_expansion expands) elsewhere
] refl

-- ---- what text lines emit

-- from the expansion of the tokens that wait and of those of the lines
pub expands_text : (s counted taken t : State) (list tokens : List Token) (x : Expansion) (unclosed : List Token)
    → counted ≡ with_meter s (meter_at_text s.waiting s.meter)
    → list ≡ counted.waiting ++ tokens
    → taken ≡ with_waiting counted []
    → (expands : IsExpansion taken.macros taken.env taken.meter list x) × (unclosed ≡ open_expansion expands)
    → t ≡ emitted (with_meter taken x.meter) (map item.Token x.tokens)
    → ExpandsText s tokens t x.fault unclosed
expands_text s counted taken t list tokens x unclosed counts lists takes =
    let Expands : State → List Token → Type 0 = λ z l.
    (expands : IsExpansion z.macros z.env z.meter l x) × (unclosed ≡ open_expansion expands)
    → t ≡ emitted (with_meter z x.meter) (map item.Token x.tokens)
    → ExpandsText s tokens t x.fault unclosed in
    subst (λ (z : State). Expands z list) (sym (takes ∙ ap (λ (z : State). with_waiting z []) counts))
    (subst (Expands (with_waiting (with_meter s (meter_at_text s.waiting s.meter)) [])) (sym (lists ∙ ap (λ (z : State). z.waiting ++ tokens) counts))
    (λ open' is. record { expanded = x; expands = open'.0; state_is = is; fault_is = refl; open_is = open'.1 }))

-- Nothing waits any more, and nothing is left open without a fault.
pub nothing_left : (s t : State) (tokens : List Token) (f : Option Fault) (unclosed : List Token) → ExpandsText s tokens t f unclosed → t.waiting ≡ []
nothing_left s t tokens f unclosed x = ap (λ (z : State). z.waiting) x.state_is

pub open_at_faults : (s t : State) (tokens : List Token) (f : Option Fault) (unclosed : List Token) → ExpandsText s tokens t f unclosed → f ≡ None → unclosed ≡ []
open_at_faults s t tokens f unclosed x none =
    x.open_is ∙ open_without s.macros s.env (meter_at_text s.waiting s.meter) (s.waiting ++ tokens) x.expanded x.expands (sym x.fault_is ∙ none)

-- The fault stops the unit, if nothing waits.
pub stops_with_fault : (profile : Profile) (s : State) (f : Option Fault) (unclosed : List Token)
    → s.waiting ≡ []
    → waits_in profile unclosed ≡ []
    → record { state = s; fault = f } ≡ waits_or_stops s f (waits_in profile unclosed)
stops_with_fault profile s f unclosed none waits =
    (λ i. record { state = with_waiting s (none i); fault = f }) ∙ ap (waits_or_stops s f) (sym waits)

-- Tokens wait, whatever the fault is.
pub waits_for_more : (profile : Profile) (s : State) (f : Option Fault) (unclosed : List Token)
    → is_gnu profile ≡ true
    → 0 < length unclosed
    → record { state = with_waiting s unclosed; fault = None } ≡ waits_or_stops s f (waits_in profile unclosed)
waits_for_more profile s f unclosed gnu some =
    ap (λ (g : Option Fault). record { state = with_waiting s unclosed; fault = g }) (no_fault unclosed some) ∙ ap (waits_or_stops s f) (sym (waits_all profile unclosed gnu))
  where
    no_fault : (ts : List Token) → 0 < length ts → None ≡ fault_unless ts f
    no_fault [] some = absurd (omega (arith, some))
    no_fault (t ∷ ts) some = refl

pub emits_open : (profile : Profile) (s u t : State) (tokens : List Token) (f g : Option Fault) (unclosed : List Token)
    → ExpandsText s tokens u f unclosed
    → record { state = t; fault = g } ≡ waits_or_stops u f (waits_in profile unclosed)
    → EmitsText profile s tokens (record { state = t; fault = g })
emits_open profile s u t tokens f g unclosed x is = record {
  expanded = x.expanded;
  expands = x.expands;
  is = is ∙ (λ i. waits_or_stops (x.state_is i) (x.fault_is i) (waits_in profile (x.open_is i)));
}

-- from the expansion of the tokens of the lines alone, where nothing waits before them nor after them
pub emits_closed : (profile : Profile) (s t : State) (tokens : List Token) (x : Expansion) (f : Option Fault)
    → s.waiting ≡ []
    → (expands : IsExpansion s.macros s.env s.meter tokens x)
    → waits_in profile (open_expansion expands) ≡ []
    → t ≡ emitted (with_meter s x.meter) (map item.Token x.tokens)
    → f ≡ x.fault
    → EmitsText profile s tokens (record { state = t; fault = f })
emits_closed profile s t tokens x f none expands closes is fault =
    let alone : s ≡ with_waiting s [] = λ i. with_waiting s (none i) in
    let here : t ≡ emitted (with_meter (with_waiting s []) x.meter) (map item.Token x.tokens) =
    is ∙ ap (λ (z : State). emitted (with_meter z x.meter) (map item.Token x.tokens)) alone in
    subst (λ (z : State). EmitsText profile z tokens (record { state = t; fault = f })) (sym alone)
    (record {
      expanded = x;
      expands = expands;
      is = (λ i. record { state = here i; fault = fault i }) ∙ ap (text_emitted (with_waiting s []) x) (sym closes);
    })

-- behind an invocation that waits and stays open
goes_on : (profile : Profile) (s : State) (waiting tokens : List Token)
    → is_gnu profile ≡ true
    → begins_open s.macros (map unhidden waiting) ≡ true
    → begins_open s.macros (map unhidden (waiting ++ tokens)) ≡ true
    → EmitsText profile (with_waiting s waiting) tokens (running (with_waiting s (waiting ++ tokens)))
goes_on profile s [] tokens gnu before after = absurd (true≢false (sym before))
goes_on profile s (t ∷ ts) tokens gnu before after =
    let meter = give_back_one s.meter in
    let open' = expands_open s.macros s.env meter t (ts ++ tokens) after (remains_one s.meter) in
    let x : Expansion = record { tokens = []; fault = Some (fault 17 t.used t.text); meter = spend_one meter } in
    record {
      expanded = x;
      expands = open'.expands;
      is =
          (λ i. running (record s { items = sym (kept-nothing s.keeps s.items) i; meter = sym (spends_again s.meter) i; waiting = t ∷ (ts ++ tokens) }))
          ∙ ap (text_emitted (with_waiting s (t ∷ ts)) x) (sym open'.open_is ∙ sym (waits_all profile (open_expansion open'.expands) gnu));
    }

pub stays_waiting : (profile : Profile) (s : State) (tokens : List Token)
    → is_gnu profile ≡ true
    → begins_open s.macros (map unhidden s.waiting) ≡ true
    → begins_open s.macros (map unhidden (s.waiting ++ tokens)) ≡ true
    → EmitsText profile s tokens (running (with_waiting s (s.waiting ++ tokens)))
stays_waiting profile s tokens = goes_on profile s s.waiting tokens

-- ---- a text run without tokens, for example of blank lines, emits nothing

without_tokens : (profile : Profile) (s : State) → s.waiting ≡ [] → EmitsText profile s [] (record { state = s; fault = None })
without_tokens profile s none =
    let x : Expansion = record { tokens = []; fault = None; meter = s.meter } in
    let expands : IsExpansion s.macros s.env s.meter [] x =
    record { outcome = stops_with s.meter None; expands = (0, done (none_next s.macros s.env s.meter)); emitted = refl; fault_is = refl; meter_is = refl } in
    emits_closed profile s s [] x None none expands (waits_without profile s.macros s.env s.meter [] x expands refl) (λ i. record s { items = sym (kept-nothing s.keeps s.items) i }) refl

pub empty_run : (profile : Profile) (s : State) (ts : List Token) → s.waiting ≡ [] → nat_eq (length ts) 0 ≡ true → EmitsText profile s ts (record { state = s; fault = None })
empty_run profile s [] none h = without_tokens profile s none
empty_run profile s (t ∷ ts) none h = absurd (omega (arith, eqb-true (suc (length ts)) 0 h))
