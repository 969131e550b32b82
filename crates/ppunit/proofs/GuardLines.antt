-- If the guard of a file is defined, the opening line skips its group, in each of the three forms of a guard.
use Rattle.std.proofs.Common.{◌≡◌, ℕ, ◌+◌, Bool, true, false, ◌&&◌, List, [], ◌∷◌, Option, Some, None, Ok, refl, sym, ap, ◌∙◌, subst, codes, if◌then◌else◌, is_some, arith}
use Rattle.std.proofs.lemmas.Bool.{and_parts}
use Rattle.pptext.specs.declared.tokens.Place.{Place}
use Rattle.pptext.specs.declared.tokens.Token.{Token}
use Rattle.pptext.specs.declared.tokens.Kind.{Kind}
use Rattle.pptext.specs.declared.tokens.Kind.TheVariants.{Ident, Punct}
use Rattle.pptext.specs.declared.sources.Directive.{Directive}
use Rattle.pptext.specs.declared.sources.Directive.TheVariants.{If, Ifndef}
use Rattle.pptext.specs.declared.sources.Profile.{Profile}
use Rattle.pptext.specs.declared.sources.Profile.TheVariants.{C11, Later, Gnu}
use Rattle.pptext.specs.Profiles.{is_gnu}
use Rattle.pptext.specs.Spellings.{Spells}
use Rattle.pptext.specs.Lines.{LogicalLine, directive_of, directive_named}
use Rattle.pptext.specs.Tree.{role, role_by, role_of_directive}
use Rattle.pptext.specs.Guard.{named, is_not_defined, are_parentheses, ident_if, guard_name}
use Rattle.pptext.proofs.KindUniqueness.{begins}
use Rattle.pptext.specs.Tokens.{is_identifier_kind}
use Rattle.ppmacro.specs.Define.{same_bool}
use Rattle.ppexpand.specs.Budget.{with_budget}
use Rattle.ppexpand.specs.Laws.{plus}
use Rattle.ppexpand.proofs.BudgetLemmas.{Covers, without}
use Rattle.ppexpr.specs.Conditions.{IsCondition, count_condition}
use Rattle.ppexpr.proofs.ConditionUniqueness.{same_condition}
use Rattle.ppexpr.proofs.ConditionBudgets.{condition_spends, condition_enough}
use Rattle.ppexpr.proofs.GuardConditions.{punctuator, as_defined, as_name, bare_false, parenthesized_false}
use Rattle.ppunit.specs.States.{Search, State}
use Rattle.ppunit.specs.Quotes.{unmatched_quote}
use Rattle.ppunit.specs.Probing.{ProbesBy}
use Rattle.ppunit.specs.Conditions.{by_name, Decides, DecidesByValue}
use Rattle.ppunit.specs.States.{is_macro_name}
use Rattle.ppunit.specs.Counts.{count_decides, count_probes_by}
use Rattle.ppunit.proofs.HasIncludeNumbers.{NoneApplies, unprobed, unprobed_free}
use Rattle.ppunit.proofs.FileTokens.{IsSpelled, AreSpelled, IsSpelledLine, opens_header, kind_is, defined_spelled}
use Rattle.std.specs.FinMap as table
use Rattle.ppexpand.specs.declared.meter.Meter.{Meter}
use Rattle.ppunit.proofs.QuoteFreeTokens.{is_quote, is_ident_kind, ident_unquoted, named_is, is_hash, hash_unquoted, opens_by, AreUnquoted, no_quote, named_unquoted}

-- the group after a line is not taken, and that costs nothing
abbrev SkipsLine : Search → ℕ → State → LogicalLine → Type 0
SkipsLine search row s line = (h : Decides search row s line s.meter (Ok false)) × (count_decides h ≡ 0)

-- each line of these tokens skips its group, at no cost
abbrev Skips : Search → ℕ → State → Option Directive → List Token → Type 0
Skips search row s d tokens = (number : ℕ) → SkipsLine search row s (record { tokens = tokens; number = number; directive = d })

-- A line with this directive name and without unmatched quotes skips its group.
decided : (search : Search) (row : ℕ) (s : State) (profile : Profile) (h d : Token) (ts : List Token) (name : List ℕ) (is_called : Directive)
    → is_hash h.text ≡ true
    → named d name ≡ true
    → directive_named profile name ≡ is_called
    → is_quote name ≡ false
    → AreUnquoted ts
    → (unmatched_quote (h ∷ d ∷ ts) ≡ None → Skips search row s (Some is_called) (h ∷ d ∷ ts))
    → Skips search row s (directive_of profile (h ∷ d ∷ ts)) (h ∷ d ∷ ts)
decided search row s profile h d ts name is_called hash is called plain rest decides =
    let quotes : unmatched_quote (h ∷ d ∷ ts) ≡ None = no_quote (h ∷ d ∷ ts) (hash_unquoted h hash, (named_unquoted d name is plain, rest)) in
    let directive : directive_of profile (h ∷ d ∷ ts) ≡ Some is_called =
    ap (λ (b : Bool). if b then Some (directive_named profile d.text) else None) hash
    ∙ ap (λ (z : List ℕ). Some (directive_named profile z)) (named_is d name is) ∙ ap (λ (z : Directive). Some z) called in
    subst (λ (z : Option Directive). Skips search row s z (h ∷ d ∷ ts)) (sym directive) (decides quotes)

-- In each profile, `if` and `ifndef` are directive names.
if_called : (profile : Profile) → directive_named profile (codes "if") ≡ If
if_called C11 = refl
if_called Later = refl
if_called Gnu = refl

ifndef_called : (profile : Profile) → directive_named profile (codes "ifndef") ≡ Ifndef
ifndef_called C11 = refl
ifndef_called Later = refl
ifndef_called Gnu = refl

-- ---- the three forms of a guard

record IsGuard (b : Bool) (t : Token) (x : List ℕ) : Type 0 where
  form : b ≡ true
  kind : t.kind ≡ Ident
  name : t.text ≡ x

ident_if_is : (b : Bool) (t : Token) (x : List ℕ) → ident_if b t ≡ Some x → IsGuard b t x
ident_if_is b t x e = cases (b && is_identifier_kind t.kind) refl e
  where
    cases : (c : Bool) → (b && is_identifier_kind t.kind) ≡ c → (if c then Some t.text else None) ≡ Some x → IsGuard b t x
    cases true is f = let p = and_parts b (is_identifier_kind t.kind) is in let same : t.text ≡ x = cc in record { form = p.0; kind = is_ident_kind t.kind p.1; name = same }
    cases false is f = absurd (cc)

-- A token spelled as a macro name is in the table of macros.
known_name : (s : State) (x : List ℕ) (t : Token) → t.text ≡ x → is_macro_name s.macros x ≡ true → is_some (table.get s.macros t.text) ≡ true
known_name s x t e known = ap (λ (z : List ℕ). is_some (table.get s.macros z)) e ∙ known

punctuator_is : (t : Token) (text : List ℕ) → IsSpelled t → named t text ≡ true → Spells Punct text → begins opens_header text ≡ false → punctuator text t ≡ t
punctuator_is t text spelled is known apart =
    let e = named_is t text is in
    let k : Punct ≡ t.kind = sym (kind_is t text Punct apart known e spelled) in
    let f : text ≡ t.text = sym e in
    λ i. record t { kind = k i; text = f i }

defined_is : (t : Token) → IsSpelled t → named t (codes "defined") ≡ true → as_defined t ≡ t
defined_is t spelled is =
    let e = named_is t (codes "defined") is in
    let k : Ident ≡ t.kind = sym (kind_is t (codes "defined") Ident refl defined_spelled e spelled) in
    let f : codes "defined" ≡ t.text = sym e in
    λ i. record t { kind = k i; text = f i }

name_is : (t : Token) → t.kind ≡ Ident → as_name t ≡ t
name_is t e = let k : Ident ≡ t.kind = sym e in λ i. record t { kind = k i }

-- the condition is false with any meter, and spends nothing
abbrev IsFalseFreely : State → Place → List Token → Type 0
IsFalseFreely s at tokens = (meter : Meter) → IsCondition s.macros s.env at tokens meter (Ok false) meter

nothing_spent : (n count : ℕ) → Some n ≡ plus count (Some n) → count ≡ 0
nothing_spent n count e = let same : n ≡ count + n = cc in omega arith

-- The count of such a condition is 0.
costs_nothing : (s : State) (at : Place) (tokens : List Token) (condition : IsFalseFreely s at tokens) (meter : Meter) → count_condition (condition meter) ≡ 0
costs_nothing s at tokens condition meter = by_budget meter.remaining refl
  where
    k : ℕ
    k = count_condition (condition meter)

    by_budget : (budget : Option ℕ) → meter.remaining ≡ budget → count_condition (condition meter) ≡ 0
    by_budget (Some n) e = nothing_spent n k (sym e ∙ condition_spends (condition meter) ∙ ap (plus k) e)
    by_budget None e =
        let all : Meter = with_budget (Some k) meter in
        let none : Meter = with_budget (Some 0) meter in
        let sufficed : IsCondition s.macros s.env at tokens all (Ok false) none =
        condition_enough k (subst (λ (b : Option ℕ). Covers b k) (sym e) without) (condition meter) 0 (omega arith) in
        let meters : all ≡ none = (same_condition s.macros s.env at tokens all all none (Ok false) (Ok false) (condition all) sufficed).1 in
        let rests : Some k ≡ Some 0 = ap (λ (m : Meter). m.remaining) meters in
        let counts : k ≡ 0 = cc in
        counts

-- Operands in which no has-include operator applies are the tokens of the condition, and that costs nothing.
unprobed_by : (search : Search) (row : ℕ) (line : List Token) (s : State) (ts : List Token) (b : Bool)
    → NoneApplies ts
    → (p : ProbesBy b search row line s ts s.meter (Ok ts)) × (count_probes_by b search row line s ts s.meter (Ok ts) p ≡ 0)
unprobed_by search row line s ts true none = (unprobed search row line s ts none, unprobed_free search row line s ts none)
unprobed_by search row line s ts false none = ((refl, refl), refl)

no_sum : (a b : ℕ) → a ≡ 0 → b ≡ 0 → a + b ≡ 0
no_sum a b none no_more = omega arith

by_condition : (search : Search) (row : ℕ) (s : State) (h d : Token) (ts : List Token)
    → NoneApplies ts
    → IsFalseFreely s h.at ts
    → unmatched_quote (h ∷ d ∷ ts) ≡ None
    → Skips search row s (Some If) (h ∷ d ∷ ts)
by_condition search row s h d ts none condition quotes number =
    let p = unprobed_by search row (h ∷ d ∷ ts) s ts (is_gnu search.profile) none in (
      Decides.evaluates quotes refl (DecidesByValue.evaluated p.0 (condition s.meter)),
      no_sum _ _ p.1 (costs_nothing s h.at ts condition s.meter),
    )

by_ifndef : (search : Search) (row : ℕ) (s : State) (profile : Profile) (h d t : Token) (x : List ℕ)
    → is_hash h.text ≡ true
    → IsGuard (named d (codes "ifndef")) t x
    → is_macro_name s.macros x ≡ true
    → Skips search row s (directive_of profile (h ∷ d ∷ t ∷ [])) (h ∷ d ∷ t ∷ [])
by_ifndef search row s profile h d t x hash g known =
    let line = h ∷ d ∷ t ∷ [] in
    let defined : by_name false s.macros line (if is_identifier_kind t.kind then Some t.text else None) ≡ Ok false =
    ap (λ (k : Kind). by_name false s.macros line (if is_identifier_kind k then Some t.text else None)) g.kind
    ∙ ap (λ (b : Bool). Ok (same_bool false b)) (known_name s x t g.name known) in
    decided search row s profile h d (t ∷ []) (codes "ifndef") Ifndef hash g.form (ifndef_called profile) refl (ident_unquoted t g.kind, tt)
    (λ quotes number. (Decides.tests_name quotes refl (refl, sym defined), refl))

by_bare : (search : Search) (row : ℕ) (s : State) (profile : Profile) (h d n f t : Token) (x : List ℕ)
    → IsSpelled n
    → IsSpelled f
    → is_hash h.text ≡ true
    → IsGuard (is_not_defined d n f) t x
    → is_macro_name s.macros x ≡ true
    → Skips search row s (directive_of profile (h ∷ d ∷ n ∷ f ∷ t ∷ [])) (h ∷ d ∷ n ∷ f ∷ t ∷ [])
by_bare search row s profile h d n f t x sn sf hash g known =
    let p = and_parts (named d (codes "if")) (named n (codes "!") && named f (codes "defined")) g.form in
    let q = and_parts (named n (codes "!")) (named f (codes "defined")) p.1 in
    let bang = punctuator_is n (codes "!") sn q.0 refl refl in
    let asks = defined_is f sf q.1 in
    let name = name_is t g.kind in
    let same : (punctuator (codes "!") n ∷ as_defined f ∷ as_name t ∷ []) ≡ (n ∷ f ∷ t ∷ []) = λ i. bang i ∷ asks i ∷ name i ∷ [] in
    let none : NoneApplies (n ∷ f ∷ t ∷ []) = subst NoneApplies same (refl, (refl, (refl, tt))) in
    let condition : IsFalseFreely s h.at (n ∷ f ∷ t ∷ []) = subst (λ (z : List Token). IsFalseFreely s h.at z) same (λ meter. bare_false s.macros s.env h.at meter n f t (known_name s x t g.name known)) in
    decided search row s profile h d (n ∷ f ∷ t ∷ []) (codes "if") If hash p.0 (if_called profile) refl
    (named_unquoted n (codes "!") q.0 refl, (named_unquoted f (codes "defined") q.1 refl, (ident_unquoted t g.kind, tt)))
    (by_condition search row s h d (n ∷ f ∷ t ∷ []) none condition)

by_parenthesized : (search : Search) (row : ℕ) (s : State) (profile : Profile) (h d n f l t r : Token) (x : List ℕ)
    → IsSpelled n
    → IsSpelled f
    → IsSpelled l
    → IsSpelled r
    → is_hash h.text ≡ true
    → IsGuard (is_not_defined d n f && are_parentheses l r) t x
    → is_macro_name s.macros x ≡ true
    → Skips search row s (directive_of profile (h ∷ d ∷ n ∷ f ∷ l ∷ t ∷ r ∷ [])) (h ∷ d ∷ n ∷ f ∷ l ∷ t ∷ r ∷ [])
by_parenthesized search row s profile h d n f l t r x sn sf sl sr hash g known =
    let forms = and_parts (is_not_defined d n f) (are_parentheses l r) g.form in
    let p = and_parts (named d (codes "if")) (named n (codes "!") && named f (codes "defined")) forms.0 in
    let q = and_parts (named n (codes "!")) (named f (codes "defined")) p.1 in
    let context = and_parts (named l (codes "(")) (named r (codes ")")) forms.1 in
    let bang = punctuator_is n (codes "!") sn q.0 refl refl in
    let asks = defined_is f sf q.1 in
    let opens = punctuator_is l (codes "(") sl context.0 refl refl in
    let name = name_is t g.kind in
    let closes = punctuator_is r (codes ")") sr context.1 refl refl in
    let same : (punctuator (codes "!") n ∷ as_defined f ∷ punctuator (codes "(") l ∷ as_name t ∷ punctuator (codes ")") r ∷ []) ≡ (n ∷ f ∷ l ∷ t ∷ r ∷ []) =
    λ i. bang i ∷ asks i ∷ opens i ∷ name i ∷ closes i ∷ [] in
    let none : NoneApplies (n ∷ f ∷ l ∷ t ∷ r ∷ []) = subst NoneApplies same (refl, (refl, (refl, (refl, (refl, tt))))) in
    let condition : IsFalseFreely s h.at (n ∷ f ∷ l ∷ t ∷ r ∷ []) = subst (λ (z : List Token). IsFalseFreely s h.at z) same
    (λ meter. parenthesized_false s.macros s.env h.at meter n f l t r (known_name s x t g.name known)) in
    decided search row s profile h d (n ∷ f ∷ l ∷ t ∷ r ∷ []) (codes "if") If hash p.0 (if_called profile) refl (
      named_unquoted n (codes "!") q.0 refl,
      (
        named_unquoted f (codes "defined") q.1 refl,
        (named_unquoted l (codes "(") context.0 refl, (ident_unquoted t g.kind, (named_unquoted r (codes ")") context.1 refl, tt))),
      ),
    ) (by_condition search row s h d (n ∷ f ∷ l ∷ t ∷ r ∷ []) none condition)

guard_decides : (search : Search) (row : ℕ) (s : State) (profile : Profile) (tokens : List Token) (x : List ℕ)
    → AreSpelled tokens
    → role_by (directive_of profile tokens) ≡ role_of_directive If
    → guard_name tokens ≡ Some x
    → is_macro_name s.macros x ≡ true
    → Skips search row s (directive_of profile tokens) tokens
guard_decides search row s profile [] x all opens is known = absurd (cc)
guard_decides search row s profile (a ∷ []) x all opens is known = absurd (cc)
guard_decides search row s profile (a ∷ b ∷ []) x all opens is known = absurd (cc)
guard_decides search row s profile (h ∷ d ∷ t ∷ []) x all opens is known =
    by_ifndef search row s profile h d t x (opens_by (is_hash h.text) _ opens) (ident_if_is _ t x is) known
guard_decides search row s profile (a ∷ b ∷ c ∷ d ∷ []) x all opens is known = absurd (cc)
guard_decides search row s profile (h ∷ d ∷ n ∷ f ∷ t ∷ []) x all opens is known =
    by_bare search row s profile h d n f t x all.1.1.0 all.1.1.1.0 (opens_by (is_hash h.text) _ opens) (ident_if_is _ t x is) known
guard_decides search row s profile (a ∷ b ∷ c ∷ d ∷ e ∷ f ∷ []) x all opens is known = absurd (cc)
guard_decides search row s profile (h ∷ d ∷ n ∷ f ∷ l ∷ t ∷ r ∷ []) x all opens is known =
    by_parenthesized search row s profile h d n f l t r x all.1.1.0 all.1.1.1.0 all.1.1.1.1.0 all.1.1.1.1.1.1.0 (opens_by (is_hash h.text) _ opens)
    (ident_if_is _ t x is) known
guard_decides search row s profile (a ∷ b ∷ c ∷ d ∷ e ∷ f ∷ g ∷ h ∷ ts) x all opens is known = absurd (cc)

-- If the guard is defined, the opening line of the file skips its group, at no cost.
pub guard_line : (search : Search) (row : ℕ) (s : State) (profile : Profile) (r : LogicalLine) (x : List ℕ)
    → IsSpelledLine profile r
    → role r ≡ role_of_directive If
    → guard_name r.tokens ≡ Some x
    → is_macro_name s.macros x ≡ true
    → (h : Decides search row s r s.meter (Ok false)) × (count_decides h ≡ 0)
guard_line search row s profile r x (spelled, directed) opens is known =
    subst (λ (z : Option Directive). Skips search row s z r.tokens) (sym directed)
    (guard_decides search row s profile r.tokens x spelled (ap role_by (sym directed) ∙ opens) is known) r.number
