-- Lists that begin with an open invocation: the step of such a list, the search for its `)`, and what an expansion leaves open.
use Rattle.std.proofs.Common.{◌≡◌, ℕ, zero, suc, Bool, true, false, ◌&&◌, List, [], ◌∷◌, map, Option, Some, None, refl, sym, ap, ◌∙◌, subst, arith, true≢false, eqb-true, if◌then◌else◌}
use Rattle.std.specs.Prelude.{◌==◌}
use Rattle.std.specs.FinSet as set
use Rattle.std.specs.List.{list_all}
use Rattle.pptext.specs.declared.tokens.Token.{Token}
use Rattle.pptext.specs.declared.tokens.Fault.{Fault}
use Rattle.pptext.specs.Tokens.{fault}
use Rattle.ppmacro.specs.Names.{Name, Macros}
use Rattle.ppmacro.specs.Hiding.{Hiding}
use Rattle.ppmacro.specs.Chains.{is_function_like}
use Rattle.ppmacro.specs.Substitution.{unhidden}
use Rattle.ppmacro.specs.declared.macros.Variadic.{Variadic}
use Rattle.ppmacro.specs.declared.macros.MacroKind.{MacroKind}
use Rattle.ppmacro.specs.declared.macros.MacroKind.TheVariants.{Predefined, Counter, ObjectLike, FunctionLike}
use Rattle.ppmacro.specs.declared.macros.Macro.{Macro}
use Rattle.ppexpand.specs.declared.env.Env.{Env}
use Rattle.ppexpand.specs.declared.meter.Meter.{Meter}
use Rattle.ppexpand.specs.Arguments.{is_open, argument_role, ArgumentRole, Quote, Open, Close, Comma, Inner, Gathered, Closed, UnmatchedQuote, Unclosed, with_token, with_argument, separates, fewer, gather, separators}
use Rattle.ppexpand.specs.ExpansionStep.{Invocation, ExpansionStep, Done, TokenFault, Emits, ReplacementFault, Invoked, fault_at_expansion, function_step, macro_step, named_step, macro_of, invocation_step}
use Rattle.ppexpand.specs.Budget.{in_budget, is_exhausted}
use Rattle.ppexpand.specs.Expansion.{Outcome, step_in_budget, Expands, done, token_fault, emits, replacement_fault, replaced, argument_fault, invocation_fault, invocation_replaced, counts, IsExpansion, Expansion}
use Rattle.ppexpand.specs.OpenInvocations.{hides_nothing, is_unclosed, never_closes, stays_open, names_function_like, begins_open, open_tokens, still_open, stopped_at, open_expansion}
use Rattle.ppexpand.specs.code.OpenSearch.{depth_after, open_inside}
use Rattle.ppexpand.specs.Laws.{NeverClosed, LeavesOpen, nothing_open, invocation_open}
use Rattle.ppexpand.proofs.FailedSearches.{finds_no_end}
use Rattle.ppexpand.proofs.Invocations.{at_quote, at_inner, at_open, at_close, at_end, at_separator, at_comma}
use Rattle.ppexpand.proofs.LoneSteps.{named_unquoted}
use Rattle.ppexpand.proofs.StepLemmas.{expansion_step-hidden, expansion_step-named, emits-in_budget, free-in_budget, exhausted-in_budget}
use Rattle.ppexpand.proofs.OutcomeUniqueness.{same_outcome}
use Rattle.ppexpand.proofs.StoppedLists.{same_stop, ends_there}

-- ---- the parts of such a list

both_true : (a b : Bool) → (a && b) ≡ true → (a ≡ true) × (b ≡ true)
both_true true true h = (refl, refl)
both_true true false h = absurd (true≢false (sym h))
both_true false b h = absurd (true≢false (sym h))

-- a list's first token, the `(`, and the tokens after it, with the macro that the first token names
pub record IsOpenList (macros : Macros) (list : List Hiding) : Type 0 where
  pub name : Hiding
  pub paren : Hiding
  pub inside : List Hiding
  pub macro : Macro
  pub laid_out : list ≡ name ∷ paren ∷ inside
  pub named : macro_of macros name.token ≡ Some macro
  pub function_like : is_function_like macro.kind ≡ true
  pub opens : is_open paren.token ≡ true
  pub unclosed : gather 0 None inside ≡ Unclosed
  pub made_by_none : list_all hides_nothing (paren ∷ inside) ≡ true

function_named : (o : Option Macro) → names_function_like o ≡ true → (d : Macro) × (o ≡ Some d) × (is_function_like d.kind ≡ true)
function_named None h = absurd (true≢false (sym h))
function_named (Some d) h = (d, refl, h)

unclosed_is : (g : Gathered) → is_unclosed g ≡ true → g ≡ Unclosed
unclosed_is (Closed as' close following) h = absurd (true≢false (sym h))
unclosed_is (UnmatchedQuote q) h = absurd (true≢false (sym h))
unclosed_is Unclosed h = refl

pub open_list : (macros : Macros) (list : List Hiding) → begins_open macros list ≡ true → IsOpenList macros list
open_list macros [] h = absurd (true≢false (sym h))
open_list macros (t ∷ []) h = absurd (true≢false (sym (both_true (names_function_like (macro_of macros t.token)) false h).1))
open_list macros (t ∷ (p ∷ inside)) h =
    let outer = both_true (names_function_like (macro_of macros t.token)) (stays_open (p ∷ inside)) h in
    let found = function_named (macro_of macros t.token) outer.0 in
    let rest = both_true (is_open p.token) (never_closes inside && list_all hides_nothing (p ∷ inside)) outer.1 in
    let inner = both_true (never_closes inside) (list_all hides_nothing (p ∷ inside)) rest.1 in
    record {
      name = t;
      paren = p;
      inside = inside;
      macro = found.0;
      laid_out = refl;
      named = found.1;
      function_like = found.2;
      opens = rest.0;
      unclosed = unclosed_is (gather 0 None inside) inner.0;
      made_by_none = inner.1;
    }

-- A search without end has none however many commas separate arguments.
any_commas : (commas : Option ℕ) (inside : List Hiding) → gather 0 None inside ≡ Unclosed → gather 0 commas inside ≡ Unclosed
any_commas commas inside h = (finds_no_end commas inside).1 ((finds_no_end None inside).0 h)

-- ---- the step

-- the step of a name with an invocation that is never closed: it is emitted if its hide set has it, and otherwise 35 or 17
data OpenStep (meter : Meter) (t : Hiding) (rest : List Hiding) : ExpansionStep → Type 0 where
  emitted : OpenStep meter t rest (Emits t rest)
  over : is_exhausted meter ≡ true → OpenStep meter t rest (TokenFault (fault 35 t.token.used []))
  raised : is_exhausted meter ≡ false → OpenStep meter t rest (ReplacementFault (fault_at_expansion 17 t))

function_open : (t : Hiding) (d : Macro) (names : List Name) (variadic : Variadic) (p : Hiding) (inside : List Hiding)
    → is_open p.token ≡ true
    → gather 0 None inside ≡ Unclosed
    → function_step t d names variadic (p ∷ inside) ≡ ReplacementFault (fault_at_expansion 17 t)
function_open t d names variadic p inside opens unclosed =
    ap (λ b. if b then invocation_step t d names variadic (gather 0 (separators names variadic) inside) else Emits t (p ∷ inside)) opens
    ∙ ap (invocation_step t d names variadic) (any_commas (separators names variadic) inside unclosed)

pub macro_open : (env : Env) (t : Hiding) (d : Macro) (kind : MacroKind) (p : Hiding) (inside : List Hiding)
    → is_function_like kind ≡ true
    → is_open p.token ≡ true
    → gather 0 None inside ≡ Unclosed
    → macro_step env t (p ∷ inside) d kind ≡ ReplacementFault (fault_at_expansion 17 t)
macro_open env t d (Predefined b) p inside h opens unclosed = absurd (true≢false (sym h))
macro_open env t d Counter p inside h opens unclosed = absurd (true≢false (sym h))
macro_open env t d ObjectLike p inside h opens unclosed = absurd (true≢false (sym h))
macro_open env t d (FunctionLike names variadic) p inside h opens unclosed = function_open t d names variadic p inside opens unclosed

module _ (macros : Macros) (env : Env) where
  open_step : (meter : Meter) (t p : Hiding) (inside : List Hiding) (d : Macro)
      → macro_of macros t.token ≡ Some d
      → is_function_like d.kind ≡ true
      → is_open p.token ≡ true
      → gather 0 None inside ≡ Unclosed
      → OpenStep meter t (p ∷ inside) (step_in_budget macros env meter (t ∷ (p ∷ inside)))
  open_step meter t p inside d named function_like opens unclosed =
      let rest : List Hiding = p ∷ inside in
      let quote = named_unquoted macros t.token d named in
      elim (set.contains t.hide t.token.text) as (λ b. set.contains t.hide t.token.text ≡ b → OpenStep meter t rest (step_in_budget macros env meter (t ∷ rest))) [
        | true ↦ λ has. subst (OpenStep meter t rest) (sym (ap (in_budget meter (t ∷ rest)) (expansion_step-hidden macros env t rest quote has) ∙ emits-in_budget meter (t ∷ rest) t rest)) emitted
        | false ↦ λ free.
            (let step = expansion_step-named macros env t rest quote free ∙ ap (named_step env t rest) named ∙ macro_open env t d d.kind p inside function_like opens unclosed in
            elim (is_exhausted meter) as (λ b. is_exhausted meter ≡ b → OpenStep meter t rest (step_in_budget macros env meter (t ∷ rest))) [
              | true ↦ λ none. subst (OpenStep meter t rest) (sym (ap (in_budget meter (t ∷ rest)) step ∙ exhausted-in_budget meter (t ∷ rest) (ReplacementFault (fault_at_expansion 17 t)) none)) (over none)
              | false ↦ λ some. subst (OpenStep meter t rest) (sym (ap (in_budget meter (t ∷ rest)) step ∙ free-in_budget meter (t ∷ rest) (ReplacementFault (fault_at_expansion 17 t)) some)) (raised some)
            ] refl)
      ] refl

-- the fault that ends the expansion of such a list
data OpenFault (meter : Meter) (t : Hiding) (f : Fault) : Type 0 where
  over : is_exhausted meter ≡ true → f.number ≡ 35 → OpenFault meter t f
  raised : is_exhausted meter ≡ false → f ≡ fault_at_expansion 17 t → OpenFault meter t f

some-is : {A : Type 0} {a b : A} → ◌≡◌ {A = Option A} (Some a) (Some b) → a ≡ b
some-is e = cc e

of_token : {meter : Meter} {t : Hiding} {rest : List Hiding} (s : ExpansionStep) (f : Fault) → s ≡ TokenFault f → OpenStep meter t rest s → OpenFault meter t f
of_token s f e emitted = absurd (cc e)
of_token {t = t} s f e (over none) = let same : fault 35 t.token.used [] ≡ f = cc e in over none (sym (ap (λ g. g.number) same))
of_token s f e (raised some) = absurd (cc e)

of_replacement : {meter : Meter} {t : Hiding} {rest : List Hiding} (s : ExpansionStep) (f : Fault) → s ≡ ReplacementFault f → OpenStep meter t rest s → OpenFault meter t f
of_replacement s f e emitted = absurd (cc e)
of_replacement s f e (over none) = absurd (cc e)
of_replacement {t = t} s f e (raised some) = let same : fault_at_expansion 17 t ≡ f = cc e in raised some (sym same)

of_invocation : {meter : Meter} {t : Hiding} {rest : List Hiding} (s : ExpansionStep) (f : Fault) (c : Invocation) → s ≡ Invoked c → OpenStep meter t rest s → OpenFault meter t f
of_invocation s f c e emitted = absurd (cc e)
of_invocation s f c e (over none) = absurd (cc e)
of_invocation s f c e (raised some) = absurd (cc e)

of_done : {meter : Meter} {t : Hiding} {rest : List Hiding} (s : ExpansionStep) (f : Fault) → s ≡ Done → OpenStep meter t rest s → OpenFault meter t f
of_done s f e emitted = absurd (cc e)
of_done s f e (over none) = absurd (cc e)
of_done s f e (raised some) = absurd (cc e)

module _ (macros : Macros) (env : Env) where
  ends_open : {level n : ℕ} {meter : Meter} {list rest : List Hiding} {out : Outcome} (t : Hiding) (f : Fault)
      → Expands macros env level meter n list out
      → n ≡ 0
      → out.fault ≡ Some f
      → OpenStep meter t rest (step_in_budget macros env meter list)
      → OpenFault meter t f
  ends_open t f (done e) h is step = of_done _ f e step
  ends_open t f (token_fault {f = g} e) h is step = of_token _ f (e ∙ ap TokenFault (some-is is)) step
  ends_open t f (emits e more) h is step = absurd (omega (arith, h))
  ends_open t f (replacement_fault {f = g} e) h is step = of_replacement _ f (e ∙ ap ReplacementFault (some-is is)) step
  ends_open t f (replaced e more) h is step = absurd (omega (arith, h))
  ends_open t f (counts e more) h is step = absurd (omega (arith, h))
  ends_open t f (argument_fault e a) h is step = of_invocation _ f _ e step
  ends_open t f (invocation_fault e a g) h is step = of_invocation _ f _ e step
  ends_open t f (invocation_replaced e a g more) h is step = absurd (omega (arith, h))

  open_fault : {level : ℕ} {meter : Meter} {list : List Hiding} {out : Outcome} (o : IsOpenList macros list) (f : Fault)
      → Expands macros env level meter 0 list out
      → out.fault ≡ Some f
      → OpenFault meter o.name f
  open_fault {meter = meter} {list = list} o f d is =
      ends_open {rest = o.paren ∷ o.inside} o.name f d refl is
      (subst (λ l. OpenStep meter o.name (o.paren ∷ o.inside) (step_in_budget macros env meter l)) (sym o.laid_out)
      (open_step macros env meter o.name o.paren o.inside o.macro o.named o.function_like o.opens o.unclosed))

  -- What a fault of the list's own step leaves open.
  pub open_here : {level : ℕ} {meter : Meter} {list : List Hiding} {out : Outcome} (f : Fault)
      → Expands macros env level meter 0 list out
      → out.fault ≡ Some f
      → (if is_exhausted meter then [] else open_tokens macros list) ≡ still_open macros (Some f) list
  open_here {meter = meter} {list = list} f d is = elim (begins_open macros list) as (λ b. begins_open macros list ≡ b
      → (if is_exhausted meter then [] else (if b then map (λ t. t.token) list else [])) ≡ (if f.number == 17 then (if b then map (λ t. t.token) list else []) else [])) [
        | true ↦ λ h. of_fault (open_fault (open_list macros list h) f d is)
        | false ↦ λ h. none_left (is_exhausted meter) (f.number == 17)
      ] refl
    where
      none_left : (a b : Bool) → ◌≡◌ {A = List Token} (if a then [] else []) (if b then [] else [])
      none_left true true = refl
      none_left true false = refl
      none_left false true = refl
      none_left false false = refl

      of_fault : {t : Hiding} → OpenFault meter t f → (if is_exhausted meter then [] else map (λ t. t.token) list) ≡ (if f.number == 17 then map (λ t. t.token) list else [])
      of_fault (over none number) = (λ i. if none i then [] else map (λ t. t.token) list) ∙ (λ i. if (sym number i) == 17 then map (λ t. t.token) list else [])
      of_fault (raised some same) = (λ i. if some i then [] else map (λ t. t.token) list) ∙ (λ i. if (sym same i).number == 17 then map (λ t. t.token) list else [])

-- ---- what an expansion leaves open

nothing_hidden : (t : Hiding) → hides_nothing t ≡ true → t ≡ unhidden t.token
nothing_hidden t h = let none : set.len t.hide ≡ 0 = eqb-true (set.len t.hide) 0 h in λ i. record { token = t.token; hide = set.empty_of_len t.hide none i }

all_unhidden : (ts : List Hiding) → list_all hides_nothing ts ≡ true → ts ≡ map unhidden (map (λ t. t.token) ts)
all_unhidden [] h = refl
all_unhidden (t ∷ ts) h =
    let parts = both_true (hides_nothing t) (list_all hides_nothing ts) h in
    λ i. nothing_hidden t parts.0 i ∷ all_unhidden ts parts.1 i

module _ (macros : Macros) (env : Env) where
  open_left : {level : ℕ} {meter : Meter} {list : List Hiding} {out : Outcome} (f : Fault)
      → Expands macros env level meter 0 list out
      → out.fault ≡ Some f
      → (f.number == 17) ≡ true
      → IsOpenList macros list
      → LeavesOpen macros (Some f) (map (λ t. t.token) list)
  open_left {list = list} f d is number o = by_fault (open_fault macros env o f d is)
    where
      inside : NeverClosed (map unhidden (map (λ t. t.token) o.inside))
      inside = subst NeverClosed (all_unhidden o.inside (both_true (hides_nothing o.paren) (list_all hides_nothing o.inside) o.made_by_none).1) ((finds_no_end None o.inside).0 o.unclosed)

      by_fault : {meter : Meter} → OpenFault meter o.name f → LeavesOpen macros (Some f) (map (λ t. t.token) list)
      by_fault (over none is_over) = absurd (true≢false (sym number ∙ ap (λ n. n == 17) is_over))
      by_fault (raised some same) =
          subst (λ l. LeavesOpen macros (Some f) (map (λ t. t.token) l)) (sym o.laid_out)
          (subst (λ g. LeavesOpen macros (Some g) (o.name.token ∷ (o.paren.token ∷ map (λ t. t.token) o.inside))) (sym same)
          (invocation_open {d = o.macro} o.named o.function_like o.opens inside))

  left_by : {level : ℕ} {meter : Meter} {list : List Hiding} {out : Outcome} (f : Option Fault) → Expands macros env level meter 0 list out → out.fault ≡ f → LeavesOpen macros f (still_open macros f list)
  left_by None d is = nothing_open
  left_by {list = list} (Some f) d is = elim (f.number == 17) as (λ b. (f.number == 17) ≡ b → LeavesOpen macros (Some f) (if b then open_tokens macros list else [])) [
    | true ↦ λ number. elim (begins_open macros list) as (λ b. begins_open macros list ≡ b → LeavesOpen macros (Some f) (if b then map (λ t. t.token) list else [])) [
      | true ↦ λ h. open_left f d is number (open_list macros list h)
      | false ↦ λ h. nothing_open
    ] refl
    | false ↦ λ number. nothing_open
  ] refl

  pub leaves : (meter : Meter) (tokens : List Token) (e : Expansion) (x : IsExpansion macros env meter tokens e) → LeavesOpen macros e.fault (open_expansion x)
  leaves meter tokens e x =
      let there = ends_there macros env x.expands.1 in
      subst (λ f. LeavesOpen macros f (open_expansion x)) (sym x.fault_is) (left_by x.outcome.fault there.expands there.fault_is)

  pub leaves_same : (meter : Meter) (tokens : List Token) (e other : Expansion) (x : IsExpansion macros env meter tokens e) (y : IsExpansion macros env meter tokens other) → open_expansion x ≡ open_expansion y
  leaves_same meter tokens e other x y =
      let faults : x.outcome.fault ≡ y.outcome.fault = ap (λ o. o.fault) (same_outcome macros env x.expands.1 y.expands.0 y.outcome y.expands.1).1 in
      let stops = same_stop macros env x.expands.1 y.expands.1 in
      λ i. still_open macros (faults i) (stops i)

module _ {macros : Macros} {env : Env} {meter : Meter} {tokens : List Token} {e : Expansion} (x : IsExpansion macros env meter tokens e) where
  -- Without a fault nothing is open.
  pub open_without_fault : e.fault ≡ None → open_expansion x ≡ []
  open_without_fault h = ap (λ f. still_open macros f (stopped_at macros env x.expands.1)) (sym x.fault_is ∙ h)

  -- Nor is anything open at a fault other than 17.
  pub open_at_another_fault : (f : Fault) → e.fault ≡ Some f → (f.number == 17) ≡ false → open_expansion x ≡ []
  open_at_another_fault f h other =
      ap (λ g. still_open macros g (stopped_at macros env x.expands.1)) (sym x.fault_is ∙ h) ∙ ap (λ b. if b then open_tokens macros (stopped_at macros env x.expands.1) else []) other

-- ---- the search

swapped : (a h b : Bool) → (a && (h && b)) ≡ (h && (a && b))
swapped true h b = refl
swapped false true b = refl
swapped false false b = refl

never_both : (h : Bool) → false ≡ (h && false)
never_both true = refl
never_both false = refl

token_unclosed : (t : Hiding) (g : Gathered) → is_unclosed (with_token t g) ≡ is_unclosed g
token_unclosed t (Closed [] close following) = refl
token_unclosed t (Closed (a ∷ as') close following) = refl
token_unclosed t (UnmatchedQuote q) = refl
token_unclosed t Unclosed = refl

argument_unclosed : (g : Gathered) → is_unclosed (with_argument g) ≡ is_unclosed g
argument_unclosed (Closed as' close following) = refl
argument_unclosed (UnmatchedQuote q) = refl
argument_unclosed Unclosed = refl

module _ (t : Hiding) (ts : List Hiding) (ih : (d : ℕ) (c : Option ℕ) → (is_unclosed (gather d c ts) && list_all hides_nothing ts) ≡ open_inside d ts) where
  goes_on : (depth d : ℕ) (commas c : Option ℕ)
      → is_unclosed (gather depth commas (t ∷ ts)) ≡ is_unclosed (gather d c ts)
      → (is_unclosed (gather depth commas (t ∷ ts)) && (hides_nothing t && list_all hides_nothing ts)) ≡ (hides_nothing t && open_inside d ts)
  goes_on depth d commas c e =
      (λ i. e i && (hides_nothing t && list_all hides_nothing ts)) ∙ swapped (is_unclosed (gather d c ts)) (hides_nothing t) (list_all hides_nothing ts) ∙ ap (λ b. hides_nothing t && b) (ih d c)

  ends_at : (depth : ℕ) (commas : Option ℕ)
      → is_unclosed (gather depth commas (t ∷ ts)) ≡ false
      → (is_unclosed (gather depth commas (t ∷ ts)) && (hides_nothing t && list_all hides_nothing ts)) ≡ (hides_nothing t && false)
  ends_at depth commas e = (λ i. e i && (hides_nothing t && list_all hides_nothing ts)) ∙ never_both (hides_nothing t)

  by_role : (role : ArgumentRole) → argument_role t.token ≡ role → (depth : ℕ) (commas : Option ℕ)
      → (is_unclosed (gather depth commas (t ∷ ts)) && (hides_nothing t && list_all hides_nothing ts)) ≡ (hides_nothing t && elim (depth_after role depth) [ Some d ↦ open_inside d ts | None ↦ false ])
  by_role Quote e depth commas = ends_at depth commas (ap is_unclosed (at_quote depth commas t ts e))
  by_role Open e depth commas = goes_on depth (suc depth) commas commas (ap is_unclosed (at_open depth commas t ts e) ∙ token_unclosed t (gather (suc depth) commas ts))
  by_role Close e zero commas = ends_at zero commas (ap is_unclosed (at_end commas t ts e))
  by_role Close e (suc d) commas = goes_on (suc d) d commas commas (ap is_unclosed (at_close d commas t ts e) ∙ token_unclosed t (gather d commas ts))
  by_role Comma e depth commas = elim (separates depth commas) as (λ b. separates depth commas ≡ b
      → (is_unclosed (gather depth commas (t ∷ ts)) && (hides_nothing t && list_all hides_nothing ts)) ≡ (hides_nothing t && open_inside depth ts)) [
        | true ↦ λ cut. goes_on depth depth commas (fewer commas) (ap is_unclosed (at_separator depth commas t ts e cut) ∙ argument_unclosed (gather depth (fewer commas) ts))
        | false ↦ λ uncut. goes_on depth depth commas commas (ap is_unclosed (at_comma depth commas t ts e uncut) ∙ token_unclosed t (gather depth commas ts))
      ] refl
  by_role Inner e depth commas = goes_on depth depth commas commas (ap is_unclosed (at_inner depth commas t ts e) ∙ token_unclosed t (gather depth commas ts))

-- The code's search finds whether a list stays open.
search_is : (ts : List Hiding) (depth : ℕ) (commas : Option ℕ) → (is_unclosed (gather depth commas ts) && list_all hides_nothing ts) ≡ open_inside depth ts
search_is [] depth commas = refl
search_is (t ∷ ts) depth commas = by_role t ts (search_is ts) (argument_role t.token) refl depth commas

pub stays_open_is : (p : Hiding) (inside : List Hiding) → stays_open (p ∷ inside) ≡ (is_open p.token && (hides_nothing p && open_inside 0 inside))
stays_open_is p inside =
    ap (λ b. is_open p.token && b) (swapped (never_closes inside) (hides_nothing p) (list_all hides_nothing inside) ∙ ap (λ b. hides_nothing p && b) (search_is inside 0 None))
