-- An expansion step that emits or replaces a token is a step on the hide sets of the list.
use Rattle.std.proofs.Common.{◌≡◌, ℕ, zero, suc, Bool, true, false, ◌||◌, ◌&&◌, List, [], ◌∷◌, ◌++◌, map, Option, Some, None}
use Rattle.std.proofs.Common.{Result, Ok, Err, if◌then◌else◌, refl, sym, ap, ◌∙◌, subst, is_some}
use Rattle.std.specs.FinSet as set
use Rattle.std.specs.FinMap as table
use Rattle.std.specs.List.{AllByRecursion}
use Rattle.std.proofs.lemmas.Bool.{or_right}
use Rattle.std.proofs.lemmas.Cmp.{eq_by_cmp_equiv, nat_list_cmp_total}
use Rattle.pptext.specs.declared.tokens.Token.{Token}
use Rattle.pptext.specs.declared.tokens.Fault.{Fault}
use Rattle.pptext.specs.declared.tokens.Place.{Place}
use Rattle.pptext.specs.Tokens.{is_identifier, is_unmatched_quote}
use Rattle.ppmacro.specs.Names.{Name, HideSet, Macros}
use Rattle.ppmacro.specs.Hiding.{Hiding}
use Rattle.ppmacro.specs.code.Members.{same_name}
use Rattle.ppmacro.specs.declared.macros.Macro.{Macro}
use Rattle.ppmacro.specs.declared.macros.Chain.{Chain}
use Rattle.ppmacro.specs.declared.macros.Variadic.{Variadic}
use Rattle.ppmacro.specs.declared.macros.MacroKind.{MacroKind}
use Rattle.ppmacro.specs.declared.macros.MacroKind.TheVariants.{Predefined, ObjectLike, FunctionLike, Counter}
use Rattle.ppmacro.specs.VaOptChains.{ListChains, Ordinary, WithVaOpt, list_chains}
use Rattle.ppmacro.specs.Substitution.{Arguments, Replacement, macro_replacement, after_ok, chains_tokens, chains_replacement, contents_tokens, with_contents, is_filled, filled_replacement, replacement_by, hsadd}
use Rattle.ppexpand.specs.Arguments.{Gathered, Closed, UnmatchedQuote, Unclosed, argument_role, gather, separators, fit_arguments, separates, fewer, with_token, with_argument, is_open, Quote, Open, Close, Comma, Inner}
use Rattle.ppexpand.specs.declared.env.Env.{Env}
use Rattle.ppexpand.specs.declared.meter.Meter.{Meter}
use Rattle.ppexpand.specs.ExpansionStep.{Invocation, ExpansionStep, Done, TokenFault, Emits, ReplacementFault, Replaced, Invoked, expansion_step, finish_by_parameter, finish_invocation, space_next, followed_by, Counts}
use Rattle.ppexpand.specs.ExpansionStep.{replaced_by, names_to_hide_for, quote_fault, closed_invocation_step, invocation_step, function_step, macro_step, named_step}
use Rattle.ppexpand.specs.Budget.{is_exhausted, exhausted_step, refused, in_budget}
use Rattle.ppexpand.specs.ExpansionStep.{macro_of}
use Rattle.ppexpand.specs.Expansion.{step_in_budget}
use Rattle.ppexpand.specs.Termination.{hides, IsSubset, HidesNames, IsOutside, Step}
use Rattle.ppexpand.specs.Termination as ending

pub hides-append : (xs ys : List Hiding) → hides (xs ++ ys) ≡ hides xs ++ hides ys
hides-append [] ys = refl
hides-append (x ∷ xs) ys = ap (λ hs. x.hide ∷ hs) (hides-append xs ys)

pub hides-space_next : (b : Bool) (xs : List Hiding) → hides (space_next b xs) ≡ hides xs
hides-space_next true [] = refl
hides-space_next true (x ∷ xs) = refl
hides-space_next false xs = refl

-- a token whose hide set has the names to hide
abbrev pub HasNamesToHide : HideSet → Hiding → Type 0
HasNamesToHide names_to_hide t = IsSubset names_to_hide t.hide

all_have_names : (names_to_hide : HideSet) (used : Place) (ts : List Hiding) → AllByRecursion (HasNamesToHide names_to_hide) (map (hsadd names_to_hide used) ts)
all_have_names names_to_hide used [] = tt
all_have_names names_to_hide used (t ∷ ts) = ((λ q e. set.contains-union nat_list_cmp_total t.hide names_to_hide q ∙ ap (λ b. set.contains t.hide q || b) e ∙ or_right _ true refl), all_have_names names_to_hide used ts)

names_after : (r : Result Replacement Fault) (names_to_hide : HideSet) (used : Place) (m : Replacement)
    → after_ok r (λ m. Ok (record m { tokens = map (hsadd names_to_hide used) m.tokens })) ≡ Ok m
    → AllByRecursion (HasNamesToHide names_to_hide) m.tokens
names_after (Ok n) names_to_hide used m e =
    let tokens : map (hsadd names_to_hide used) n.tokens ≡ m.tokens = ap (λ m. m.tokens) (let inner : record n { tokens = map (hsadd names_to_hide used) n.tokens } ≡ m = cc in inner) in
    subst (AllByRecursion (HasNamesToHide names_to_hide)) tokens (all_have_names names_to_hide used n.tokens)
names_after (Err f) names_to_hide used m e = absurd (cc)

contents_names : (r : Result (List (List Hiding)) Fault) (cs : List Chain) (args : Arguments) (names_to_hide : HideSet) (used : Place) (space : Bool) (m : Replacement)
    → after_ok r (λ lists. chains_replacement cs (with_contents args lists) names_to_hide used space) ≡ Ok m
    → AllByRecursion (HasNamesToHide names_to_hide) m.tokens
contents_names (Ok lists) cs args names_to_hide used space m e = names_after (chains_tokens (with_contents args lists) used space true cs) names_to_hide used m e
contents_names (Err f) cs args names_to_hide used space m e = absurd (cc)

list_names : (c : ListChains) (args : Arguments) (names_to_hide : HideSet) (used : Place) (space : Bool) (m : Replacement)
    → replacement_by c args names_to_hide used space ≡ Ok m
    → AllByRecursion (HasNamesToHide names_to_hide) m.tokens
list_names (Ordinary cs) args names_to_hide used space m e = names_after (chains_tokens args used space true cs) names_to_hide used m e
list_names (WithVaOpt c) args names_to_hide used space m e =
    elim (is_filled c args) as (λ b. (if b then filled_replacement c args names_to_hide used space else chains_replacement c.if_empty args names_to_hide used space) ≡ Ok m
    → AllByRecursion (HasNamesToHide names_to_hide) m.tokens) [
      | true ↦ λ h. contents_names (contents_tokens args used c.contents) c.if_filled args names_to_hide used space m h
      | false ↦ λ h. names_after (chains_tokens args used space true c.if_empty) names_to_hide used m h
    ] e

pub substituted_names : (d : Macro) (args : Arguments) (names_to_hide : HideSet) (used : Place) (space : Bool) (m : Replacement)
    → macro_replacement d args names_to_hide used space ≡ Ok m
    → AllByRecursion (HasNamesToHide names_to_hide) m.tokens
substituted_names d args names_to_hide used space m e = list_names (list_chains d) args names_to_hide used space m e

-- a name with a macro is a key of the table
pub among_names : (macros : Macros) (k : Name) (d : Macro) → table.get macros k ≡ Some d → table.contains_key macros k ≡ true
among_names macros k d e = ap is_some e

-- If a token names a macro, its spelling is a key of the macro table.
pub among_meaning : (macros : Macros) (t : Token) (d : Macro) → macro_of macros t ≡ Some d → table.contains_key macros t.text ≡ true
among_meaning macros t d = elim (is_identifier t) as (λ b. (if b then table.get macros t.text else None) ≡ Some d → table.contains_key macros t.text ≡ true) [
  | true ↦ λ e. among_names macros t.text d e
  | false ↦ λ e. absurd (cc)
]

-- if a matching `)` was found, the list is some tokens, this `)` and the tokens after it
abbrev pub Stands : List Hiding → Gathered → Type 0
Stands list (Closed as' close following) = (inside : List Hiding) × (list ≡ inside ++ close ∷ following)
Stands list (UnmatchedQuote q) = Unit {0}
Stands list Unclosed = Unit {0}

stands_token : (t : Hiding) (list : List Hiding) (g : Gathered) → Stands list g → Stands (t ∷ list) (with_token t g)
stands_token t list (Closed [] close following) h = (t ∷ h.0, ap (λ xs. t ∷ xs) h.1)
stands_token t list (Closed (a ∷ as') close following) h = (t ∷ h.0, ap (λ xs. t ∷ xs) h.1)
stands_token t list (UnmatchedQuote q) h = tt
stands_token t list Unclosed h = tt

stands_argument : (t : Hiding) (list : List Hiding) (g : Gathered) → Stands list g → Stands (t ∷ list) (with_argument g)
stands_argument t list (Closed as' close following) h = (t ∷ h.0, ap (λ xs. t ∷ xs) h.1)
stands_argument t list (UnmatchedQuote q) h = tt
stands_argument t list Unclosed h = tt

pub gathered_stands : (list : List Hiding) (depth : ℕ) (commas : Option ℕ) → Stands list (gather depth commas list)
gathered_stands [] depth commas = tt
gathered_stands (t ∷ ts) depth commas =
    elim (argument_role t.token) as (λ m. Stands (t ∷ ts) (elim m as (λ _. Gathered) [
      | Quote ↦ UnmatchedQuote t
      | Open ↦ with_token t (gather (suc depth) commas ts)
      | Close ↦ elim depth as (λ _. Gathered) [ zero ↦ Closed ([] ∷ []) t ts | suc d ↦ with_token t (gather d commas ts) ]
      | Comma ↦ elim (separates depth commas) as (λ _. Gathered) [ true ↦ with_argument (gather depth (fewer commas) ts) | false ↦ with_token t (gather depth commas ts) ]
      | Inner ↦ with_token t (gather depth commas ts)
    ])) [
      | Quote ↦ tt
      | Open ↦ stands_token t ts _ (gathered_stands ts (suc depth) commas)
      | Close ↦ elim depth as (λ n. Stands (t ∷ ts) (elim n as (λ _. Gathered) [ zero ↦ Closed ([] ∷ []) t ts | suc d ↦ with_token t (gather d commas ts) ])) [
        | zero ↦ ([], refl)
        | suc d ↦ stands_token t ts _ (gathered_stands ts d commas)
      ]
      | Comma ↦ elim (separates depth commas) as (λ b. Stands (t ∷ ts) (elim b as (λ _. Gathered) [ true ↦ with_argument (gather depth (fewer commas) ts) | false ↦ with_token t (gather depth commas ts) ])) [
        | true ↦ stands_argument t ts _ (gathered_stands ts depth (fewer commas))
        | false ↦ stands_token t ts _ (gathered_stands ts depth commas)
      ]
      | Inner ↦ stands_token t ts _ (gathered_stands ts depth commas)
    ]

module _ (macros : Macros) (env : Env) where
  abbrev pub HideStep : List HideSet → List HideSet → Type 0
  HideStep = Step macros

  -- the list begins with this invocation, whose macro name token does not have its own name in its hide set
  pub record Found (list : List Hiding) (invocation : Invocation) : Type 0 where
    pub inside : List Hiding
    pub close : Hiding
    pub is : list ≡ invocation.name_token ∷ (inside ++ close ∷ invocation.following)
    pub outside : IsOutside macros invocation.name_token.token.text invocation.name_token.hide
    pub to_hide : invocation.names_to_hide ≡ names_to_hide_for invocation.name_token.hide close.hide invocation.name_token.token.text

  -- the relation between a list and its expansion step
  abbrev pub StepsTo : List Hiding → ExpansionStep → Type 0
  StepsTo list Done = Unit {0}
  StepsTo list (TokenFault fault) = Unit {0}
  StepsTo list (Emits t rest) = list ≡ t ∷ rest
  StepsTo list (ReplacementFault fault) = Unit {0}
  StepsTo list (Replaced next) = HideStep (hides list) (hides next)
  StepsTo list (Counts t rest) = HideStep (hides list) (set.insert t.hide t.token.text ∷ hides rest)
  StepsTo list (Invoked invocation) = Found list invocation

  -- Sets with all names to hide have the names that h and h' have in common, and k.
  sets_hide_names : (h h' : HideSet) (k : Name) (names_to_hide : HideSet)
      → names_to_hide ≡ names_to_hide_for h h' k
      → (ts : List Hiding)
      → AllByRecursion (HasNamesToHide names_to_hide) ts
      → AllByRecursion (HidesNames h h' k) (hides ts)
  sets_hide_names h h' k names_to_hide is [] all = tt
  sets_hide_names h h' k names_to_hide is (t ∷ ts) all =
      let both = set.intersection h h' in
      let in_both : (q : Name) → set.contains h q ≡ true → set.contains h' q ≡ true → set.contains both q ≡ true =
      λ q in_h in_h'. set.contains-intersection nat_list_cmp_total h h' q ∙ (λ i. in_h i && in_h' i) in (
        record {
          common = λ q in_h in_h'. all.0 q (rw is (set.contains-insert nat_list_cmp_total both k q ∙ ap (λ b. same_name q k || b) (in_both q in_h in_h') ∙ or_right _ true refl));
          own = all.0 k (rw is (set.contains-insert nat_list_cmp_total both k k ∙ ap (λ b. b || set.contains both k) ((eq_by_cmp_equiv nat_list_cmp_total).refl k)));
        },
        sets_hide_names h h' k names_to_hide is ts all.1,
      )

  object_hides_names : (h : HideSet) (k : Name) (ts : List Hiding)
      → AllByRecursion (HasNamesToHide (set.insert h k)) ts
      → AllByRecursion (HidesNames h h k) (hides ts)
  object_hides_names h k [] all = tt
  object_hides_names h k (t ∷ ts) all = (
    record {
      common = λ q in_h _. all.0 q (set.contains-insert nat_list_cmp_total h k q ∙ ap (λ b. same_name q k || b) in_h ∙ or_right _ true refl);
      own = all.0 k (set.contains-insert nat_list_cmp_total h k k ∙ ap (λ b. b || set.contains h k) ((eq_by_cmp_equiv nat_list_cmp_total).refl k));
    },
    object_hides_names h k ts all.1,
  )

  hides-followed_by : (m : Replacement) (following : List Hiding) → hides (followed_by m following) ≡ hides m.tokens ++ hides following
  hides-followed_by m following = hides-append m.tokens (space_next m.pending following) ∙ ap (λ hs. hides m.tokens ++ hs) (hides-space_next m.pending following)

  object_steps : (t : Hiding) (rest : List Hiding)
      → IsOutside macros t.token.text t.hide
      → (r : Result Replacement Fault)
      → ((m : Replacement) → r ≡ Ok m → AllByRecursion (HasNamesToHide (set.insert t.hide t.token.text)) m.tokens)
      → StepsTo (t ∷ rest) (replaced_by r rest)
  object_steps t rest out (Ok m) names_to_hide = ending.replaced t.token.text out (hides m.tokens) (object_hides_names t.hide t.token.text m.tokens (names_to_hide m refl)) (hides-followed_by m rest)
  object_steps t rest out (Err f) names_to_hide = tt

  closed_invocation_steps : (t p : Hiding) (rest : List Hiding)
      → IsOutside macros t.token.text t.hide
      → (d : Macro) (names : List Name) (variadic : Variadic) (g : Gathered)
      → Stands rest g
      → StepsTo (t ∷ (p ∷ rest)) (invocation_step t d names variadic g)
  closed_invocation_steps t p rest out d names variadic (Closed as' close following) stands = by_count (fit_arguments names variadic as')
    where
      by_count : (o : Option (List (List Hiding))) → StepsTo (t ∷ (p ∷ rest)) (closed_invocation_step t d o close following)
      by_count (Some bs) = record { inside = p ∷ stands.0; close = close; is = ap (λ xs. t ∷ (p ∷ xs)) stands.1; outside = out; to_hide = refl }
      by_count None = tt
  closed_invocation_steps t p rest out d names variadic (UnmatchedQuote q) stands = tt
  closed_invocation_steps t p rest out d names variadic Unclosed stands = tt

  function_steps : (t : Hiding) (rest : List Hiding)
      → IsOutside macros t.token.text t.hide
      → (d : Macro) (names : List Name) (variadic : Variadic)
      → StepsTo (t ∷ rest) (function_step t d names variadic rest)
  function_steps t [] out d names variadic = refl
  function_steps t (p ∷ rest) out d names variadic =
      elim (is_open p.token) as (λ b. StepsTo (t ∷ (p ∷ rest)) (if b then invocation_step t d names variadic (gather 0 (separators names variadic) rest) else Emits t (p ∷ rest))) [
        | true ↦ closed_invocation_steps t p rest out d names variadic _ (gathered_stands rest 0 (separators names variadic))
        | false ↦ refl
      ]

  -- The replacement of a predefined name is one token, with this name in its hide set.
  own_name_steps : (t : Hiding) (rest : List Hiding) → IsOutside macros t.token.text t.hide → HideStep (hides (t ∷ rest)) (set.insert t.hide t.token.text ∷ hides rest)
  own_name_steps t rest out = ending.replaced t.token.text out (set.insert t.hide t.token.text ∷ []) (
    record {
      common = λ q in_h _. set.contains-insert nat_list_cmp_total t.hide t.token.text q ∙ ap (λ b. same_name q t.token.text || b) in_h ∙ or_right _ true refl;
      own = set.contains-insert nat_list_cmp_total t.hide t.token.text t.token.text ∙ ap (λ b. b || set.contains t.hide t.token.text) ((eq_by_cmp_equiv nat_list_cmp_total).refl t.token.text);
    },
    tt,
  ) refl

  macro_steps : (t : Hiding) (rest : List Hiding) → IsOutside macros t.token.text t.hide → (d : Macro) (kind : MacroKind) → StepsTo (t ∷ rest) (macro_step env t rest d kind)
  macro_steps t rest out d (Predefined b) = own_name_steps t rest out
  macro_steps t rest out d Counter = own_name_steps t rest out
  macro_steps t rest out d ObjectLike = object_steps t rest out _ (λ m e. substituted_names d _ _ _ _ m e)
  macro_steps t rest out d (FunctionLike names variadic) = function_steps t rest out d names variadic

  named_steps : (t : Hiding) (rest : List Hiding) → set.contains t.hide t.token.text ≡ false → (o : Option Macro) → macro_of macros t.token ≡ o → StepsTo (t ∷ rest) (named_step env t rest o)
  named_steps t rest free None e = refl
  named_steps t rest free (Some d) e = macro_steps t rest (record { macro = among_meaning macros t.token d e; outside = free }) d d.kind

  pub turn_steps : (list : List Hiding) → StepsTo list (expansion_step macros env list)
  unfolding expansion_step
  turn_steps [] = tt
  turn_steps (t ∷ rest) =
      elim (is_unmatched_quote t.token) as (λ b. StepsTo (t ∷ rest) (if b then TokenFault (quote_fault t.token) else (if set.contains t.hide t.token.text then Emits t rest else named_step env t rest (macro_of macros t.token)))) [
        | true ↦ tt
        | false ↦ elim (set.contains t.hide t.token.text) as (λ b. set.contains t.hide t.token.text ≡ b → StepsTo (t ∷ rest) (if b then Emits t rest else named_step env t rest (macro_of macros t.token))) [
          | true ↦ λ _. refl
          | false ↦ λ free. named_steps t rest free _ refl
        ] refl
      ]

  over_steps : (list : List Hiding) → StepsTo list (exhausted_step list)
  over_steps [] = tt
  over_steps (t ∷ rest) = tt

  refused_steps : (list : List Hiding) (t : ExpansionStep) → StepsTo list t → StepsTo list (refused list t)
  refused_steps list Done h = h
  refused_steps list (TokenFault f) h = h
  refused_steps list (Emits t rest) h = h
  refused_steps list (ReplacementFault f) h = over_steps list
  refused_steps list (Replaced next) h = over_steps list
  refused_steps list (Counts t rest) h = over_steps list
  refused_steps list (Invoked invocation) h = over_steps list

  within_steps : (meter : Meter) (list : List Hiding) (t : ExpansionStep) → StepsTo list t → StepsTo list (in_budget meter list t)
  within_steps meter list t h = elim (is_exhausted meter) as (λ b. StepsTo list (if b then refused list t else t)) [ true ↦ refused_steps list t h | false ↦ h ]

  pub turn_within_steps : (meter : Meter) (list : List Hiding) → StepsTo list (step_in_budget macros env meter list)
  turn_within_steps meter list = within_steps meter list (expansion_step macros env list) (turn_steps list)

  -- the relation between a list and the step that finishes its invocation
  abbrev pub FinishesTo : List Hiding → ExpansionStep → Type 0
  FinishesTo list (Replaced next) = HideStep (hides list) (hides next)
  FinishesTo list (ReplacementFault fault) = Unit {0}
  FinishesTo list _ = ⊥

  finishes : (list : List Hiding) (invocation : Invocation)
      → Found list invocation
      → (r : Result Replacement Fault)
      → ((m : Replacement) → r ≡ Ok m → AllByRecursion (HasNamesToHide invocation.names_to_hide) m.tokens)
      → FinishesTo list (replaced_by r invocation.following)
  finishes list invocation found (Ok m) names_to_hide =
      let lists : hides list ≡ invocation.name_token.hide ∷ (hides found.inside ++ found.close.hide ∷ hides invocation.following) = ap hides found.is ∙ ap (λ hs. invocation.name_token.hide ∷ hs) (hides-append found.inside (found.close ∷ invocation.following)) in
      subst (λ hs. HideStep hs (hides (followed_by m invocation.following))) (sym lists)
      (ending.invoked invocation.name_token.token.text found.outside (hides found.inside) found.close.hide (hides invocation.following) refl (hides m.tokens)
      (sets_hide_names invocation.name_token.hide found.close.hide invocation.name_token.token.text invocation.names_to_hide found.to_hide m.tokens (names_to_hide m refl)) (hides-followed_by m invocation.following))
  finishes list invocation found (Err f) names_to_hide = tt

  pub finished_steps : (list : List Hiding) (invocation : Invocation) (as' : List (List Hiding)) → Found list invocation → FinishesTo list (finish_invocation env invocation as')
  unfolding finish_by_parameter
  finished_steps list invocation as' found = finishes list invocation found _ (λ m e. substituted_names invocation.macro _ invocation.names_to_hide _ _ m e)
