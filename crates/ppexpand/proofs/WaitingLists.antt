-- Lists of tokens that begin with an open invocation: how deep in parentheses they end, and their expansion.
use Rattle.std.proofs.Common.{◌≡◌, ℕ, zero, suc, ◌+◌, ◌≤◌, Bool, true, false, ◌&&◌, List, [], ◌∷◌, ◌++◌, length, map, Option, Some, None, is_some, refl, ap, ◌∙◌, arith, if◌then◌else◌}
use Rattle.std.specs.Prelude.{◌==◌}
use Rattle.std.specs.FinSet as set
use Rattle.std.specs.Ordering.{nat_cmp}
use Rattle.std.specs.Cmp.Lexicographic.{slice_cmp}
use Rattle.pptext.specs.declared.tokens.Token.{Token}
use Rattle.pptext.specs.declared.tokens.Fault.{Fault}
use Rattle.pptext.specs.Tokens.{fault}
use Rattle.ppmacro.specs.Names.{Macros}
use Rattle.ppmacro.specs.Hiding.{Hiding}
use Rattle.ppmacro.specs.Chains.{is_function_like}
use Rattle.ppmacro.specs.Substitution.{unhidden}
use Rattle.ppmacro.specs.declared.macros.Macro.{Macro}
use Rattle.ppexpand.specs.declared.env.Env.{Env}
use Rattle.ppexpand.specs.declared.meter.Meter.{Meter}
use Rattle.ppexpand.specs.Arguments.{is_open, argument_role, ArgumentRole, Quote, Open, Close, Comma, Inner, Unclosed, gather}
use Rattle.ppexpand.specs.ExpansionStep.{ReplacementFault, fault_at_expansion, named_step, macro_of}
use Rattle.ppexpand.specs.Budget.{in_budget, is_exhausted, is_used_up, one_less, one_more, spend_one, give_back_one}
use Rattle.ppexpand.specs.Expansion.{step_in_budget, stops_with, replacement_fault, IsExpansion}
use Rattle.ppexpand.specs.OpenInvocations.{hides_nothing, stays_open, names_function_like, begins_open, open_expansion}
use Rattle.ppexpand.specs.code.Lists.{next_macro}
use Rattle.ppexpand.specs.code.OpenSearch.{depth_after, depth_after_all, open_depth, open_inside}
use Rattle.ppexpand.proofs.LoneSteps.{named_unquoted}
use Rattle.ppexpand.proofs.StepLemmas.{expansion_step-named, free-in_budget}
use Rattle.ppexpand.proofs.OpenLists.{open_list, macro_open, stays_open_is}

-- ---- the number of parentheses after some tokens

none_some : {A : Type 0} {a : A} → None ≡ Some a → ⊥
none_some e = absurd (cc e)

-- it doesn't exceed the number of tokens
role_bound : (role : ArgumentRole) (depth e : ℕ) → depth_after role depth ≡ Some e → e ≤ suc depth
role_bound Quote depth e h = absurd (none_some h)
role_bound Open depth e h = let same : suc depth ≡ e = cc in omega (arith, same)
role_bound Close zero e h = absurd (none_some h)
role_bound Close (suc d) e h = let same : d ≡ e = cc in omega (arith, same)
role_bound Comma depth e h = let same : depth ≡ e = cc in omega (arith, same)
role_bound Inner depth e h = let same : depth ≡ e = cc in omega (arith, same)

module _ (ts : List Token) (ih : (d e : ℕ) → depth_after_all d ts ≡ Some e → e ≤ d + length ts) where
  bound_after : (depth e : ℕ) (o : Option ℕ) → ((d : ℕ) → o ≡ Some d → d ≤ suc depth) → elim o [ Some d ↦ depth_after_all d ts | None ↦ None ] ≡ Some e → e ≤ depth + suc (length ts)
  bound_after depth e None within h = absurd (none_some h)
  bound_after depth e (Some d) within h = omega (arith, within d refl, ih d e h)

bound_all : (ts : List Token) (depth e : ℕ) → depth_after_all depth ts ≡ Some e → e ≤ depth + length ts
bound_all [] depth e h = let same : depth ≡ e = cc in omega (arith, same)
bound_all (t ∷ ts) depth e h = bound_after ts (bound_all ts) depth e (depth_after (argument_role t) depth) (role_bound (argument_role t) depth) h

pub open_bound : (ts : List Token) (d : ℕ) → open_depth ts ≡ Some d → d ≤ length ts
open_bound [] d h = absurd (none_some h)
open_bound (t ∷ []) d h = absurd (none_some h)
open_bound (t ∷ (p ∷ inside)) d h = by_paren (is_open p) h
  where
    by_paren : (b : Bool) → (if b then depth_after_all 0 inside else None) ≡ Some d → d ≤ suc (suc (length inside))
    by_paren true e = omega (arith, bound_all inside 0 d e)
    by_paren false e = absurd (none_some e)

-- more tokens go on from there
abbrev go_on : Option ℕ → List Token → Option ℕ
go_on (Some d) more = depth_after_all d more
go_on None more = None

module _ (ts more : List Token) (ih : (d : ℕ) → depth_after_all d (ts ++ more) ≡ go_on (depth_after_all d ts) more) where
  append_after : (o : Option ℕ) → elim o [ Some d ↦ depth_after_all d (ts ++ more) | None ↦ None ] ≡ go_on (elim o [ Some d ↦ depth_after_all d ts | None ↦ None ]) more
  append_after (Some d) = ih d
  append_after None = refl

append_all : (ts more : List Token) (depth : ℕ) → depth_after_all depth (ts ++ more) ≡ go_on (depth_after_all depth ts) more
append_all [] more depth = refl
append_all (t ∷ ts) more depth = append_after ts more (append_all ts more) (depth_after (argument_role t) depth)

pub open_append : (ts more : List Token) (d : ℕ) → open_depth ts ≡ Some d → open_depth (ts ++ more) ≡ depth_after_all d more
open_append [] more d h = absurd (none_some h)
open_append (t ∷ []) more d h = absurd (none_some h)
open_append (t ∷ (p ∷ inside)) more d h = by_paren (is_open p) h
  where
    by_paren : (b : Bool) → (if b then depth_after_all 0 inside else None) ≡ Some d → (if b then depth_after_all 0 (inside ++ more) else None) ≡ depth_after_all d more
    by_paren true e = append_all inside more 0 ∙ ap (λ o. go_on o more) e
    by_paren false e = absurd (none_some e)

-- ---- whether a list begins with an open invocation

none_hidden : (t : Token) → hides_nothing (unhidden t) ≡ true
none_hidden t = ap (λ n. n == 0) (set.len-empty (slice_cmp nat_cmp))

module _ (ts : List Token) (ih : (d : ℕ) → open_inside d (map unhidden ts) ≡ is_some (depth_after_all d ts)) where
  inside_after : (o : Option ℕ) → elim o [ Some d ↦ open_inside d (map unhidden ts) | None ↦ false ] ≡ is_some (elim o [ Some d ↦ depth_after_all d ts | None ↦ None ])
  inside_after (Some d) = ih d
  inside_after None = refl

inside_is : (ts : List Token) (depth : ℕ) → open_inside depth (map unhidden ts) ≡ is_some (depth_after_all depth ts)
inside_is [] depth = refl
inside_is (t ∷ ts) depth =
    ap (λ b. b && elim (depth_after (argument_role t) depth) [ Some d ↦ open_inside d (map unhidden ts) | None ↦ false ]) (none_hidden t)
    ∙ inside_after ts (inside_is ts) (depth_after (argument_role t) depth)

opens_is : (p : Token) (inside : List Token) → stays_open (map unhidden (p ∷ inside)) ≡ is_some (if is_open p then depth_after_all 0 inside else None)
opens_is p inside = stays_open_is (unhidden p) (map unhidden inside) ∙ ap (λ b. is_open p && (b && open_inside 0 (map unhidden inside))) (none_hidden p) ∙ by_paren (is_open p)
  where
    by_paren : (b : Bool) → (b && open_inside 0 (map unhidden inside)) ≡ is_some (if b then depth_after_all 0 inside else None)
    by_paren true = inside_is inside 0
    by_paren false = refl

pub begins_open_is : (macros : Macros) (ts : List Token) → begins_open macros (map unhidden ts) ≡ (names_function_like (next_macro macros ts) && is_some (open_depth ts))
begins_open_is macros [] = refl
begins_open_is macros (t ∷ []) = refl
begins_open_is macros (t ∷ (p ∷ inside)) = ap (λ b. names_function_like (macro_of macros t) && b) (opens_is p inside)

-- A list that begins with a name begins with it if more tokens come after it.
pub same_name : (macros : Macros) (ts more : List Token) (d : ℕ) → open_depth ts ≡ Some d → next_macro macros (ts ++ more) ≡ next_macro macros ts
same_name macros [] more d h = absurd (none_some h)
same_name macros (t ∷ ts) more d h = refl

-- ---- the expansion of such a list

tokens_unhidden : (ts : List Token) → map (λ h. h.token) (map unhidden ts) ≡ ts
tokens_unhidden [] = refl
tokens_unhidden (t ∷ ts) = ap (λ rest. t ∷ rest) (tokens_unhidden ts)

-- it makes no tokens, spends one of the budget, and stops with this fault, which leaves all tokens open
pub record StaysOpen (macros : Macros) (env : Env) (meter : Meter) (tokens : List Token) (f : Fault) : Type 0 where
  pub expands : IsExpansion macros env meter tokens (record { tokens = []; fault = Some f; meter = spend_one meter })
  pub open_is : open_expansion expands ≡ tokens

module _ (macros : Macros) (env : Env) (meter : Meter) where
  raises : (t p : Hiding) (inside : List Hiding) (d : Macro)
      → macro_of macros t.token ≡ Some d
      → is_function_like d.kind ≡ true
      → is_open p.token ≡ true
      → gather 0 None inside ≡ Unclosed
      → set.contains t.hide t.token.text ≡ false
      → is_exhausted meter ≡ false
      → step_in_budget macros env meter (t ∷ (p ∷ inside)) ≡ ReplacementFault (fault_at_expansion 17 t)
  raises t p inside d named function_like opens unclosed free remains =
      let rest : List Hiding = p ∷ inside in
      ap (in_budget meter (t ∷ rest)) (expansion_step-named macros env t rest (named_unquoted macros t.token d named) free ∙ ap (named_step env t rest) named ∙ macro_open env t d d.kind p inside function_like opens unclosed)
      ∙ free-in_budget meter (t ∷ rest) (ReplacementFault (fault_at_expansion 17 t)) remains

  pub expands_open : (t : Token) (rest : List Token)
      → begins_open macros (map unhidden (t ∷ rest)) ≡ true
      → is_exhausted meter ≡ false
      → StaysOpen macros env meter (t ∷ rest) (fault 17 t.used t.text)
  expands_open t rest opens remains =
      let list : List Hiding = map unhidden (t ∷ rest) in
      let o = open_list macros list opens in
      let laid_out : unhidden t ∷ map unhidden rest ≡ o.name ∷ (o.paren ∷ o.inside) = o.laid_out in
      let name : o.name ≡ unhidden t = cc laid_out in
      let free : set.contains o.name.hide o.name.token.text ≡ false = ap (λ (h : Hiding). set.contains h.hide h.token.text) name ∙ set.contains-empty (slice_cmp nat_cmp) t.text in
      let step : step_in_budget macros env meter list ≡ ReplacementFault (fault 17 t.used t.text) =
      ap (step_in_budget macros env meter) laid_out
      ∙ raises o.name o.paren o.inside o.macro o.named o.function_like o.opens o.unclosed free remains
      ∙ ap (λ (h : Hiding). ReplacementFault (fault_at_expansion 17 h)) name in
      record {
        expands = record {
          outcome = stops_with (spend_one meter) (Some (fault 17 t.used t.text));
          expands = (0, replacement_fault step);
          emitted = refl;
          fault_is = refl;
          meter_is = refl;
        };
        open_is = ap (λ b. if b then map (λ h. h.token) list else []) opens ∙ tokens_unhidden (t ∷ rest);
      }

-- ---- the meter of an invocation that is counted already

pub remains_one : (meter : Meter) → is_exhausted (give_back_one meter) ≡ false
remains_one meter = by_budget meter.remaining
  where
    by_budget : (budget : Option ℕ) → is_used_up (one_more budget) ≡ false
    by_budget None = refl
    by_budget (Some n) = refl

pub spends_again : (meter : Meter) → spend_one (give_back_one meter) ≡ meter
spends_again meter = λ i. record meter { remaining = by_budget meter.remaining i }
  where
    by_budget : (budget : Option ℕ) → one_less (one_more budget) ≡ budget
    by_budget None = refl
    by_budget (Some n) = refl
