-- Without a budget no expansion ends in fault 35: the numbers of the other faults are smaller.
use Rattle.std.proofs.Common.{◌≡◌, ◌≢◌, ℕ, ◌<◌, Bool, true, false, List, [], ◌∷◌, ◌++◌, Option, Some, None, Result, Ok, Err, sym, ap, ◌∙◌, subst, map, arith, if◌then◌else◌}
use Rattle.std.specs.FinSet as set
use Rattle.pptext.specs.declared.tokens.Place.{Place}
use Rattle.pptext.specs.declared.tokens.Token.{Token}
use Rattle.pptext.specs.declared.tokens.Fault.{Fault}
use Rattle.pptext.specs.declared.tokens.Kind.{Kind}
use Rattle.pptext.specs.Tokens.{is_unmatched_quote, fault}
use Rattle.ppmacro.specs.Names.{Name, HideSet, Macros}
use Rattle.ppmacro.specs.Hiding.{Hiding}
use Rattle.ppmacro.specs.VaOptChains.{ListChains, Ordinary, WithVaOpt, list_chains}
use Rattle.ppmacro.specs.Lexing.{kind_of}
use Rattle.ppmacro.specs.declared.macros.Variadic.{Variadic}
use Rattle.ppmacro.specs.declared.macros.MacroKind.{MacroKind}
use Rattle.ppmacro.specs.declared.macros.MacroKind.TheVariants.{Predefined, ObjectLike, FunctionLike, Counter}
use Rattle.ppmacro.specs.declared.macros.Macro.{Macro}
use Rattle.ppmacro.specs.declared.macros.Chain.{Chain}
use Rattle.ppmacro.specs.declared.macros.Operand.{Operand}
use Rattle.ppmacro.specs.declared.macros.Operand.TheVariants.{Tok, Param, Str, VariadicAfterComma}
use Rattle.ppmacro.specs.Substitution.{string_text, string_token, is_string_literal, stringized, pasted_as, pasted, after_ok, join, join_all, Arguments, argument_at, operand_tokens, operands_tokens}
use Rattle.ppmacro.specs.Substitution.{is_joined, before_variadic, chain_tokens, Replacement}
use Rattle.ppmacro.specs.Substitution.{chains_tokens, chains_replacement, contents_tokens, with_contents, is_filled, filled_replacement, replacement_by, macro_replacement}
use Rattle.ppexpand.specs.declared.env.Env.{Env}
use Rattle.ppexpand.specs.declared.meter.Meter.{Meter}
use Rattle.ppexpand.specs.Arguments.{is_open, Gathered, Closed, UnmatchedQuote, Unclosed, gather, separators, fit_arguments}
use Rattle.ppexpand.specs.ExpansionStep.{Invocation, ExpansionStep, TokenFault, Emits, ReplacementFault, replaced_by, quote_fault, closed_invocation_step, invocation_step, function_step, no_arguments}
use Rattle.ppexpand.specs.ExpansionStep.{macro_step, named_step, macro_of, expansion_step, finish_by_parameter, expansions_by_parameter, ExpandedArguments, with_expanded}
use Rattle.ppexpand.specs.Budget.{one_less}
use Rattle.ppexpand.specs.Expansion.{Outcome, step_in_budget, Expands, done, token_fault, emits, replacement_fault, replaced, argument_fault, invocation_fault, invocation_replaced, ExpandsArguments, counts}
use Rattle.ppexpand.specs.Expansion.{none, too_deep}
use Rattle.ppexpand.specs.Expansion.{pre_expanded, pre_expansion_fault, count, count_arguments, ExpandsTo, Expansion, IsExpansion}
use Rattle.ppexpand.proofs.BudgetLemmas.{unlimited-in_budget, plus-none, spends, spends_arguments}

-- a value, or a fault with a number below 35
abbrev IsBelow : {A : Type 0} → Result A Fault → Type 0
IsBelow (Ok x) = Unit {0}
IsBelow (Err f) = f.number < 35

below_either : {A : Type 0} (b : Bool) (r s : Result A Fault) → IsBelow r → IsBelow s → IsBelow (if b then r else s)
below_either true r s h k = h
below_either false r s h k = k

below_after : {A B : Type 0} (r : Result A Fault) (g : A → Result B Fault) → IsBelow r → ((a : A) → IsBelow (g a)) → IsBelow (after_ok r g)
below_after (Ok a) g h k = k a
below_after (Err f) g h k = h

-- ---- substitution: faults 19 and 20

below_stringized : (argument : List Token) (at used : Place) → IsBelow (stringized argument at used)
below_stringized argument at used =
    below_either (is_string_literal (kind_of (string_text argument))) (Ok (string_token (string_text argument) at used)) (Err (fault 20 used (string_text argument))) tt (omega arith)

below_pasted_as : (k : Option Kind) (left right : Hiding) (used : Place) → IsBelow (pasted_as k left right used)
below_pasted_as None left right used = omega arith
below_pasted_as (Some k) left right used = tt

below_join : (left right : List Hiding) (used : Place) → IsBelow (join left right used)
below_join [] right used = tt
below_join (l ∷ ls) [] used = tt
below_join (l ∷ []) (r ∷ rs) used = below_after (pasted l r used) _ (below_pasted_as (kind_of (l.token.text ++ r.token.text)) l r used) (λ t. tt)
below_join (l ∷ (m ∷ ls)) (r ∷ rs) used = below_after (join (m ∷ ls) (r ∷ rs) used) _ (below_join (m ∷ ls) (r ∷ rs) used) (λ ts. tt)

below_join_all : (so_far : List Hiding) (lists : List (List Hiding)) (used : Place) → IsBelow (join_all so_far lists used)
below_join_all so_far [] used = tt
below_join_all left (right ∷ rest) used = below_after (join left right used) _ (below_join left right used) (λ ts. below_join_all ts rest used)

below_operand : (beside : Bool) (args : Arguments) (used : Place) (o : Operand) → IsBelow (operand_tokens beside args used o)
below_operand beside args used (Tok t) = tt
below_operand true args used (Param i) = tt
below_operand false args used (Param i) = tt
below_operand beside args used (VariadicAfterComma i) = tt
below_operand beside args used (Str i at) =
    let argument : List Token = map (λ t. t.token) (argument_at args.given i) in
    below_after {B = List Hiding} (stringized argument at used) (λ t. Ok (t ∷ [])) (below_stringized argument at used) (λ t. tt)

below_operands : (beside : Bool) (args : Arguments) (used : Place) (os : List Operand) → IsBelow (operands_tokens beside args used os)
below_operands beside args used [] = tt
below_operands beside args used (o ∷ os) =
    below_after (operand_tokens beside args used o) _ (below_operand beside args used o) (λ ts. below_after (operands_tokens beside args used os) _ (below_operands beside args used os) (λ rest. tt))

below_chain : (args : Arguments) (used : Place) (c : Chain) → IsBelow (chain_tokens args used c)
below_chain args used c =
    let os = before_variadic c.operands in
    below_after (operands_tokens (is_joined c.operands) args used os) _ (below_operands (is_joined c.operands) args used os) (λ lists. below_after (join_all [] lists used) _ (below_join_all [] lists used) (λ ts. tt))

below_chains : (args : Arguments) (used : Place) (pending first : Bool) (cs : List Chain) → IsBelow (chains_tokens args used pending first cs)
below_chains args used pending first [] = tt
below_chains args used pending first (c ∷ cs) =
    below_after (chain_tokens args used c) _ (below_chain args used c) (λ ts. below_after (chains_tokens args used _ false cs) _ (below_chains args used _ false cs) (λ rest. tt))

below_list : (cs : List Chain) (args : Arguments) (names_to_hide : HideSet) (used : Place) (space : Bool) → IsBelow (chains_replacement cs args names_to_hide used space)
below_list cs args names_to_hide used space = below_after (chains_tokens args used space true cs) _ (below_chains args used space true cs) (λ m. tt)

below_contents : (args : Arguments) (used : Place) (cs : List (List Chain)) → IsBelow (contents_tokens args used cs)
below_contents args used [] = tt
below_contents args used (c ∷ cs) =
    below_after (chains_tokens args used false true c) _ (below_chains args used false true c) (λ m. below_after (contents_tokens args used cs) _ (below_contents args used cs) (λ rest. tt))

below_by : (c : ListChains) (args : Arguments) (names_to_hide : HideSet) (used : Place) (space : Bool) → IsBelow (replacement_by c args names_to_hide used space)
below_by (Ordinary cs) args names_to_hide used space = below_list cs args names_to_hide used space
below_by (WithVaOpt c) args names_to_hide used space =
    below_either (is_filled c args) (filled_replacement c args names_to_hide used space) (chains_replacement c.if_empty args names_to_hide used space)
    (below_after (contents_tokens args used c.contents) _ (below_contents args used c.contents) (λ lists. below_list c.if_filled (with_contents args lists) names_to_hide used space))
    (below_list c.if_empty args names_to_hide used space)

below_substituted : (d : Macro) (args : Arguments) (names_to_hide : HideSet) (used : Place) (space : Bool) → IsBelow (macro_replacement d args names_to_hide used space)
below_substituted d args names_to_hide used space = below_by (list_chains d) args names_to_hide used space

-- ---- expansion steps: faults 7, 17 and 18, and the faults of substitution

abbrev IsTurnBelow : ExpansionStep → Type 0
IsTurnBelow (TokenFault f) = f.number < 35
IsTurnBelow (ReplacementFault f) = f.number < 35
IsTurnBelow _ = Unit {0}

turn_either : (b : Bool) (t u : ExpansionStep) → IsTurnBelow t → IsTurnBelow u → IsTurnBelow (if b then t else u)
turn_either true t u h k = h
turn_either false t u h k = k

below_replaced : (r : Result Replacement Fault) (following : List Hiding) → IsBelow r → IsTurnBelow (replaced_by r following)
below_replaced (Ok m) following h = tt
below_replaced (Err f) following h = h

below_closed : (t : Hiding) (d : Macro) (as' : Option (List (List Hiding))) (close : Hiding) (following : List Hiding) → IsTurnBelow (closed_invocation_step t d as' close following)
below_closed t d (Some as') close following = tt
below_closed t d None close following = omega arith

below_invoked : (t : Hiding) (d : Macro) (names : List Name) (variadic : Variadic) (g : Gathered) → IsTurnBelow (invocation_step t d names variadic g)
below_invoked t d names variadic (Closed as' close following) = below_closed t d (fit_arguments names variadic as') close following
below_invoked t d names variadic (UnmatchedQuote q) = omega arith
below_invoked t d names variadic Unclosed = omega arith

below_function : (t : Hiding) (d : Macro) (names : List Name) (variadic : Variadic) (list : List Hiding) → IsTurnBelow (function_step t d names variadic list)
below_function t d names variadic [] = tt
below_function t d names variadic (p ∷ rest) =
    turn_either (is_open p.token) (invocation_step t d names variadic (gather 0 (separators names variadic) rest)) (Emits t (p ∷ rest)) (below_invoked t d names variadic (gather 0 (separators names variadic) rest)) tt

below_macro : (env : Env) (t : Hiding) (rest : List Hiding) (d : Macro) (kind : MacroKind) → IsTurnBelow (macro_step env t rest d kind)
below_macro env t rest d (Predefined b) = tt
below_macro env t rest d Counter = tt
below_macro env t rest d ObjectLike = below_replaced (macro_replacement d no_arguments _ t.token.used t.token.space) rest (below_substituted d no_arguments _ t.token.used t.token.space)
below_macro env t rest d (FunctionLike names variadic) = below_function t d names variadic rest

below_named : (env : Env) (t : Hiding) (rest : List Hiding) (d : Option Macro) → IsTurnBelow (named_step env t rest d)
below_named env t rest (Some d) = below_macro env t rest d d.kind
below_named env t rest None = tt

below_turn : (macros : Macros) (env : Env) (list : List Hiding) → IsTurnBelow (expansion_step macros env list)
unfolding expansion_step
below_turn macros env [] = tt
below_turn macros env (t ∷ rest) =
    turn_either (is_unmatched_quote t.token) (TokenFault (quote_fault t.token)) (if set.contains t.hide t.token.text then Emits t rest else named_step env t rest (macro_of macros t.token)) (omega arith)
    (turn_either (set.contains t.hide t.token.text) (Emits t rest) (named_step env t rest (macro_of macros t.token)) tt (below_named env t rest (macro_of macros t.token)))

below_finished : (invocation : Invocation) (expanded : List (Option (List Hiding))) → IsTurnBelow (finish_by_parameter invocation expanded)
unfolding finish_by_parameter
below_finished invocation expanded =
    let arguments : Arguments = record { given = invocation.arguments; expanded = expanded } in
    let name = invocation.name_token.token in
    below_replaced _ invocation.following (below_substituted invocation.macro arguments invocation.names_to_hide name.used name.space)

-- ---- expansions: fault 21, and the faults of expansion steps

abbrev IsFaultBelow : Option Fault → Type 0
IsFaultBelow None = Unit {0}
IsFaultBelow (Some f) = f.number < 35

below_expanded : (a : List Hiding) (r : ExpandedArguments) → IsBelow r → IsBelow (with_expanded a r)
below_expanded a (Ok as') h = tt
below_expanded a (Err f) h = h

module _ (macros : Macros) (env : Env) where
  of_turn : (meter : Meter) (list : List Hiding) {t : ExpansionStep} → meter.remaining ≡ None → step_in_budget macros env meter list ≡ t → IsTurnBelow t
  of_turn meter list is e = subst IsTurnBelow (sym (unlimited-in_budget meter list (expansion_step macros env list) is) ∙ e) (below_turn macros env list)

  mutual
    below : {level steps : ℕ} {meter : Meter} {list : List Hiding} {out : Outcome} → meter.remaining ≡ None → Expands macros env level meter steps list out → IsFaultBelow out.fault
    below is (done e) = tt
    below {meter = meter} {list = list} is (token_fault e) = of_turn meter list is e
    below is (emits e more) = below is more
    below {meter = meter} {list = list} is (replacement_fault e) = of_turn meter list is e
    below is (replaced e more) = below (ap one_less is) more
    below is (counts e more) = below (ap one_less is) more
    below is (argument_fault e a) = below_arguments (ap one_less is) a
    below is (invocation_fault {invocation = invocation} {expanded = expanded} e a f) = subst IsTurnBelow f (below_finished invocation (expansions_by_parameter env invocation expanded))
    below is (invocation_replaced {meter_after = meter_after} e a f more) = below (plus-none (count_arguments macros env a) meter_after.remaining (sym (ap one_less is) ∙ spends_arguments macros env a)) more

    below_arguments : {level : ℕ} {invocation : Invocation} {meter meter_after : Meter} {as' : List (List Hiding)} {r : ExpandedArguments}
        → meter.remaining ≡ None
        → ExpandsArguments macros env level invocation meter as' meter_after r
        → IsBelow r
    below_arguments is none = tt
    below_arguments is (too_deep h) = omega arith
    below_arguments is (pre_expanded {between = between} {tokens = tokens} {out = out} h one more) =
        below_expanded tokens out (below_arguments (plus-none (count macros env one) between.remaining (sym is ∙ spends macros env one)) more)
    below_arguments is (pre_expansion_fault h one) = below is one

  never : (o : Option Fault) (f : Fault) → o ≡ Some f → IsFaultBelow o → f.number ≢ 35
  never o f is h e = let less : f.number < 35 = subst IsFaultBelow is h in absurd (omega arith)

  pub never_refused : {level : ℕ} {meter : Meter} {list : List Hiding} {out : Outcome} {f : Fault} → meter.remaining ≡ None → ExpandsTo macros env level meter list out → out.fault ≡ Some f → f.number ≢ 35
  never_refused {out = out} {f = f} unlimited d is = never out.fault f is (below unlimited d.1)

  pub expansion_never_refused : {meter : Meter} {tokens : List Token} {e : Expansion} {f : Fault} → meter.remaining ≡ None → IsExpansion macros env meter tokens e → e.fault ≡ Some f → f.number ≢ 35
  expansion_never_refused unlimited x is = never_refused unlimited x.expands (sym x.fault_is ∙ is)
