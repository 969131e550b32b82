-- Expansion without a budget agrees with the standard's rules.
use Rattle.std.proofs.Common.{◌≡◌, ◌↔◌, ℕ, suc, Bool, true, false, List, [], ◌∷◌, map, Option, Some, None, Result, Ok, Err, refl, sym, ap, ◌∙◌, subst, ◌+◌, ◌%◌, ◌^◌}
use Rattle.std.specs.FinSet as set
use Rattle.pptext.specs.declared.tokens.Token.{Token}
use Rattle.pptext.specs.declared.tokens.Fault.{Fault}
use Rattle.pptext.specs.Tokens.{is_unmatched_quote}
use Rattle.ppmacro.specs.Names.{Name, Macros}
use Rattle.ppmacro.specs.Hiding.{Hiding}
use Rattle.ppmacro.specs.Substitution.{Replacement, unhidden}
use Rattle.ppmacro.specs.declared.macros.PredefinedMacro.{PredefinedMacro}
use Rattle.ppmacro.specs.declared.macros.Macro.{Macro}
use Rattle.ppmacro.specs.declared.macros.Variadic.{Variadic}
use Rattle.ppmacro.specs.declared.macros.MacroKind.{MacroKind}
use Rattle.ppmacro.specs.declared.macros.MacroKind.TheVariants.{Predefined, ObjectLike, FunctionLike, Counter}
use Rattle.ppexpand.specs.declared.env.Env.{Env}
use Rattle.ppexpand.specs.declared.meter.Meter.{Meter}
use Rattle.ppexpand.specs.Arguments.{is_open, Gathered, Closed, UnmatchedQuote, Unclosed, gather, separators, fit_arguments}
use Rattle.ppexpand.specs.ExpansionStep.{predefined_value, Invocation, ExpansionStep, Done, TokenFault, Emits, ReplacementFault, Replaced, Invoked, followed_by, replaced_by, fault_at_expansion, Counts, counter_value}
use Rattle.ppexpand.specs.ExpansionStep.{quote_fault, names_to_hide_for, closed_invocation_step, invocation_step, function_step, macro_step, named_step, macro_of}
use Rattle.ppexpand.specs.ExpansionStep.{expansion_step, arguments_to_expand, finish_by_parameter, finish_invocation, ExpandedArguments}
use Rattle.ppexpand.specs.Budget.{without_budget, one_less}
use Rattle.ppexpand.specs.Expansion.{Outcome, step_in_budget, Expands, ExpandsTo, ExpandsArguments, Expansion, IsExpansion}
use Rattle.ppexpand.specs.Expansion as in_budget
use Rattle.ppexpand.specs.Standard.{NamesMacro, StartsInvocation, Invokes, opens_next, object_result, invocation_result, StandardExpands, StandardExpandsArguments, IsStandardExpansion}
use Rattle.ppexpand.proofs.StepLemmas.{expansion_step-quote, expansion_step-hidden, expansion_step-named, expansion_step-unnamed}
use Rattle.ppexpand.proofs.BudgetLemmas.{unlimited-in_budget, remaining_none, arguments_none}

expansion_step-nothing : (macros : Macros) (env : Env) → expansion_step macros env [] ≡ Done
unfolding expansion_step
expansion_step-nothing macros env = refl

finish_invocation-is : (env : Env) (invocation : Invocation) (expanded : List (List Hiding)) → finish_invocation env invocation expanded ≡ replaced_by (invocation_result env invocation expanded) invocation.following
unfolding finish_by_parameter
finish_invocation-is env invocation expanded = refl

module _ (macros : Macros) (env : Env) where
  -- the expansion step of a list, by the standard's rules
  data Means : List Hiding → ExpansionStep → Type 0 where
    nothing_left : Means [] Done
    unmatched_quote : {t : Hiding} {rest : List Hiding} → is_unmatched_quote t.token ≡ true → Means (t ∷ rest) (TokenFault (quote_fault t.token))
    no_macro : {t : Hiding} {rest : List Hiding} → is_unmatched_quote t.token ≡ false → macro_of macros t.token ≡ None → Means (t ∷ rest) (Emits t rest)
    hidden : {t : Hiding} {rest : List Hiding} → is_unmatched_quote t.token ≡ false → set.contains t.hide t.token.text ≡ true → Means (t ∷ rest) (Emits t rest)
    predefined : {t : Hiding} {rest : List Hiding} {d : Macro} {b : PredefinedMacro}
        → NamesMacro macros t d
        → d.kind ≡ Predefined b
        → Means (t ∷ rest) (Replaced (predefined_value b env t (set.insert t.hide t.token.text) ∷ rest))
    counter : {t : Hiding} {rest : List Hiding} {d : Macro} → NamesMacro macros t d → d.kind ≡ Counter → Means (t ∷ rest) (Counts t rest)
    object_like : {t : Hiding} {rest : List Hiding} {d : Macro} {m : Replacement} → NamesMacro macros t d → d.kind ≡ ObjectLike → object_result t d ≡ Ok m → Means (t ∷ rest) (Replaced (followed_by m rest))
    object_result_fault : {t : Hiding} {rest : List Hiding} {d : Macro} {f : Fault} → NamesMacro macros t d → d.kind ≡ ObjectLike → object_result t d ≡ Err f → Means (t ∷ rest) (ReplacementFault f)
    not_invoked : {t : Hiding} {rest : List Hiding} {d : Macro} {names : List Name} {variadic : Variadic}
        → NamesMacro macros t d
        → d.kind ≡ FunctionLike names variadic
        → opens_next rest ≡ false
        → Means (t ∷ rest) (Emits t rest)
    quote_inside : {t paren quote : Hiding} {inside : List Hiding} {d : Macro} {names : List Name} {variadic : Variadic}
        → StartsInvocation macros t paren d names variadic
        → gather 0 (separators names variadic) inside ≡ UnmatchedQuote quote
        → Means (t ∷ paren ∷ inside) (ReplacementFault (quote_fault quote.token))
    unclosed : {t paren : Hiding} {inside : List Hiding} {d : Macro} {names : List Name} {variadic : Variadic}
        → StartsInvocation macros t paren d names variadic
        → gather 0 (separators names variadic) inside ≡ Unclosed
        → Means (t ∷ paren ∷ inside) (ReplacementFault (fault_at_expansion 17 t))
    wrong_number : {t paren close : Hiding} {inside following : List Hiding} {d : Macro} {names : List Name} {variadic : Variadic} {arguments : List (List Hiding)}
        → StartsInvocation macros t paren d names variadic
        → gather 0 (separators names variadic) inside ≡ Closed arguments close following
        → fit_arguments names variadic arguments ≡ None
        → Means (t ∷ paren ∷ inside) (ReplacementFault (fault_at_expansion 18 t))
    begins : {list : List Hiding} {invocation : Invocation} → Invokes macros list invocation → Means list (Invoked invocation)

  -- ---- the step of each list follows one of the rules

  by_number : (t paren close : Hiding) (inside following : List Hiding) (d : Macro) (names : List Name) (variadic : Variadic) (arguments : List (List Hiding))
      → StartsInvocation macros t paren d names variadic
      → gather 0 (separators names variadic) inside ≡ Closed arguments close following
      → (o : Option (List (List Hiding)))
      → fit_arguments names variadic arguments ≡ o
      → Means (t ∷ paren ∷ inside) (closed_invocation_step t d o close following)
  by_number t paren close inside following d names variadic arguments i g None e = Means.wrong_number i g e
  by_number t paren close inside following d names variadic arguments i g (Some given) e =
      Means.begins (record { paren = paren; inside = inside; names = names; variadic = variadic; arguments = arguments; close = close; laid_out = refl; opens = i; closed = g; fits = e; to_hide = refl })

  by_gathered : (t paren : Hiding) (inside : List Hiding) (d : Macro) (names : List Name) (variadic : Variadic)
      → StartsInvocation macros t paren d names variadic
      → (g : Gathered)
      → gather 0 (separators names variadic) inside ≡ g
      → Means (t ∷ paren ∷ inside) (invocation_step t d names variadic g)
  by_gathered t paren inside d names variadic i (Closed arguments close following) e = by_number t paren close inside following d names variadic arguments i e (fit_arguments names variadic arguments) refl
  by_gathered t paren inside d names variadic i (UnmatchedQuote q) e = Means.quote_inside i e
  by_gathered t paren inside d names variadic i Unclosed e = Means.unclosed i e

  by_next : (t : Hiding) (rest : List Hiding) (d : Macro) (names : List Name) (variadic : Variadic)
      → NamesMacro macros t d
      → d.kind ≡ FunctionLike names variadic
      → Means (t ∷ rest) (function_step t d names variadic rest)
  by_next t [] d names variadic c e = Means.not_invoked c e refl
  by_next t (paren ∷ inside) d names variadic c e = elim (is_open paren.token) as (λ b. is_open paren.token ≡ b → Means (t ∷ paren ∷ inside) (function_step t d names variadic (paren ∷ inside))) [
    | true ↦ λ o. rw o (by_gathered t paren inside d names variadic (record { names_macro = c; kind = e; paren_opens = o }) (gather 0 (separators names variadic) inside) refl)
    | false ↦ λ o. rw o (Means.not_invoked c e o)
  ] refl

  by_result : (t : Hiding) (rest : List Hiding) (d : Macro) → NamesMacro macros t d → d.kind ≡ ObjectLike → (r : Result Replacement Fault) → object_result t d ≡ r → Means (t ∷ rest) (replaced_by r rest)
  by_result t rest d c e (Ok m) h = Means.object_like c e h
  by_result t rest d c e (Err f) h = Means.object_result_fault c e h

  by_shape : (t : Hiding) (rest : List Hiding) (d : Macro) → NamesMacro macros t d → (s : MacroKind) → d.kind ≡ s → Means (t ∷ rest) (macro_step env t rest d s)
  by_shape t rest d c (Predefined b) e = Means.predefined c e
  by_shape t rest d c Counter e = Means.counter c e
  by_shape t rest d c ObjectLike e = by_result t rest d c e (object_result t d) refl
  by_shape t rest d c (FunctionLike names variadic) e = by_next t rest d names variadic c e

  by_name : (t : Hiding) (rest : List Hiding)
      → is_unmatched_quote t.token ≡ false
      → set.contains t.hide t.token.text ≡ false
      → (o : Option Macro)
      → macro_of macros t.token ≡ o
      → Means (t ∷ rest) (named_step env t rest o)
  by_name t rest q h None e = Means.no_macro q e
  by_name t rest q h (Some d) e = by_shape t rest d (record { no_quote = q; not_hidden = h; named = e }) d.kind refl

  by_hiding : (t : Hiding) (rest : List Hiding) → is_unmatched_quote t.token ≡ false → (b : Bool) → set.contains t.hide t.token.text ≡ b → Means (t ∷ rest) (expansion_step macros env (t ∷ rest))
  by_hiding t rest q true h = subst (Means (t ∷ rest)) (sym (expansion_step-hidden macros env t rest q h)) (Means.hidden q h)
  by_hiding t rest q false h = subst (Means (t ∷ rest)) (sym (expansion_step-named macros env t rest q h)) (by_name t rest q h (macro_of macros t.token) refl)

  by_quote : (t : Hiding) (rest : List Hiding) (b : Bool) → is_unmatched_quote t.token ≡ b → Means (t ∷ rest) (expansion_step macros env (t ∷ rest))
  by_quote t rest true q = subst (Means (t ∷ rest)) (sym (expansion_step-quote macros env t rest q)) (Means.unmatched_quote q)
  by_quote t rest false q = by_hiding t rest q (set.contains t.hide t.token.text) refl

  means : (list : List Hiding) → Means list (expansion_step macros env list)
  means [] = subst (Means []) (sym (expansion_step-nothing macros env)) Means.nothing_left
  means (t ∷ rest) = by_quote t rest (is_unmatched_quote t.token) refl

  -- ---- each rule yields the expansion step of the list

  invocations_turn : {t : Hiding} {d : Macro} (rest : List Hiding) → NamesMacro macros t d → (s : MacroKind) → d.kind ≡ s → expansion_step macros env (t ∷ rest) ≡ macro_step env t rest d s
  invocations_turn {t = t} {d = d} rest c s e = expansion_step-named macros env t rest c.no_quote c.not_hidden ∙ ap (named_step env t rest) c.named ∙ ap (macro_step env t rest d) e

  not_opened : (t : Hiding) (d : Macro) (names : List Name) (variadic : Variadic) (rest : List Hiding) → opens_next rest ≡ false → function_step t d names variadic rest ≡ Emits t rest
  not_opened t d names variadic [] e = refl
  not_opened t d names variadic (p ∷ rest) e = rw e refl

  invokes_turn : {t paren : Hiding} {d : Macro} {names : List Name} {variadic : Variadic} (inside : List Hiding)
      → StartsInvocation macros t paren d names variadic
      → (g : Gathered)
      → gather 0 (separators names variadic) inside ≡ g
      → expansion_step macros env (t ∷ paren ∷ inside) ≡ invocation_step t d names variadic g
  invokes_turn {t = t} {paren = paren} {d = d} {names = names} {variadic = variadic} inside i g e =
      let opened : function_step t d names variadic (paren ∷ inside) ≡ invocation_step t d names variadic (gather 0 (separators names variadic) inside) = rw (i.paren_opens) refl in
      invocations_turn (paren ∷ inside) i.names_macro (FunctionLike names variadic) i.kind ∙ opened ∙ ap (invocation_step t d names variadic) e

  closed_invocation_step-is : (invocation : Invocation) (close : Hiding) (o : Option (List (List Hiding)))
      → o ≡ Some invocation.arguments
      → invocation.names_to_hide ≡ names_to_hide_for invocation.name_token.hide close.hide invocation.name_token.token.text
      → closed_invocation_step invocation.name_token invocation.macro o close invocation.following ≡ Invoked invocation
  closed_invocation_step-is invocation close o e g =
      ap (λ o. closed_invocation_step invocation.name_token invocation.macro o close invocation.following) e
      ∙ (λ i. Invoked (record invocation { names_to_hide = (sym g) i }))

  meant : {list : List Hiding} {x : ExpansionStep} → Means list x → expansion_step macros env list ≡ x
  meant Means.nothing_left = expansion_step-nothing macros env
  meant (Means.unmatched_quote {t = t} {rest = rest} q) = expansion_step-quote macros env t rest q
  meant (Means.no_macro {t = t} {rest = rest} q n) = expansion_step-unnamed macros env t rest q n
  meant (Means.hidden {t = t} {rest = rest} q h) = expansion_step-hidden macros env t rest q h
  meant (Means.predefined {rest = rest} {b = b} c e) = invocations_turn rest c (Predefined b) e
  meant (Means.counter {rest = rest} c e) = invocations_turn rest c Counter e
  meant (Means.object_like {rest = rest} c e h) = invocations_turn rest c ObjectLike e ∙ ap (λ r. replaced_by r rest) h
  meant (Means.object_result_fault {rest = rest} c e h) = invocations_turn rest c ObjectLike e ∙ ap (λ r. replaced_by r rest) h
  meant (Means.not_invoked {t = t} {rest = rest} {d = d} {names = names} {variadic = variadic} c e n) = invocations_turn rest c (FunctionLike names variadic) e ∙ not_opened t d names variadic rest n
  meant (Means.quote_inside {quote = quote} {inside = inside} i g) = invokes_turn inside i (UnmatchedQuote quote) g
  meant (Means.unclosed {inside = inside} i g) = invokes_turn inside i Unclosed g
  meant (Means.wrong_number {t = t} {close = close} {inside = inside} {following = following} {d = d} {arguments = arguments} i g f) =
      invokes_turn inside i (Closed arguments close following) g ∙ ap (λ o. closed_invocation_step t d o close following) f
  meant (Means.begins {invocation = invocation} b) =
      ap (expansion_step macros env) b.laid_out ∙ invokes_turn b.inside b.opens (Closed b.arguments b.close invocation.following) b.closed
      ∙ closed_invocation_step-is invocation b.close (fit_arguments b.names b.variadic b.arguments) b.fits b.to_hide

  -- ---- from a step to a rule

  at_done : {level number : ℕ} {list : List Hiding} → Means list Done → StandardExpands macros env level number list [] None number
  at_done Means.nothing_left = StandardExpands.nothing_left

  at_token_fault : {level number : ℕ} {list : List Hiding} {f : Fault} → Means list (TokenFault f) → StandardExpands macros env level number list [] (Some f) number
  at_token_fault (Means.unmatched_quote q) = StandardExpands.unmatched_quote q

  at_passes : {level number after : ℕ} {list rest tokens : List Hiding} {t : Hiding} {fault : Option Fault}
      → Means list (Emits t rest)
      → StandardExpands macros env level number rest tokens fault after
      → StandardExpands macros env level number list (t ∷ tokens) fault after
  at_passes (Means.no_macro q n) more = StandardExpands.no_macro q n more
  at_passes (Means.hidden q h) more = StandardExpands.hidden q h more
  at_passes (Means.not_invoked c e n) more = StandardExpands.not_invoked c e n more

  at_replacement_fault : {level number : ℕ} {list : List Hiding} {f : Fault} → Means list (ReplacementFault f) → StandardExpands macros env level number list [] (Some f) number
  at_replacement_fault (Means.object_result_fault c e h) = StandardExpands.object_result_fault c e h
  at_replacement_fault (Means.quote_inside i g) = StandardExpands.quote_inside i g
  at_replacement_fault (Means.unclosed i g) = StandardExpands.unclosed i g
  at_replacement_fault (Means.wrong_number i g f) = StandardExpands.wrong_number i g f

  at_replaced : {level number after : ℕ} {list next tokens : List Hiding} {fault : Option Fault}
      → Means list (Replaced next)
      → StandardExpands macros env level number next tokens fault after
      → StandardExpands macros env level number list tokens fault after
  at_replaced (Means.predefined c e) more = StandardExpands.predefined c e more
  at_replaced (Means.object_like c e h) more = StandardExpands.object_like c e h more

  at_counts : {level number after : ℕ} {list rest tokens : List Hiding} {t : Hiding} {fault : Option Fault}
      → Means list (Counts t rest)
      → StandardExpands macros env level ((number + 1) % 2 ^ 32) (counter_value number t ∷ rest) tokens fault after
      → StandardExpands macros env level number list tokens fault after
  at_counts (Means.counter c e) more = StandardExpands.counter c e more

  at_invoked : {list : List Hiding} {invocation : Invocation} → Means list (Invoked invocation) → Invokes macros list invocation
  at_invoked (Means.begins b) = b

  -- the replacement of an invocation, by the expansion step that results from it
  result_failed : (invocation : Invocation) (expanded : List (List Hiding)) (f : Fault) (r : Result Replacement Fault) → replaced_by r invocation.following ≡ ReplacementFault f → r ≡ Err f
  result_failed invocation expanded f (Ok m) e = absurd (cc)
  result_failed invocation expanded f (Err g) e = let same : g ≡ f = cc in ap Err same

  result_replaced : (following next : List Hiding) (r : Result Replacement Fault) → replaced_by r following ≡ Replaced next → (m : Replacement) × (r ≡ Ok m) × (followed_by m following ≡ next)
  result_replaced following next (Ok m) e = let same : followed_by m following ≡ next = cc in (m, refl, same)
  result_replaced following next (Err f) e = absurd (cc)

  at_next : {level number between after : ℕ} {list next tokens : List Hiding} {fault : Option Fault} {invocation : Invocation} {expanded : List (List Hiding)}
      → Invokes macros list invocation
      → StandardExpandsArguments macros env level invocation number (arguments_to_expand env invocation) (Ok expanded) between
      → finish_invocation env invocation expanded ≡ Replaced next
      → StandardExpands macros env level between next tokens fault after
      → StandardExpands macros env level number list tokens fault after
  at_next {level = level} {between = between} {after = after} {next = next} {tokens = tokens} {fault = fault} {invocation = invocation} {expanded = expanded} b a e more =
      let r = result_replaced invocation.following next (invocation_result env invocation expanded) (sym (finish_invocation-is env invocation expanded) ∙ e) in
      StandardExpands.invocation b a r.1 (subst (λ x. StandardExpands macros env level between x tokens fault after) (sym r.2) more)

  -- ---- an expansion without a budget follows the standard's rules

  by_rule : (meter : Meter) (list : List Hiding) {x : ExpansionStep} → meter.remaining ≡ None → step_in_budget macros env meter list ≡ x → Means list x
  by_rule meter list is e = subst (Means list) (sym (unlimited-in_budget meter list (expansion_step macros env list) is) ∙ e) (means list)

  mutual
    standard : {level steps : ℕ} {meter : Meter} {list : List Hiding} {out : Outcome}
        → meter.remaining ≡ None
        → Expands macros env level meter steps list out
        → StandardExpands macros env level meter.counter list out.tokens out.fault out.meter.counter
    standard {meter = meter} {list = list} is (in_budget.done e) = at_done (by_rule meter list is e)
    standard {meter = meter} {list = list} is (in_budget.token_fault e) = at_token_fault (by_rule meter list is e)
    standard {meter = meter} {list = list} is (in_budget.emits e more) = at_passes (by_rule meter list is e) (standard is more)
    standard {meter = meter} {list = list} is (in_budget.replacement_fault e) = at_replacement_fault (by_rule meter list is e)
    standard {meter = meter} {list = list} is (in_budget.replaced e more) = at_replaced (by_rule meter list is e) (standard (ap one_less is) more)
    standard {meter = meter} {list = list} is (in_budget.counts e more) = at_counts (by_rule meter list is e) (standard (ap one_less is) more)
    standard {meter = meter} {list = list} is (in_budget.argument_fault e a) = StandardExpands.argument_fault (at_invoked (by_rule meter list is e)) (standard_arguments (ap one_less is) a)
    standard {meter = meter} {list = list} is (in_budget.invocation_fault {invocation = invocation} {expanded = expanded} {f = f} e a h) =
        let failed = result_failed invocation expanded f (invocation_result env invocation expanded) (sym (finish_invocation-is env invocation expanded) ∙ h) in
        StandardExpands.invocation_result_fault (at_invoked (by_rule meter list is e)) (standard_arguments (ap one_less is) a) failed
    standard {meter = meter} {list = list} is (in_budget.invocation_replaced e a h more) =
        at_next (at_invoked (by_rule meter list is e)) (standard_arguments (ap one_less is) a) h (standard (arguments_none macros env (ap one_less is) a) more)

    standard_arguments : {level : ℕ} {invocation : Invocation} {meter meter_after : Meter} {as' : List (List Hiding)} {r : ExpandedArguments}
        → meter.remaining ≡ None
        → ExpandsArguments macros env level invocation meter as' meter_after r
        → StandardExpandsArguments macros env level invocation meter.counter as' r meter_after.counter
    standard_arguments is in_budget.none = StandardExpandsArguments.none
    standard_arguments is (in_budget.too_deep h) = StandardExpandsArguments.too_deep h
    standard_arguments is (in_budget.pre_expanded h one more) = StandardExpandsArguments.pre_expanded h (standard is one) (standard_arguments (remaining_none macros env is one) more)
    standard_arguments is (in_budget.pre_expansion_fault h one) = StandardExpandsArguments.pre_expansion_fault h (standard is one)

  -- ---- an expansion by the standard's rules is an expansion without a budget

  -- the meter without a budget at this number
  abbrev unlimited : ℕ → Meter
  unlimited number = record { remaining = None; counter = number }

  abbrev Unbudgeted : ℕ → ℕ → List Hiding → List Hiding → Option Fault → ℕ → Type 0
  Unbudgeted level number list tokens fault after = ExpandsTo macros env level (unlimited number) list (record { tokens = tokens; fault = fault; meter = unlimited after })

  passing : {level number after : ℕ} {t : Hiding} {list rest tokens : List Hiding} {fault : Option Fault}
      → Means list (Emits t rest)
      → Unbudgeted level number rest tokens fault after
      → Unbudgeted level number list (t ∷ tokens) fault after
  passing m more = (suc more.0, in_budget.emits (meant m) more.1)

  replacing : {level number after : ℕ} {list next tokens : List Hiding} {fault : Option Fault}
      → Means list (Replaced next)
      → Unbudgeted level number next tokens fault after
      → Unbudgeted level number list tokens fault after
  replacing m more = (suc more.0, in_budget.replaced (meant m) more.1)

  counting : {level number after : ℕ} {t : Hiding} {list rest tokens : List Hiding} {fault : Option Fault}
      → Means list (Counts t rest)
      → Unbudgeted level ((number + 1) % 2 ^ 32) (counter_value number t ∷ rest) tokens fault after
      → Unbudgeted level number list tokens fault after
  counting m more = (suc more.0, in_budget.counts (meant m) more.1)

  failing : {level number : ℕ} {list : List Hiding} {f : Fault} → Means list (ReplacementFault f) → Unbudgeted level number list [] (Some f) number
  failing m = (0, in_budget.replacement_fault (meant m))

  mutual
    unbudgeted : {level number after : ℕ} {list tokens : List Hiding} {fault : Option Fault}
        → StandardExpands macros env level number list tokens fault after
        → Unbudgeted level number list tokens fault after
    unbudgeted StandardExpands.nothing_left = (0, in_budget.done (meant Means.nothing_left))
    unbudgeted (StandardExpands.unmatched_quote q) = (0, in_budget.token_fault (meant (Means.unmatched_quote q)))
    unbudgeted (StandardExpands.no_macro q n more) = passing (Means.no_macro q n) (unbudgeted more)
    unbudgeted (StandardExpands.hidden q h more) = passing (Means.hidden q h) (unbudgeted more)
    unbudgeted (StandardExpands.predefined c e more) = replacing (Means.predefined c e) (unbudgeted more)
    unbudgeted (StandardExpands.counter c e more) = counting (Means.counter c e) (unbudgeted more)
    unbudgeted (StandardExpands.object_like c e h more) = replacing (Means.object_like c e h) (unbudgeted more)
    unbudgeted (StandardExpands.object_result_fault c e h) = failing (Means.object_result_fault c e h)
    unbudgeted (StandardExpands.not_invoked c e n more) = passing (Means.not_invoked c e n) (unbudgeted more)
    unbudgeted (StandardExpands.quote_inside i g) = failing (Means.quote_inside i g)
    unbudgeted (StandardExpands.unclosed i g) = failing (Means.unclosed i g)
    unbudgeted (StandardExpands.wrong_number i g f) = failing (Means.wrong_number i g f)
    unbudgeted (StandardExpands.argument_fault b a) = (0, in_budget.argument_fault (meant (Means.begins b)) (unbudgeted_arguments a))
    unbudgeted (StandardExpands.invocation_result_fault {invocation = invocation} {expanded = expanded} b a e) =
        (0, in_budget.invocation_fault (meant (Means.begins b)) (unbudgeted_arguments a) (finish_invocation-is env invocation expanded ∙ ap (λ r. replaced_by r invocation.following) e))
    unbudgeted (StandardExpands.invocation {invocation = invocation} {expanded = expanded} b a e rest) =
        let more = unbudgeted rest in
        (suc more.0, in_budget.invocation_replaced (meant (Means.begins b)) (unbudgeted_arguments a) (finish_invocation-is env invocation expanded ∙ ap (λ r. replaced_by r invocation.following) e) more.1)

    unbudgeted_arguments : {level number after : ℕ} {invocation : Invocation} {as' : List (List Hiding)} {r : ExpandedArguments}
        → StandardExpandsArguments macros env level invocation number as' r after
        → ExpandsArguments macros env level invocation (unlimited number) as' (unlimited after) r
    unbudgeted_arguments StandardExpandsArguments.none = in_budget.none
    unbudgeted_arguments (StandardExpandsArguments.too_deep h) = in_budget.too_deep h
    unbudgeted_arguments (StandardExpandsArguments.pre_expanded h one more) = in_budget.pre_expanded h (unbudgeted one).1 (unbudgeted_arguments more)
    unbudgeted_arguments (StandardExpandsArguments.pre_expansion_fault h one) = in_budget.pre_expansion_fault h (unbudgeted one).1

  -- ---- both directions

  without-is : (meter : Meter) → meter.remaining ≡ None → meter ≡ unlimited meter.counter
  without-is meter none = λ i. record { remaining = none i; counter = meter.counter }

  pub list_standard : (level : ℕ) (meter : Meter) (list : List Hiding) (out : Outcome)
      → ExpandsTo macros env level (without_budget meter) list out
      ↔ ((out.meter.remaining ≡ None) × StandardExpands macros env level meter.counter list out.tokens out.fault out.meter.counter)
  list_standard level meter list out = (
    λ d. (remaining_none macros env refl d.1, standard refl d.1),
    λ s. subst (λ m. ExpandsTo macros env level (without_budget meter) list (record out { meter = m })) (sym (without-is out.meter s.0)) (unbudgeted s.1),
  )

  tokens_standard : (meter : Meter) {tokens : List Token} {e : Expansion}
      → IsExpansion macros env (without_budget meter) tokens e
      → IsStandardExpansion macros env meter.counter tokens e.tokens e.fault e.meter.counter
  tokens_standard meter {tokens = tokens} x = record {
    emitted = x.outcome.tokens;
    expands = subst (λ (p : Option Fault × Meter). StandardExpands macros env 0 meter.counter (map unhidden tokens) x.outcome.tokens p.0 p.1.counter) (λ i. (sym x.fault_is i, sym x.meter_is i)) (standard refl x.expands.1);
    is = x.emitted;
  }

  tokens_unbudgeted : (meter : Meter) {tokens : List Token} {e : Expansion}
      → e.meter.remaining ≡ None
      → IsStandardExpansion macros env meter.counter tokens e.tokens e.fault e.meter.counter
      → IsExpansion macros env (without_budget meter) tokens e
  tokens_unbudgeted meter {e = e} none s = record {
    outcome = record { tokens = s.emitted; fault = e.fault; meter = unlimited e.meter.counter };
    expands = unbudgeted s.expands;
    emitted = s.is;
    fault_is = refl;
    meter_is = without-is e.meter none;
  }

  pub expansion_standard : (meter : Meter) (tokens : List Token) (e : Expansion)
      → IsExpansion macros env (without_budget meter) tokens e
      ↔ ((e.meter.remaining ≡ None) × IsStandardExpansion macros env meter.counter tokens e.tokens e.fault e.meter.counter)
  expansion_standard meter tokens e = (
    λ x. (ap (λ m. m.remaining) x.meter_is ∙ remaining_none macros env refl x.expands.1, tokens_standard meter x),
    λ s. tokens_unbudgeted meter s.0 s.1,
  )
