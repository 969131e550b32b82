-- A token that is emitted is fully expanded.
use Rattle.std.proofs.Common.{◌≡◌, ℕ, true, false, not, List, [], ◌∷◌, Option, Some, None, Result, Ok, Err, if◌then◌else◌, refl, ap, ◌∙◌, subst}
use Rattle.std.proofs.lemmas.Bool.{or_right}
use Rattle.std.proofs.lemmas.List.Elements.{All-cons, All-nil}
use Rattle.std.specs.List.{AllPass}
use Rattle.std.specs.FinSet as set
use Rattle.pptext.specs.declared.tokens.Fault.{Fault}
use Rattle.pptext.specs.Tokens.{is_unmatched_quote}
use Rattle.ppmacro.specs.Names.{Name, Macros}
use Rattle.ppmacro.specs.Hiding.{Hiding}
use Rattle.ppmacro.specs.Chains.{is_function_like}
use Rattle.ppmacro.specs.Substitution.{Replacement}
use Rattle.ppmacro.specs.declared.macros.Macro.{Macro}
use Rattle.ppmacro.specs.declared.macros.Variadic.{Variadic}
use Rattle.ppmacro.specs.declared.macros.MacroKind.{MacroKind}
use Rattle.ppmacro.specs.declared.macros.MacroKind.TheVariants.{Predefined, ObjectLike, FunctionLike, Counter}
use Rattle.ppexpand.specs.declared.env.Env.{Env}
use Rattle.ppexpand.specs.declared.meter.Meter.{Meter}
use Rattle.ppexpand.specs.Arguments.{is_open, Gathered, Closed, UnmatchedQuote, Unclosed, gather, separators, fit_arguments}
use Rattle.ppexpand.specs.ExpansionStep.{ExpansionStep, Done, TokenFault, Emits, ReplacementFault, Replaced, Invoked, expansion_step, macro_of, quote_fault, named_step, macro_step, function_step, Counts}
use Rattle.ppexpand.specs.ExpansionStep.{invocation_step, closed_invocation_step, replaced_by}
use Rattle.ppexpand.specs.Budget.{is_exhausted, exhausted_step, refused, in_budget}
use Rattle.ppexpand.specs.Expansion.{Outcome, Expands, done, token_fault, emits, replacement_fault, replaced, argument_fault, invocation_fault, invocation_replaced, counts}
use Rattle.ppexpand.specs.Laws.{is_fully_expanded, is_always_replaced}

module _ (macros : Macros) (env : Env) where
  -- the token that is emitted, if any, is fully expanded
  abbrev Settles : ExpansionStep → Type 0
  Settles (Emits t rest) = is_fully_expanded macros t ≡ true
  Settles _ = Unit {0}

  -- A token is fully expanded if it is no unmatched quote and names no object-like or predefined macro.
  by_name : (t : Hiding) → is_unmatched_quote t.token ≡ false → is_always_replaced (macro_of macros t.token) ≡ false → is_fully_expanded macros t ≡ true
  by_name t unquoted spared = rw (unquoted, spared) (or_right (set.contains t.hide t.token.text) true refl)

  replaced_settles : (r : Result Replacement Fault) (rest : List Hiding) → Settles (replaced_by r rest)
  replaced_settles (Ok m) rest = tt
  replaced_settles (Err f) rest = tt

  invoked_settles : (t : Hiding) (d : Macro) (names : List Name) (variadic : Variadic) (g : Gathered) → Settles (invocation_step t d names variadic g)
  invoked_settles t d names variadic (Closed as' close following) = by_count (fit_arguments names variadic as')
    where
      by_count : (o : Option (List (List Hiding))) → Settles (closed_invocation_step t d o close following)
      by_count (Some bs) = tt
      by_count None = tt
  invoked_settles t d names variadic (UnmatchedQuote q) = tt
  invoked_settles t d names variadic Unclosed = tt

  function_settles : (t : Hiding) (rest : List Hiding) (d : Macro) (names : List Name) (variadic : Variadic) → is_fully_expanded macros t ≡ true → Settles (function_step t d names variadic rest)
  function_settles t [] d names variadic hide_set_of = hide_set_of
  function_settles t (p ∷ rest) d names variadic hide_set_of =
      elim (is_open p.token) as (λ b. Settles (if b then invocation_step t d names variadic (gather 0 (separators names variadic) rest) else Emits t (p ∷ rest))) [
        | true ↦ invoked_settles t d names variadic _
        | false ↦ hide_set_of
      ]

  macro_settles : (t : Hiding) (rest : List Hiding) (d : Macro) (kind : MacroKind) → (is_function_like kind ≡ true → is_fully_expanded macros t ≡ true) → Settles (macro_step env t rest d kind)
  macro_settles t rest d (Predefined b) hide_set_of = tt
  macro_settles t rest d Counter hide_set_of = tt
  macro_settles t rest d ObjectLike hide_set_of = replaced_settles _ rest
  macro_settles t rest d (FunctionLike names variadic) hide_set_of = function_settles t rest d names variadic (hide_set_of refl)

  named_settles : (t : Hiding) (rest : List Hiding) → is_unmatched_quote t.token ≡ false → (o : Option Macro) → macro_of macros t.token ≡ o → Settles (named_step env t rest o)
  named_settles t rest unquoted None is = by_name t unquoted (ap is_always_replaced is)
  named_settles t rest unquoted (Some d) is = macro_settles t rest d d.kind (λ function. by_name t unquoted (ap is_always_replaced is ∙ ap not function))

  turn_settles : (list : List Hiding) → Settles (expansion_step macros env list)
  unfolding expansion_step
  turn_settles [] = tt
  turn_settles (t ∷ rest) =
      elim (is_unmatched_quote t.token) as (λ b. is_unmatched_quote t.token ≡ b → Settles (if b then TokenFault (quote_fault t.token) else (if set.contains t.hide t.token.text then Emits t rest else named_step env t rest (macro_of macros t.token)))) [
        | true ↦ λ _. tt
        | false ↦ λ unquoted. elim (set.contains t.hide t.token.text) as (λ b. set.contains t.hide t.token.text ≡ b → Settles (if b then Emits t rest else named_step env t rest (macro_of macros t.token))) [
          | true ↦ λ hidden. rw (unquoted, hidden) refl
          | false ↦ λ _. named_settles t rest unquoted (macro_of macros t.token) refl
        ] refl
      ] refl

  over_settles : (list : List Hiding) → Settles (exhausted_step list)
  over_settles [] = tt
  over_settles (t ∷ rest) = tt

  refused_settles : (list : List Hiding) (t : ExpansionStep) → Settles t → Settles (refused list t)
  refused_settles list Done h = h
  refused_settles list (TokenFault f) h = h
  refused_settles list (Emits t rest) h = h
  refused_settles list (ReplacementFault f) h = over_settles list
  refused_settles list (Replaced next) h = over_settles list
  refused_settles list (Counts t rest) h = over_settles list
  refused_settles list (Invoked invocation) h = over_settles list

  within_settles : (meter : Meter) (list : List Hiding) (t : ExpansionStep) → Settles t → Settles (in_budget meter list t)
  within_settles meter list t h = elim (is_exhausted meter) as (λ b. Settles (if b then refused list t else t)) [ true ↦ refused_settles list t h | false ↦ h ]

  pub all_settled : {level n : ℕ} {meter : Meter} {list : List Hiding} {out : Outcome} → Expands macros env level meter n list out → AllPass (is_fully_expanded macros) out.tokens
  all_settled (done e) = All-nil (λ x. is_fully_expanded macros x ≡ true)
  all_settled (token_fault e) = All-nil (λ x. is_fully_expanded macros x ≡ true)
  all_settled (emits {meter = meter} {list = list} {t = t} {rest = rest} {out = out} e d) =
      let hide_set_of : Settles (Emits t rest) = subst (λ x. Settles x) e (within_settles meter list (expansion_step macros env list) (turn_settles list)) in
      All-cons (λ x. is_fully_expanded macros x ≡ true) t out.tokens hide_set_of (all_settled d)
  all_settled (replacement_fault e) = All-nil (λ x. is_fully_expanded macros x ≡ true)
  all_settled (replaced e d) = all_settled d
  all_settled (counts e d) = all_settled d
  all_settled (argument_fault e a) = All-nil (λ x. is_fully_expanded macros x ≡ true)
  all_settled (invocation_fault e a f) = All-nil (λ x. is_fully_expanded macros x ≡ true)
  all_settled (invocation_replaced e a f d) = all_settled d
