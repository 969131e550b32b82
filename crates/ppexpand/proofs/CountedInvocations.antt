-- The expansion of a list that begins with an invocation counts this invocation.
use Rattle.std.proofs.Common.{◌≡◌, ℕ, ◌≤◌, true, false, List, ◌∷◌, map, Option, Some, None, sym, ap, ◌∙◌, subst, arith, true≢false, if◌then◌else◌}
use Rattle.std.specs.FinSet as set
use Rattle.std.specs.Ordering.{nat_cmp}
use Rattle.std.specs.Cmp.Lexicographic.{slice_cmp}
use Rattle.pptext.specs.declared.tokens.Token.{Token}
use Rattle.ppmacro.specs.Names.{Name, Macros}
use Rattle.ppmacro.specs.Hiding.{Hiding}
use Rattle.ppmacro.specs.Chains.{is_function_like}
use Rattle.ppmacro.specs.Substitution.{unhidden}
use Rattle.ppmacro.specs.declared.macros.Variadic.{Variadic}
use Rattle.ppmacro.specs.declared.macros.MacroKind.{MacroKind}
use Rattle.ppmacro.specs.declared.macros.MacroKind.TheVariants.{Predefined, Counter, ObjectLike, FunctionLike}
use Rattle.ppmacro.specs.declared.macros.Macro.{Macro}
use Rattle.ppexpand.specs.declared.env.Env.{Env}
use Rattle.ppexpand.specs.declared.meter.Meter.{Meter}
use Rattle.ppexpand.specs.Arguments.{is_open, Gathered, Closed, UnmatchedQuote, Unclosed, gather, separators, fit_arguments}
use Rattle.ppexpand.specs.ExpansionStep.{ExpansionStep, Done, TokenFault, Emits, ReplacementFault, Replaced, Counts, Invoked, closed_invocation_step, invocation_step, macro_step, named_step, macro_of}
use Rattle.ppexpand.specs.Budget.{in_budget, is_exhausted}
use Rattle.ppexpand.specs.Expansion.{Outcome, step_in_budget, Expands, done, token_fault, emits, replacement_fault, replaced, argument_fault, invocation_fault, invocation_replaced, counts, count, count_expansion, IsExpansion, Expansion}
use Rattle.ppexpand.proofs.LoneSteps.{named_unquoted}
use Rattle.ppexpand.proofs.StepLemmas.{expansion_step-named, free-in_budget}

-- a step that counts one
abbrev IsCounted : ExpansionStep → Type 0
IsCounted Done = ⊥
IsCounted (TokenFault f) = ⊥
IsCounted (Emits t rest) = ⊥
IsCounted (ReplacementFault f) = Unit {0}
IsCounted (Replaced next) = Unit {0}
IsCounted (Counts t rest) = Unit {0}
IsCounted (Invoked invocation) = Unit {0}

counted_closed : (t : Hiding) (d : Macro) (as' : Option (List (List Hiding))) (close : Hiding) (following : List Hiding) → IsCounted (closed_invocation_step t d as' close following)
counted_closed t d (Some as') close following = tt
counted_closed t d None close following = tt

counted_invocation : (t : Hiding) (d : Macro) (names : List Name) (variadic : Variadic) (g : Gathered) → IsCounted (invocation_step t d names variadic g)
counted_invocation t d names variadic (Closed as' close following) = counted_closed t d (fit_arguments names variadic as') close following
counted_invocation t d names variadic (UnmatchedQuote q) = tt
counted_invocation t d names variadic Unclosed = tt

counted_macro : (env : Env) (t : Hiding) (d : Macro) (kind : MacroKind) (p : Hiding) (rest : List Hiding) → is_function_like kind ≡ true → is_open p.token ≡ true → IsCounted (macro_step env t (p ∷ rest) d kind)
counted_macro env t d (Predefined b) p rest h opens = absurd (true≢false (sym h))
counted_macro env t d Counter p rest h opens = absurd (true≢false (sym h))
counted_macro env t d ObjectLike p rest h opens = absurd (true≢false (sym h))
counted_macro env t d (FunctionLike names variadic) p rest h opens =
    subst IsCounted (λ i. if (sym opens i) then invocation_step t d names variadic (gather 0 (separators names variadic) rest) else Emits t (p ∷ rest))
    (counted_invocation t d names variadic (gather 0 (separators names variadic) rest))

module _ (macros : Macros) (env : Env) where
  counted_step : (meter : Meter) (t p : Hiding) (rest : List Hiding) (d : Macro)
      → macro_of macros t.token ≡ Some d
      → is_function_like d.kind ≡ true
      → is_open p.token ≡ true
      → set.contains t.hide t.token.text ≡ false
      → is_exhausted meter ≡ false
      → IsCounted (step_in_budget macros env meter (t ∷ (p ∷ rest)))
  counted_step meter t p rest d named function_like opens free remains =
      let step = ap (in_budget meter (t ∷ (p ∷ rest))) (expansion_step-named macros env t (p ∷ rest) (named_unquoted macros t.token d named) free ∙ ap (named_step env t (p ∷ rest)) named) ∙ free-in_budget meter (t ∷ (p ∷ rest)) _ remains in
      subst IsCounted (sym step) (counted_macro env t d d.kind p rest function_like opens)

  counts_one : {level n : ℕ} {meter : Meter} {list : List Hiding} {out : Outcome} (d : Expands macros env level meter n list out) → IsCounted (step_in_budget macros env meter list) → 1 ≤ count macros env d
  counts_one (done e) h = absurd (subst IsCounted e h)
  counts_one (token_fault e) h = absurd (subst IsCounted e h)
  counts_one (emits e more) h = absurd (subst IsCounted e h)
  counts_one (replacement_fault e) h = omega arith
  counts_one (replaced e more) h = omega arith
  counts_one (counts e more) h = omega arith
  counts_one (argument_fault e a) h = omega arith
  counts_one (invocation_fault e a f) h = omega arith
  counts_one (invocation_replaced e a f more) h = omega arith

  -- The expansion of a function-like macro's name, `(` and more tokens replaces something, unless the budget is exhausted.
  pub counts_invocation : (meter : Meter) (t p : Token) (rest : List Token) (e : Expansion) (d : Macro)
      → macro_of macros t ≡ Some d
      → is_function_like d.kind ≡ true
      → is_open p ≡ true
      → is_exhausted meter ≡ false
      → (x : IsExpansion macros env meter (t ∷ (p ∷ rest)) e)
      → 1 ≤ count_expansion x
  counts_invocation meter t p rest e d named function_like opens remains x =
      counts_one x.expands.1 (counted_step meter (unhidden t) (unhidden p) (map unhidden rest) d named function_like opens (set.contains-empty (slice_cmp nat_cmp) t.text) remains)
