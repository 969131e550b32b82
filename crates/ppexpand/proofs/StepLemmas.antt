-- The expansion step of a list by its next token.
use Rattle.std.proofs.Common.{◌≡◌, true, false, List, [], ◌∷◌, None, Result, Ok, Err, refl, sym, ap, ◌∙◌, subst, if◌then◌else◌}
use Rattle.std.specs.FinSet as set
use Rattle.ppmacro.specs.Names.{Macros}
use Rattle.ppmacro.specs.Hiding.{Hiding}
use Rattle.ppmacro.specs.HideSetPool.{HideSetPool}
use Rattle.ppmacro.specs.declared.hidden_token.Hidden.{Hidden}
use Rattle.pptext.specs.declared.tokens.Fault.{Fault}
use Rattle.pptext.specs.declared.error.Error.{Error}
use Rattle.pptext.specs.declared.error.Error.TheVariants.{Fault as Faulted, Memory as OutOfMemory}
use Rattle.pptext.specs.Errors.{UnlessOutOfMemory}
use Rattle.pptext.specs.Tokens.{is_unmatched_quote}
use Rattle.ppexpand.specs.declared.env.Env.{Env}
use Rattle.ppexpand.specs.declared.meter.Meter.{Meter}
use Rattle.ppexpand.specs.declared.expand_step.Action.{Action}
use Rattle.ppexpand.specs.declared.expand_step.Action.TheVariants as action
use Rattle.ppexpand.specs.ExpansionStep.{Done, TokenFault, Emits, ReplacementFault, Replaced, Invoked, quote_fault, named_step, ExpansionStep, macro_of, expansion_step, Counts}
use Rattle.ppexpand.specs.Budget.{exhausted_step, refused, in_budget, is_exhausted}
use Rattle.ppexpand.specs.code.ProgramValues.{named_in, refused_in, charged_in, HasFailed, at_token, in_replacement, HasActed}

pub expansion_step-quote : (macros : Macros) (env : Env) (t : Hiding) (rest : List Hiding) → is_unmatched_quote t.token ≡ true → expansion_step macros env (t ∷ rest) ≡ TokenFault (quote_fault t.token)
unfolding expansion_step
expansion_step-quote macros env t rest h = rw h refl

pub expansion_step-hidden : (macros : Macros) (env : Env) (t : Hiding) (rest : List Hiding)
    → is_unmatched_quote t.token ≡ false
    → set.contains t.hide t.token.text ≡ true
    → expansion_step macros env (t ∷ rest) ≡ Emits t rest
unfolding expansion_step
expansion_step-hidden macros env t rest h k = rw (h, k) refl

pub expansion_step-named : (macros : Macros) (env : Env) (t : Hiding) (rest : List Hiding)
    → is_unmatched_quote t.token ≡ false
    → set.contains t.hide t.token.text ≡ false
    → expansion_step macros env (t ∷ rest) ≡ named_step env t rest (macro_of macros t.token)
unfolding expansion_step
expansion_step-named macros env t rest h k = rw (h, k) refl

-- a token that names no macro is emitted, whatever its hide set is
pub expansion_step-unnamed : (macros : Macros) (env : Env) (t : Hiding) (rest : List Hiding) → is_unmatched_quote t.token ≡ false → macro_of macros t.token ≡ None → expansion_step macros env (t ∷ rest) ≡ Emits t rest
expansion_step-unnamed macros env t rest quote none = elim (set.contains t.hide t.token.text) as (λ b. set.contains t.hide t.token.text ≡ b → expansion_step macros env (t ∷ rest) ≡ Emits t rest) [
  | true ↦ λ k. expansion_step-hidden macros env t rest quote k
  | false ↦ λ k. expansion_step-named macros env t rest quote k ∙ ap (named_step env t rest) none
] refl

-- ---- a step within a budget

-- a step that costs nothing
abbrev pub IsFree : ExpansionStep → Type 0
IsFree Done = Unit {0}
IsFree (TokenFault f) = Unit {0}
IsFree (Emits t rest) = Unit {0}
IsFree _ = ⊥

over_is_free : (list : List Hiding) → IsFree (exhausted_step list)
over_is_free [] = tt
over_is_free (t ∷ rest) = tt

pub refused_is_free : (list : List Hiding) (t : ExpansionStep) → IsFree (refused list t)
refused_is_free list Done = tt
refused_is_free list (TokenFault f) = tt
refused_is_free list (Emits t rest) = tt
refused_is_free list (ReplacementFault f) = over_is_free list
refused_is_free list (Replaced next) = over_is_free list
refused_is_free list (Counts t rest) = over_is_free list
refused_is_free list (Invoked invocation) = over_is_free list

-- A budget does not change a step that is the same if the budget is exhausted.
pub unrefused-in_budget : (meter : Meter) (list : List Hiding) (t : ExpansionStep) → refused list t ≡ t → in_budget meter list t ≡ t
unrefused-in_budget meter list t same = elim (is_exhausted meter) as (λ b. (if b then refused list t else t) ≡ t) [ true ↦ same | false ↦ refl ]

pub done-in_budget : (meter : Meter) (list : List Hiding) → in_budget meter list Done ≡ Done
done-in_budget meter list = unrefused-in_budget meter list Done refl

pub token_fault-in_budget : (meter : Meter) (list : List Hiding) (f : Fault) → in_budget meter list (TokenFault f) ≡ TokenFault f
token_fault-in_budget meter list f = unrefused-in_budget meter list (TokenFault f) refl

pub emits-in_budget : (meter : Meter) (list : List Hiding) (t : Hiding) (rest : List Hiding) → in_budget meter list (Emits t rest) ≡ Emits t rest
emits-in_budget meter list t rest = unrefused-in_budget meter list (Emits t rest) refl

pub free-in_budget : (meter : Meter) (list : List Hiding) (t : ExpansionStep) → is_exhausted meter ≡ false → in_budget meter list t ≡ t
free-in_budget meter list t h = ap (λ b. if b then refused list t else t) h

pub exhausted-in_budget : (meter : Meter) (list : List Hiding) (t : ExpansionStep) → is_exhausted meter ≡ true → in_budget meter list t ≡ refused list t
exhausted-in_budget meter list t h = ap (λ b. if b then refused list t else t) h

-- ---- the action for the next token

-- The step of a name that is refused costs nothing.
pub refused_acts : (sets : HideSetPool) (list : List Hidden) (step : ExpansionStep) (meter : Meter) (r : Result Action Fault)
    → IsFree step
    → refused_in sets list r ≡ step
    → HasActed sets list step meter r meter
refused_acts sets list step meter (Err f) free e = at_token (sym e)
refused_acts sets list step meter (Ok action.Done) free e = (e, refl)
refused_acts sets list step meter (Ok (action.Emits token)) free e = (e, refl)
refused_acts sets list step meter (Ok action.Replaced) free e = absurd (subst IsFree (sym e) free)
refused_acts sets list step meter (Ok (action.Counts token)) free e = absurd (subst IsFree (sym e) free)
refused_acts sets list step meter (Ok (action.Invoked c)) free e = absurd (subst IsFree (sym e) free)

-- The step of a name that is not refused is charged.
pub charged_acts : (sets : HideSetPool) (list : List Hidden) (step : ExpansionStep) (meter meter_after : Meter) (r : Result Action Fault)
    → named_in sets list r ≡ step
    → meter_after ≡ charged_in r meter
    → HasActed sets list step meter r meter_after
charged_acts sets list step meter meter_after (Ok a) e charges = (e, charges)
charged_acts sets list step meter meter_after (Err f) e charges = subst (HasFailed step meter f) (sym charges) (in_replacement (sym e))

-- two properties of an outcome imply a third
pub both_settled : {A : Type 0} (r : Result A Error) (P Q R : Result A Fault → Type 0)
    → ((x : Result A Fault) → P x → Q x → R x)
    → UnlessOutOfMemory r P
    → UnlessOutOfMemory r Q
    → UnlessOutOfMemory r R
both_settled (Ok a) P Q R more p q = more (Ok a) p q
both_settled (Err (Faulted f)) P Q R more p q = more (Err f) p q
both_settled (Err OutOfMemory) P Q R more p q = tt
