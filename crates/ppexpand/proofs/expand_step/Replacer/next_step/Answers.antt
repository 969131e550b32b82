use Rattle.std.proofs.Common.{◌≡◌, ◌∙◌, true, false, List, [], ◌∷◌, Option, Some, None, sym, ap, subst, refl}
use Rattle.std.proofs.lemmas.Result.{IfOk-weaker}
use Rattle.pptext.proofs.ErrorReturns.{if_settled-weaker, raised}
use Rattle.ppexpand.proofs.StepLemmas.{both_settled}
use Rattle.std.specs.FinSet as set
use Rattle.std.specs.Option.{option_copied}
use Rattle.pptext.specs.Tokens.{is_unmatched_quote}
use Rattle.ppmacro.specs.Names.{Macros}
use Rattle.ppmacro.specs.Hiding.{Hiding}
use Rattle.ppmacro.specs.HideSets.{hide_of, hiding, hidings, AllKnown}
use Rattle.ppmacro.specs.Substituting.{tokens_of}
use Rattle.ppmacro.specs.declared.hidden_token.Hidden.{Hidden}
use Rattle.ppmacro.specs.declared.macros.Macro.{Macro}
use Rattle.ppexpand.specs.declared.env.Env.{Env}
use Rattle.ppexpand.specs.declared.meter.Meter.{Meter}
use Rattle.ppexpand.specs.ExpansionStep.{TokenFault, named_step, macro_step, macro_of, expansion_step, quote_fault}
use Rattle.ppexpand.specs.Budget.{in_budget}
use Rattle.ppexpand.specs.Expansion.{step_in_budget}
use Rattle.ppexpand.specs.code.Lists.{next_macro}
use Rattle.ppexpand.specs.code.ProgramValues.{at_token}
use Rattle.ppexpand.proofs.StepLemmas.{expansion_step-quote, expansion_step-hidden, expansion_step-named, expansion_step-unnamed, done-in_budget, token_fault-in_budget, emits-in_budget}
use Rattle.ppexpand.proofs.StepLemmas.{free-in_budget, exhausted-in_budget}
use Rattle.ppexpand.proofs.StepLemmas.{IsFree, refused_is_free, refused_acts, charged_acts}
use Rattle.ppexpand.proofs.expand_step.Replacer.next_step.Goals as goal

-- the step of a macro's name that is not hidden
named : (macros : Macros) (env : Env) (meter : Meter) (t : Hiding) (rest : List Hiding) (d : Macro) → is_unmatched_quote t.token ≡ false → set.contains t.hide t.token.text ≡ false → macro_of macros t.token ≡ Some d
    → step_in_budget macros env meter (t ∷ rest) ≡ in_budget meter (t ∷ rest) (macro_step env t rest d d.kind)
named macros env meter t rest d quote free found = ap (in_budget meter (t ∷ rest)) (expansion_step-named macros env t rest quote free ∙ ap (named_step env t rest) found)

-- `next_macro` of a list is the macro that its first token names
named_next : {named : Option Macro} (macros : Macros) (h : Hidden) (rest list : List Hidden) → list ≡ h ∷ rest → named ≡ next_macro macros (tokens_of list)
    → macro_of macros h.token ≡ named
named_next macros h rest list is named = ap (λ l. next_macro macros (tokens_of l)) (sym is) ∙ sym named

pub returns-in_default-clause-is : goal.returns-in_default-clause-is
unfolding expansion_step
returns-in_default-clause-is c =
    let macros = c.args.context.now.table.now.macros in
    let env = c.args.context.now.env.now in
    let meter = c.args.meter.now in
    (sym (done-in_budget meter []) ∙ ap (λ l. step_in_budget macros env meter (hidings c.args.self.now.sets l)) (sym c.in_default.ensures.0), refl)

pub returns-then-is_quote-clause-is : goal.returns-then-is_quote-clause-is
returns-then-is_quote-clause-is c =
    let macros = c.args.context.now.table.now.macros in
    let env = c.args.context.now.env.now in
    let meter = c.args.meter.now in
    let s = c.args.self.now.sets in
    let t = hiding s c.in-Some.token in
    let rest = hidings s c.next.new.self in
    let quote : is_unmatched_quote c.in-Some.token.token ≡ true = sym c.is_quote.ensures ∙ c.if-is_quote.true in
    let whole : step_in_budget macros env meter (hidings s c.args.list.now) ≡ TokenFault (quote_fault t.token) =
    ap (λ l. step_in_budget macros env meter (hidings s l)) c.in-Some.ensures
    ∙ ap (in_budget meter (t ∷ rest)) (expansion_step-quote macros env t rest quote)
    ∙ token_fault-in_budget meter (t ∷ rest) (quote_fault t.token) in
    raised _ _ _ c.quote_fault.ensures (at_token whole)

pub returns-then-hides-clause-is : goal.returns-then-hides-clause-is
returns-then-hides-clause-is c =
    let macros = c.args.context.now.table.now.macros in
    let env = c.args.context.now.env.now in
    let meter = c.args.meter.now in
    let s = c.args.self.now.sets in
    let t = hiding s c.in-Some.token in
    let rest = hidings s c.next.new.self in
    let quote : is_unmatched_quote c.in-Some.token.token ≡ false = sym c.is_quote.ensures ∙ c.if-is_quote.false in
    let hidden : set.contains (hide_of s c.in-Some.token) c.in-Some.token.token.text ≡ true = sym c.hides.ensures ∙ c.if-hides.true in
    let whole = sym (ap (in_budget meter (t ∷ rest)) (expansion_step-hidden macros env t rest quote hidden) ∙ emits-in_budget meter (t ∷ rest) t rest)
    ∙ ap (λ l. step_in_budget macros env meter (hidings s l)) (sym c.in-Some.ensures) in
    (whole, refl)

pub returns-in_default-named-clause-is : goal.returns-in_default-named-clause-is
returns-in_default-named-clause-is c =
    let macros = c.args.context.now.table.now.macros in
    let env = c.args.context.now.env.now in
    let meter = c.args.meter.now in
    let s = c.args.self.now.sets in
    let t = hiding s c.in-Some.token in
    let rest = hidings s c.next.new.self in
    let quote : is_unmatched_quote c.in-Some.token.token ≡ false = sym c.is_quote.ensures ∙ c.if-is_quote.false in
    let none : macro_of macros c.in-Some.token.token ≡ None =
    named_next macros _ _ c.args.list.now c.in-Some.ensures c.requires.named ∙ ap option_copied c.in_default-named.is in
    let whole = sym (ap (in_budget meter (t ∷ rest)) (expansion_step-unnamed macros env t rest quote none) ∙ emits-in_budget meter (t ∷ rest) t rest)
    ∙ ap (λ l. step_in_budget macros env meter (hidings s l)) (sym c.in-Some.ensures) in
    (whole, refl)

pub returns-then-is_exhausted-clause-is : goal.returns-then-is_exhausted-clause-is
returns-then-is_exhausted-clause-is c =
    let macros = c.args.context.now.table.now.macros in
    let env = c.args.context.now.env.now in
    let meter = c.args.meter.now in
    let s = c.args.self.now.sets in
    let t = hiding s c.in-Some.token in
    let rest = hidings s c.next.new.self in
    let none = sym c.is_exhausted.ensures ∙ c.if-is_exhausted.true in
    let quote = sym c.is_quote.ensures ∙ c.if-is_quote.false in
    let hidden = sym c.hides.ensures ∙ c.if-hides.false in
    let macro = named_next macros _ _ c.args.list.now c.in-Some.ensures c.requires.named ∙ ap option_copied c.in-Some-named.is in
    let whole = sym (exhausted-in_budget meter (t ∷ rest) _ none)
    ∙ sym (named macros env meter t rest _ quote hidden macro)
    ∙ ap (λ l. step_in_budget macros env meter (hidings s l)) (sym c.in-Some.ensures) in
    let free : IsFree (step_in_budget macros env meter (hidings s c.args.list.now)) = subst IsFree whole (refused_is_free (t ∷ rest) _) in
    if_settled-weaker c.exhausted_step.result _ _ (λ r is. refused_acts s c.exhausted_step.new.list _ meter r free (is s env ∙ whole)) c.exhausted_step.ensures.is

pub returns-then-is_exhausted-clause-known : goal.returns-then-is_exhausted-clause-known
returns-then-is_exhausted-clause-known c =
    let s = c.args.self.now.sets in
    let known : AllKnown s (c.in-Some.token ∷ c.next.new.self) = subst (AllKnown s) c.in-Some.ensures c.requires.known in
    IfOk-weaker c.exhausted_step.result _ _ (λ n all. all s known.each.0 (record { each = known.each.1 })) c.exhausted_step.ensures.known

pub returns-clause-is : goal.returns-clause-is
returns-clause-is c =
    let macros = c.args.context.now.table.now.macros in
    let env = c.args.context.now.env.now in
    let meter = c.args.meter.now in
    let s = c.args.self.now.sets in
    let t = hiding s c.in-Some.token in
    let rest = hidings s c.next.new.self in
    let some = sym c.is_exhausted.ensures ∙ c.if-is_exhausted.false in
    let quote = sym c.is_quote.ensures ∙ c.if-is_quote.false in
    let hidden = sym c.hides.ensures ∙ c.if-hides.false in
    let macro = named_next macros _ _ c.args.list.now c.in-Some.ensures c.requires.named ∙ ap option_copied c.in-Some-named.is in
    let whole = sym (free-in_budget meter (t ∷ rest) _ some)
    ∙ sym (named macros env meter t rest _ quote hidden macro)
    ∙ ap (λ l. step_in_budget macros env meter (hidings s l)) (sym c.in-Some.ensures) in
    let acted = c.macro_step-outcome in
    both_settled acted.result _ _ _ (λ r is charges. charged_acts acted.new.self.sets acted.new.list _ meter c.charge.new.meter r (is ∙ whole) charges)
    acted.ensures.is c.charge.ensures
