use Rattle.std.proofs.Common.{◌≡◌, ◌∙◌, ℕ, Bool, true, false, ◌&&◌, List, ◌++◌, map, Some, None, is_some, refl, sym, ap}
use Rattle.pptext.specs.declared.tokens.Token.{Token}
use Rattle.ppmacro.specs.Names.{Macros}
use Rattle.ppmacro.specs.Substitution.{unhidden}
use Rattle.ppexpand.specs.OpenInvocations.{names_function_like, begins_open}
use Rattle.ppexpand.specs.code.Lists.{next_macro}
use Rattle.ppexpand.specs.code.OpenSearch.{depth_after_all, open_depth}
use Rattle.ppexpand.proofs.WaitingLists.{begins_open_is, open_append, same_name}
use Rattle.ppexpand.proofs.waiting_tokens.WaitingTokens.append_if_open.Goals as goal

never_both : (b : Bool) → (b && false) ≡ false
never_both true = refl
never_both false = refl

module _ (macros : Macros) (tokens more : List Token) where
  abbrev Opens : List Token → Bool
  Opens ts = begins_open macros (map unhidden ts)

  -- a list that isn't open has no depth
  closed : (ts : List Token) → open_depth ts ≡ None → Opens ts ≡ false
  closed ts h = begins_open_is macros ts ∙ ap (λ o. names_function_like (next_macro macros ts) && is_some o) h ∙ never_both (names_function_like (next_macro macros ts))

  opened : (ts : List Token) (d : ℕ) → names_function_like (next_macro macros ts) ≡ true → open_depth ts ≡ Some d → Opens ts ≡ true
  opened ts d named h = begins_open_is macros ts ∙ (λ i. named i && is_some (h i))

  closed_before : open_depth tokens ≡ None → false ≡ (Opens tokens && Opens (tokens ++ more))
  closed_before h = ap (λ b. b && Opens (tokens ++ more)) (sym (closed tokens h))

  closed_after : (start : ℕ) → open_depth tokens ≡ Some start → depth_after_all start more ≡ None → false ≡ (Opens tokens && Opens (tokens ++ more))
  closed_after start h ends = sym (ap (λ b. Opens tokens && b) (closed (tokens ++ more) (open_append tokens more start h ∙ ends)) ∙ never_both (Opens tokens))

  stays_open : (start depth : ℕ) → names_function_like (next_macro macros tokens) ≡ true → open_depth tokens ≡ Some start → depth_after_all start more ≡ Some depth → true ≡ (Opens tokens && Opens (tokens ++ more))
  stays_open start depth named h goes_on =
      let later = opened (tokens ++ more) depth (ap names_function_like (same_name macros tokens more start h) ∙ named) (open_append tokens more start h ∙ goes_on) in
      λ i. sym (opened tokens start named h) i && sym later i

pub returns-in_default-clause-is : goal.returns-in_default-clause-is
returns-in_default-clause-is c = closed_before c.args.table.now.macros c.args.self.now c.args.tokens.now (sym c.in_default.ensures.is)

pub returns-in_default-depth_after_all-clause-is : goal.returns-in_default-depth_after_all-clause-is
returns-in_default-depth_after_all-clause-is c =
    closed_after c.args.table.now.macros c.args.self.now c.args.tokens.now c.in-Some.start (sym c.in-Some.ensures.is) (sym c.in_default-depth_after_all.ensures)

pub append-requires : goal.append-requires
append-requires c = c.in-Some-depth_after_all.ensures ∙ sym (open_append c.args.self.now c.args.tokens.now c.in-Some.start (sym c.in-Some.ensures.is))

pub returns-clause-is : goal.returns-clause-is
returns-clause-is c =
    stays_open c.args.table.now.macros c.args.self.now c.args.tokens.now c.in-Some.start c.in-Some-depth_after_all.depth
    (sym c.names_function_like.ensures ∙ c.if-not-names_function_like.false) (sym c.in-Some.ensures.is) (sym c.in-Some-depth_after_all.ensures)
