use Rattle.std.proofs.Common.{◌≡◌, ◌∙◌, Bool, true, false, ◌&&◌, List, [], ◌∷◌, map, Option, option_copied, Result, Ok, Err, IfOk, refl, sym, ap, true≢false, if◌then◌else◌}
use Rattle.ppmacro.specs.Names.{Name, Macros}
use Rattle.ppmacro.specs.declared.macros.Variadic.{Variadic}
use Rattle.ppmacro.specs.declared.macros.MacroKind.{MacroKind}
use Rattle.ppmacro.specs.declared.macros.MacroKind.TheVariants.{Predefined, Counter, ObjectLike, FunctionLike}
use Rattle.ppmacro.specs.HideSetPool.{HideSetPool}
use Rattle.ppmacro.specs.HideSets.{hidings}
use Rattle.ppmacro.specs.Substituting.{tokens_of}
use Rattle.ppmacro.specs.Chains.{is_function_like}
use Rattle.ppmacro.specs.declared.hidden_token.Hidden.{Hidden}
use Rattle.ppmacro.specs.declared.macros.Macro.{Macro}
use Rattle.ppmacro.proofs.JoinLemmas.{tokens-in}
use Rattle.ppexpand.specs.Budget.{is_exhausted}
use Rattle.ppexpand.specs.OpenInvocations.{names_function_like, begins_open, open_tokens}
use Rattle.ppexpand.specs.code.Lists.{next_macro}
use Rattle.ppexpand.specs.code.OpenSearch.{opens_after_name}
use Rattle.ppexpand.proofs.open_invocations.copy_open_invocation.Goals as goal
use Rattle.ppexpand.proofs.open_invocations.copy_open_invocation.Goals.{in-FunctionLike, in_default-matches}

never_both : (b : Bool) → false ≡ (b && false)
never_both true = refl
never_both false = refl

-- a list begins with an open invocation, by the macro that its first token names
by_named : (macros : Macros) (sets : HideSetPool) (list : List Hidden) (named : Option Macro) → named ≡ next_macro macros (tokens_of list)
    → begins_open macros (hidings sets list) ≡ (names_function_like named && opens_after_name (hidings sets list))
by_named macros sets [] named h = never_both (names_function_like named)
by_named macros sets (x ∷ xs) named h = ap (λ o. names_function_like o && opens_after_name (hidings sets (x ∷ xs))) (sym h)

none_open : (macros : Macros) (sets : HideSetPool) (list : List Hidden) (named : Option Macro) (exhausted : Bool) → named ≡ next_macro macros (tokens_of list)
    → names_function_like named ≡ false
    → [] ≡ (if exhausted then [] else open_tokens macros (hidings sets list))
none_open macros sets list named true h other = refl
none_open macros sets list named false h other =
    sym (ap (λ b. if b then map (λ t. t.token) (hidings sets list) else []) (by_named macros sets list named h ∙ ap (λ b. b && opens_after_name (hidings sets list)) other))

some_open : (macros : Macros) (sets : HideSetPool) (list copy : List Hidden) (named : Option Macro) (exhausted : Bool) → named ≡ next_macro macros (tokens_of list)
    → names_function_like named ≡ true
    → exhausted ≡ false
    → copy ≡ (if opens_after_name (hidings sets list) then list else [])
    → tokens_of copy ≡ (if exhausted then [] else open_tokens macros (hidings sets list))
some_open macros sets list copy named exhausted h function_like remains is =
    ap tokens_of is
    ∙ chosen (opens_after_name (hidings sets list))
    ∙ sym (ap (λ b. if b then map (λ t. t.token) (hidings sets list) else []) (by_named macros sets list named h ∙ ap (λ b. b && opens_after_name (hidings sets list)) function_like))
    ∙ (λ i. if (sym remains i) then [] else open_tokens macros (hidings sets list))
  where
    chosen : (b : Bool) → tokens_of (if b then list else []) ≡ (if b then map (λ t. t.token) (hidings sets list) else [])
    chosen true = tokens-in sets list
    chosen false = refl

unlike : (kind : MacroKind) → ((names : List Name) (variadic : Variadic) → kind ≡ FunctionLike names variadic → ⊥) → is_function_like kind ≡ false
unlike (Predefined b) h = refl
unlike Counter h = refl
unlike ObjectLike h = refl
unlike (FunctionLike names variadic) h = absurd (h names variadic refl)

if_copied : {E : Type 0} {A : Type 0} (r : Result A E) (P Q : A → Type 0) → ((a : A) → P a → Q a) → IfOk r P → IfOk r Q
if_copied (Ok a) P Q more h = more a h
if_copied (Err e) P Q more h = tt

pub returns-in_default-clause-is : goal.returns-in_default-clause-is
returns-in_default-clause-is c = λ looked macros named.
    ap tokens_of c.new-in_default.ensures.items ∙ none_open macros c.args.sets.now c.args.list.now (option_copied c.args.named) (is_exhausted c.args.meter) named (ap (λ o. names_function_like (option_copied o)) c.in_default.is)

pub returns-then-not-matches-clause-is : goal.returns-then-not-matches-clause-is
returns-then-not-matches-clause-is c =
    let other : is_function_like c.in-Some.definition.now.kind ≡ false = elim c.match-matches.branch [
      | in-FunctionLike w ↦ absurd (true≢false (sym w.matches-is ∙ c.if-not-matches.true))
      | in_default-matches w ↦ ap is_function_like (sym c.kind.ensures) ∙ unlike c.kind.result.now w.in_default-matches.not-FunctionLike
    ] in
    λ looked macros named.
    ap tokens_of c.new-then-not-matches.ensures.items
    ∙ none_open macros c.args.sets.now c.args.list.now (option_copied c.args.named) (is_exhausted c.args.meter) named (ap (λ o. names_function_like (option_copied o)) c.in-Some.is ∙ other)

pub returns-clause-is : goal.returns-clause-is
returns-clause-is c =
    let function_like : is_function_like c.in-Some.definition.now.kind ≡ true = elim c.match-matches.branch [
      | in-FunctionLike w ↦ ap is_function_like (sym c.kind.ensures ∙ w.in-FunctionLike.is)
      | in_default-matches w ↦ absurd (true≢false (sym c.if-not-matches.false ∙ w.matches-is))
    ] in
    if_copied c.copy_if_open.result _ _ (λ copy is looked macros named.
    some_open macros c.args.sets.now c.args.list.now copy.items (option_copied c.args.named) (is_exhausted c.args.meter) named (ap (λ o. names_function_like (option_copied o)) c.in-Some.is ∙ function_like)
    (sym c.is_exhausted.ensures ∙ c.if-is_exhausted.false) is) c.copy_if_open.ensures.is
