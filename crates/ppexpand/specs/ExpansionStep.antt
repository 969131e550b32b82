-- The expansion step of a list: the rules of macro replacement (6.10.3, 6.10.3.1, 6.10.3.4), by cases on whole
-- lists whose tokens have hide sets.
use Rattle.std.specs.Prelude.{ℕ, ℤ, pos, ◌+ℤ◌, nat_abs, decimal, Bool, true, false, List, [], ◌∷◌, ◌++◌, map, length, replicate, slice_set, Option, Some, None, Result, Ok}
use Rattle.std.specs.Prelude.{Err, codes, if◌then◌else◌}
use Rattle.std.specs.FinSet as set
use Rattle.std.specs.FinMap as table
use Rattle.pptext.specs.declared.tokens.Token.{Token}
use Rattle.pptext.specs.declared.tokens.Fault.{Fault}
use Rattle.pptext.specs.declared.tokens.Place.{Place}
use Rattle.pptext.specs.declared.tokens.Kind.{Kind}
use Rattle.pptext.specs.declared.tokens.Kind.TheVariants.{Number, Str as StringLiteral}
use Rattle.pptext.specs.Tokens.{is_identifier, is_unmatched_quote, fault}
use Rattle.ppmacro.specs.Names.{Name, HideSet, Macros}
use Rattle.ppmacro.specs.Hiding.{Hiding}
use Rattle.ppmacro.specs.Chains.{parameter_names}
use Rattle.ppmacro.specs.PreExpansion.{expansion_order}
use Rattle.ppmacro.specs.Substitution.{Arguments, argument_at, Replacement, with_space, macro_replacement}
use Rattle.ppmacro.specs.declared.macros.PredefinedMacro.{PredefinedMacro}
use Rattle.ppmacro.specs.declared.macros.PredefinedMacro.TheVariants.{File, Line, Date, Time, Stdc, StdcHosted, StdcVersion}
use Rattle.ppmacro.specs.declared.macros.Variadic.{Variadic}
use Rattle.ppmacro.specs.declared.macros.MacroKind.{MacroKind}
use Rattle.ppmacro.specs.declared.macros.MacroKind.TheVariants.{Predefined, Counter, ObjectLike, FunctionLike}
use Rattle.ppmacro.specs.declared.macros.Macro.{Macro}
use Rattle.ppexpand.specs.declared.env.Env.{Env}
use Rattle.ppexpand.specs.Arguments.{is_open, Gathered, Closed, UnmatchedQuote, Unclosed, gather, separators, fit_arguments}

-- ---- the predefined names (6.10.8.1)

-- the presumed line number of a location
abbrev pub presumed_line : Env → Place → ℤ
presumed_line env place = pos place.line +ℤ env.shift

abbrev pub string_literal : List ℕ → List ℕ
string_literal text = 34 ∷ (text ++ 34 ∷ [])

abbrev pub predefined_kind : PredefinedMacro → Kind
predefined_kind File = StringLiteral
predefined_kind Date = StringLiteral
predefined_kind Time = StringLiteral
predefined_kind _ = Number

-- the spelling of the replacement; the location is the expansion location of the name, and `env.name` is a string literal already
abbrev pub predefined_text : PredefinedMacro → Env → Place → List ℕ
predefined_text File env used = env.name
predefined_text Line env used = decimal (nat_abs (presumed_line env used))
predefined_text Date env used = string_literal env.date
predefined_text Time env used = string_literal env.time
predefined_text Stdc env used = codes "1"
predefined_text StdcHosted env used = codes "1"
predefined_text StdcVersion env used = codes "201112L"

-- the token that replaces a predefined name; it has the locations and the leading-space flag of the name
abbrev pub predefined_value : PredefinedMacro → Env → Hiding → HideSet → Hiding
predefined_value b env t names_to_hide = record {
  token = record { kind = predefined_kind b; text = predefined_text b env t.token.used; space = t.token.space; at = t.token.at; used = t.token.used };
  hide = names_to_hide;
}

-- ---- the counter (gcc's manual, "Common Predefined Macros")

-- the token that replaces `__COUNTER__` if this is the number; it has the locations and the leading-space flag of the name
abbrev pub counter_value : ℕ → Hiding → Hiding
counter_value number t = record {
  token = record { kind = Number; text = decimal number; space = t.token.space; at = t.token.at; used = t.token.used };
  hide = set.insert t.hide t.token.text;
}

-- ---- expansion steps

-- an invocation of a function-like macro: the macro name token, the macro, one argument for each parameter (none for an
-- absent variable argument), the names that are added to the hide sets of the replacement, and the tokens after the
-- matching `)`
pub record Invocation : Type 0 where
  pub name_token : Hiding
  pub macro : Macro
  pub arguments : List (List Hiding)
  pub names_to_hide : HideSet
  pub following : List Hiding

-- what one step does with the first token of a list
pub data ExpansionStep : Type 0 where
  -- the list is empty
  Done : ExpansionStep
  -- a fault that takes nothing from the budget: the token is an unmatched quote, or the budget is exhausted
  TokenFault : Fault → ExpansionStep
  -- the token is emitted unchanged; these tokens remain
  Emits : Hiding → List Hiding → ExpansionStep
  -- the token is a macro's name, and its replacement has a fault; it takes one from the budget
  ReplacementFault : Fault → ExpansionStep
  -- the token is a macro's name that was replaced; this is the new list
  Replaced : List Hiding → ExpansionStep
  -- the token is `__COUNTER__`, and the unit's number replaces it; these tokens remain
  Counts : Hiding → List Hiding → ExpansionStep
  -- the token is the macro name token of an invocation whose arguments are still to be expanded
  Invoked : Invocation → ExpansionStep

-- the next token gets the leading-space flag if a space is pending
abbrev pub space_next : Bool → List Hiding → List Hiding
space_next true (t ∷ ts) = with_space true t ∷ ts
space_next true [] = []
space_next false ts = ts

-- a replacement, followed by the rest of the list (6.10.3.4)
abbrev pub followed_by : Replacement → List Hiding → List Hiding
followed_by m following = m.tokens ++ space_next m.pending following

abbrev pub replaced_by : Result Replacement Fault → List Hiding → ExpansionStep
replaced_by (Ok m) following = Replaced (followed_by m following)
replaced_by (Err f) following = ReplacementFault f

-- a fault at the expansion location of a macro's name
abbrev pub fault_at_expansion : ℕ → Hiding → Fault
fault_at_expansion n t = fault n t.token.used t.token.text

abbrev pub quote_fault : Token → Fault
quote_fault t = fault 7 t.at t.text

-- the names that an invocation adds to hide sets: the intersection of the hide sets of the macro name and of the `)`,
-- plus the macro name
abbrev pub names_to_hide_for : HideSet → HideSet → Name → HideSet
names_to_hide_for hide close_hide name = set.insert (set.intersection hide close_hide) name

abbrev pub closed_invocation_step : Hiding → Macro → Option (List (List Hiding)) → Hiding → List Hiding → ExpansionStep
closed_invocation_step t d (Some as') close following =
    Invoked (record { name_token = t; macro = d; arguments = as'; names_to_hide = names_to_hide_for t.hide close.hide t.token.text; following = following })
closed_invocation_step t d None close following = ReplacementFault (fault_at_expansion 18 t)

abbrev pub invocation_step : Hiding → Macro → List Name → Variadic → Gathered → ExpansionStep
invocation_step t d names variadic (Closed as' close following) = closed_invocation_step t d (fit_arguments names variadic as') close following
invocation_step t d names variadic (UnmatchedQuote q) = ReplacementFault (quote_fault q.token)
invocation_step t d names variadic Unclosed = ReplacementFault (fault_at_expansion 17 t)

-- a function-like macro's name is invoked if `(` is next, and otherwise emitted (6.10.3, paragraph 10)
abbrev pub function_step : Hiding → Macro → List Name → Variadic → List Hiding → ExpansionStep
function_step t d names variadic [] = Emits t []
function_step t d names variadic (p ∷ rest) =
    if is_open p.token then invocation_step t d names variadic (gather 0 (separators names variadic) rest) else Emits t (p ∷ rest)

abbrev pub no_arguments : Arguments
no_arguments = record { given = []; expanded = [] }

abbrev pub macro_step : Env → Hiding → List Hiding → Macro → MacroKind → ExpansionStep
macro_step env t rest d (Predefined b) = Replaced (predefined_value b env t (set.insert t.hide t.token.text) ∷ rest)
macro_step env t rest d Counter = Counts t rest
macro_step env t rest d ObjectLike = replaced_by (macro_replacement d no_arguments (set.insert t.hide t.token.text) t.token.used t.token.space) rest
macro_step env t rest d (FunctionLike names variadic) = function_step t d names variadic rest

abbrev pub named_step : Env → Hiding → List Hiding → Option Macro → ExpansionStep
named_step env t rest (Some d) = macro_step env t rest d d.kind
named_step env t rest None = Emits t rest

-- the macro that a token names
abbrev pub macro_of : Macros → Token → Option Macro
macro_of macros t = if is_identifier t then table.get macros t.text else None

unfoldable pub expansion_step : Macros → Env → List Hiding → ExpansionStep
expansion_step macros env [] = Done
expansion_step macros env (t ∷ rest) =
    if is_unmatched_quote t.token then TokenFault (quote_fault t.token) else (
    if set.contains t.hide t.token.text then Emits t rest else named_step env t rest (macro_of macros t.token))

-- ---- the arguments that are expanded (6.10.3.1)

-- the arguments of the parameters that the replacement list uses without `#` and `##`, in the order in which they are expanded; an absent
-- variable argument counts as empty
unfoldable pub arguments_to_expand : Env → Invocation → List (List Hiding)
arguments_to_expand env invocation = map (argument_at invocation.arguments) (expansion_order env.profile invocation.macro)

-- the expansions in that order, or the first fault
abbrev pub ExpandedArguments : Type 0
ExpandedArguments = Result (List (List Hiding)) Fault

-- adds the expansion of an argument before the expansions of the later ones
abbrev pub with_expanded : List Hiding → ExpandedArguments → ExpandedArguments
with_expanded a (Ok as') = Ok (a ∷ as')
with_expanded a (Err f) = Err f

-- puts the expansion of each of these parameters at its index
abbrev pub put_at : {X : Type 0} → List ℕ → List X → List (Option X) → List (Option X)
put_at [] expansions all = all
put_at (i ∷ order) [] all = all
put_at (i ∷ order) (e ∷ expansions) all = put_at order expansions (slice_set all i (Some e))

-- for each parameter of an invocation its argument's expansion, or `None` if it is not expanded; the expansions are in the order of the profile
unfoldable pub expansions_by_parameter : Env → Invocation → List (List Hiding) → List (Option (List Hiding))
expansions_by_parameter env invocation expansions =
    put_at (expansion_order env.profile invocation.macro) expansions (replicate (length (parameter_names invocation.macro.kind)) None)

-- the expansion step of an invocation, if these are the expansions of its arguments by parameter
unfoldable pub finish_by_parameter : Invocation → List (Option (List Hiding)) → ExpansionStep
finish_by_parameter invocation expanded = replaced_by
    (macro_replacement invocation.macro (record { given = invocation.arguments; expanded = expanded }) invocation.names_to_hide invocation.name_token.token.used invocation.name_token.token.space)
    invocation.following

-- the expansion step of an invocation after its arguments are expanded, in the order of the profile
abbrev pub finish_invocation : Env → Invocation → List (List Hiding) → ExpansionStep
finish_invocation env invocation expansions = finish_by_parameter invocation (expansions_by_parameter env invocation expansions)
