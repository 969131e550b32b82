-- Expansion by the rules of the standard, which has no budget (6.10.3, 6.10.3.1, 6.10.3.4, 6.10.8.1). There is one rule for each way to continue,
-- and one for each fault.
--
-- The theorem `without_a_budget` compares these rules with `ExpansionStep` and `Expansion`. Both use the same definitions of arguments (`gather`,
-- `fit_arguments`, `arguments_to_expand`, `expansions_by_parameter`) and of replacements (`predefined_value`, `counter_value`, `macro_replacement`,
-- `followed_by`). So the theorem says that they apply these definitions in the same cases and in the same order. It says nothing of the
-- definitions themselves.
use Rattle.std.specs.Prelude.{◌≡◌, ℕ, suc, ◌+◌, ◌%◌, ◌^◌, ◌<◌, ◌≤◌, Bool, true, false, List, [], ◌∷◌, map, Option, Some, None, Result, Ok, Err}
use Rattle.std.specs.FinSet as set
use Rattle.pptext.specs.declared.tokens.Token.{Token}
use Rattle.pptext.specs.declared.tokens.Fault.{Fault}
use Rattle.pptext.specs.Tokens.{is_unmatched_quote}
use Rattle.ppmacro.specs.Names.{Name, Macros}
use Rattle.ppmacro.specs.Hiding.{Hiding}
use Rattle.ppmacro.specs.Substitution.{unhidden, Replacement, macro_replacement}
use Rattle.ppmacro.specs.declared.macros.PredefinedMacro.{PredefinedMacro}
use Rattle.ppmacro.specs.declared.macros.Variadic.{Variadic}
use Rattle.ppmacro.specs.declared.macros.Macro.{Macro}
use Rattle.ppmacro.specs.declared.macros.MacroKind.TheVariants.{Predefined, Counter, ObjectLike, FunctionLike}
use Rattle.ppexpand.specs.declared.env.Env.{Env}
use Rattle.ppexpand.specs.Arguments.{is_open, Closed, UnmatchedQuote, Unclosed, gather, separators, fit_arguments}
use Rattle.ppexpand.specs.ExpansionStep.{predefined_value, counter_value, Invocation, followed_by, fault_at_expansion, quote_fault, names_to_hide_for, no_arguments, macro_of, arguments_to_expand}
use Rattle.ppexpand.specs.ExpansionStep.{ExpandedArguments, with_expanded, expansions_by_parameter}

-- a token names this macro, and its hide set does not have the name (6.10.3, paragraph 9; 6.10.3.4, paragraph 2)
pub record NamesMacro (macros : Macros) (t : Hiding) (d : Macro) : Type 0 where
  pub no_quote : is_unmatched_quote t.token ≡ false
  pub not_hidden : set.contains t.hide t.token.text ≡ false
  pub named : macro_of macros t.token ≡ Some d

-- a token names a function-like macro, and this `(` is next (6.10.3, paragraph 10)
pub record StartsInvocation (macros : Macros) (t paren : Hiding) (d : Macro) (names : List Name) (variadic : Variadic) : Type 0 where
  pub names_macro : NamesMacro macros t d
  pub kind : d.kind ≡ FunctionLike names variadic
  pub paren_opens : is_open paren.token ≡ true

-- a list begins with this invocation: it has a matching `)`, and arguments as the macro's parameters need (6.10.3, paragraphs 4 and 10 to 12)
pub record Invokes (macros : Macros) (list : List Hiding) (invocation : Invocation) : Type 0 where
  pub paren : Hiding
  pub inside : List Hiding
  pub names : List Name
  pub variadic : Variadic
  pub arguments : List (List Hiding)
  pub close : Hiding
  pub laid_out : list ≡ invocation.name_token ∷ paren ∷ inside
  pub opens : StartsInvocation macros invocation.name_token paren invocation.macro names variadic
  pub closed : gather 0 (separators names variadic) inside ≡ Closed arguments close invocation.following
  pub fits : fit_arguments names variadic arguments ≡ Some invocation.arguments
  pub to_hide : invocation.names_to_hide ≡ names_to_hide_for invocation.name_token.hide close.hide invocation.name_token.token.text

-- whether `(` is next
abbrev pub opens_next : List Hiding → Bool
opens_next [] = false
opens_next (t ∷ ts) = is_open t.token

-- the replacement of an object-like macro's name (6.10.3, paragraph 9), or the fault
abbrev pub object_result : Hiding → Macro → Result Replacement Fault
object_result t d = macro_replacement d no_arguments (set.insert t.hide t.token.text) t.token.used t.token.space

-- the replacement of an invocation after its arguments are expanded (6.10.3.1), or the fault
abbrev pub invocation_result : Env → Invocation → List (List Hiding) → Result Replacement Fault
invocation_result env invocation expanded =
    macro_replacement invocation.macro (record { given = invocation.arguments; expanded = expansions_by_parameter env invocation expanded })
    invocation.names_to_hide invocation.name_token.token.used invocation.name_token.token.space

mutual
  -- At this level a list expands to these tokens, up to its end or to this fault. The first number is that of the next `__COUNTER__` (gcc's manual,
  -- "Common Predefined Macros"), and the last is that of the next one afterwards.
  pub data StandardExpands (macros : Macros) (env : Env) : ℕ → ℕ → List Hiding → List Hiding → Option Fault → ℕ → Type 0 where
    nothing_left : {level number : ℕ} → StandardExpands macros env level number [] [] None number
    unmatched_quote : {level number : ℕ} {t : Hiding} {rest : List Hiding}
        → is_unmatched_quote t.token ≡ true
        → StandardExpands macros env level number (t ∷ rest) [] (Some (quote_fault t.token)) number
    no_macro : {level number after : ℕ} {t : Hiding} {rest tokens : List Hiding} {fault : Option Fault}
        → is_unmatched_quote t.token ≡ false
        → macro_of macros t.token ≡ None
        → StandardExpands macros env level number rest tokens fault after
        → StandardExpands macros env level number (t ∷ rest) (t ∷ tokens) fault after
    -- a name is not replaced again in its own replacement (6.10.3.4, paragraph 2)
    hidden : {level number after : ℕ} {t : Hiding} {rest tokens : List Hiding} {fault : Option Fault}
        → is_unmatched_quote t.token ≡ false
        → set.contains t.hide t.token.text ≡ true
        → StandardExpands macros env level number rest tokens fault after
        → StandardExpands macros env level number (t ∷ rest) (t ∷ tokens) fault after
    -- the replacement of a name is rescanned with the rest (6.10.3.4, paragraph 1)
    predefined : {level number after : ℕ} {t : Hiding} {rest tokens : List Hiding} {fault : Option Fault} {d : Macro} {b : PredefinedMacro}
        → NamesMacro macros t d
        → d.kind ≡ Predefined b
        → StandardExpands macros env level number (predefined_value b env t (set.insert t.hide t.token.text) ∷ rest) tokens fault after
        → StandardExpands macros env level number (t ∷ rest) tokens fault after
    counter : {level number after : ℕ} {t : Hiding} {rest tokens : List Hiding} {fault : Option Fault} {d : Macro}
        → NamesMacro macros t d
        → d.kind ≡ Counter
        → StandardExpands macros env level ((number + 1) % 2 ^ 32) (counter_value number t ∷ rest) tokens fault after
        → StandardExpands macros env level number (t ∷ rest) tokens fault after
    object_like : {level number after : ℕ} {t : Hiding} {rest tokens : List Hiding} {fault : Option Fault} {d : Macro} {m : Replacement}
        → NamesMacro macros t d
        → d.kind ≡ ObjectLike
        → object_result t d ≡ Ok m
        → StandardExpands macros env level number (followed_by m rest) tokens fault after
        → StandardExpands macros env level number (t ∷ rest) tokens fault after
    object_result_fault : {level number : ℕ} {t : Hiding} {rest : List Hiding} {f : Fault} {d : Macro}
        → NamesMacro macros t d
        → d.kind ≡ ObjectLike
        → object_result t d ≡ Err f
        → StandardExpands macros env level number (t ∷ rest) [] (Some f) number
    -- a function-like macro's name without `(` next is no invocation (6.10.3, paragraph 10)
    not_invoked : {level number after : ℕ} {t : Hiding} {rest tokens : List Hiding} {fault : Option Fault} {d : Macro} {names : List Name} {variadic : Variadic}
        → NamesMacro macros t d
        → d.kind ≡ FunctionLike names variadic
        → opens_next rest ≡ false
        → StandardExpands macros env level number rest tokens fault after
        → StandardExpands macros env level number (t ∷ rest) (t ∷ tokens) fault after
    quote_inside : {level number : ℕ} {t paren quote : Hiding} {inside : List Hiding} {d : Macro} {names : List Name} {variadic : Variadic}
        → StartsInvocation macros t paren d names variadic
        → gather 0 (separators names variadic) inside ≡ UnmatchedQuote quote
        → StandardExpands macros env level number (t ∷ paren ∷ inside) [] (Some (quote_fault quote.token)) number
    unclosed : {level number : ℕ} {t paren : Hiding} {inside : List Hiding} {d : Macro} {names : List Name} {variadic : Variadic}
        → StartsInvocation macros t paren d names variadic
        → gather 0 (separators names variadic) inside ≡ Unclosed
        → StandardExpands macros env level number (t ∷ paren ∷ inside) [] (Some (fault_at_expansion 17 t)) number
    wrong_number : {level number : ℕ} {t paren close : Hiding} {inside following : List Hiding} {d : Macro} {names : List Name}
        {variadic : Variadic} {arguments : List (List Hiding)}
        → StartsInvocation macros t paren d names variadic
        → gather 0 (separators names variadic) inside ≡ Closed arguments close following
        → fit_arguments names variadic arguments ≡ None
        → StandardExpands macros env level number (t ∷ paren ∷ inside) [] (Some (fault_at_expansion 18 t)) number
    argument_fault : {level number after : ℕ} {list : List Hiding} {invocation : Invocation} {f : Fault}
        → Invokes macros list invocation
        → StandardExpandsArguments macros env level invocation number (arguments_to_expand env invocation) (Err f) after
        → StandardExpands macros env level number list [] (Some f) after
    invocation_result_fault : {level number after : ℕ} {list : List Hiding} {invocation : Invocation} {expanded : List (List Hiding)} {f : Fault}
        → Invokes macros list invocation
        → StandardExpandsArguments macros env level invocation number (arguments_to_expand env invocation) (Ok expanded) after
        → invocation_result env invocation expanded ≡ Err f
        → StandardExpands macros env level number list [] (Some f) after
    invocation : {level number between after : ℕ} {list tokens : List Hiding} {fault : Option Fault} {invocation : Invocation}
        {expanded : List (List Hiding)} {m : Replacement}
        → Invokes macros list invocation
        → StandardExpandsArguments macros env level invocation number (arguments_to_expand env invocation) (Ok expanded) between
        → invocation_result env invocation expanded ≡ Ok m
        → StandardExpands macros env level between (followed_by m invocation.following) tokens fault after
        → StandardExpands macros env level number list tokens fault after

  -- The arguments of an invocation in a list at this level, each expanded as if it were the rest of the file, one level deeper (6.10.3.1), in the
  -- order of the list, up to the first fault; level 256 is the deepest. The numbers are those of `StandardExpands`.
  pub data StandardExpandsArguments (macros : Macros) (env : Env) : ℕ → Invocation → ℕ → List (List Hiding) → ExpandedArguments → ℕ → Type 0 where
    none : {level number : ℕ} {invocation : Invocation} → StandardExpandsArguments macros env level invocation number [] (Ok []) number
    too_deep : {level number : ℕ} {invocation : Invocation} {list : List Hiding} {rest : List (List Hiding)}
        → 256 ≤ level
        → StandardExpandsArguments macros env level invocation number (list ∷ rest) (Err (fault_at_expansion 21 invocation.name_token)) number
    pre_expanded : {level number between after : ℕ} {invocation : Invocation} {list tokens : List Hiding} {rest : List (List Hiding)} {out : ExpandedArguments}
        → level < 256
        → StandardExpands macros env (suc level) number list tokens None between
        → StandardExpandsArguments macros env level invocation between rest out after
        → StandardExpandsArguments macros env level invocation number (list ∷ rest) (with_expanded tokens out) after
    pre_expansion_fault : {level number after : ℕ} {invocation : Invocation} {list tokens : List Hiding} {rest : List (List Hiding)} {f : Fault}
        → level < 256
        → StandardExpands macros env (suc level) number list tokens (Some f) after
        → StandardExpandsArguments macros env level invocation number (list ∷ rest) (Err f) after

-- The expansion of a list of tokens, up to its end or to this fault, at level 0 and with empty hide sets at first. The numbers are those of
-- `StandardExpands`.
pub record IsStandardExpansion (macros : Macros) (env : Env) (number : ℕ) (tokens expanded : List Token) (fault : Option Fault) (after : ℕ) : Type 0 where
  pub emitted : List Hiding
  pub expands : StandardExpands macros env 0 number (map unhidden tokens) emitted fault after
  pub is : expanded ≡ map (λ t. t.token) emitted
