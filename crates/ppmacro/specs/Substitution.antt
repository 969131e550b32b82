-- What a macro's name or invocation is replaced by (6.10.3.1 to 6.10.3.3).
use Rattle.std.specs.Prelude.{ℕ, Bool, true, false, not, ◌&&◌, ◌||◌, ◌==◌, ◌-◌, List, [], ◌∷◌, ◌++◌, map, take, length, Option, Some, None, unwrap_or, slice_get, Result, Ok, Err, if◌then◌else◌}
use Rattle.std.specs.FinSet as set
use Rattle.pptext.specs.declared.tokens.Place.{Place}
use Rattle.pptext.specs.declared.tokens.Token.{Token}
use Rattle.pptext.specs.declared.tokens.Fault.{Fault}
use Rattle.pptext.specs.declared.tokens.Kind.{Kind}
use Rattle.pptext.specs.declared.tokens.Kind.TheVariants.{CharConst, Str as StringLiteral}
use Rattle.pptext.specs.Tokens.{fault}
use Rattle.ppmacro.specs.Names.{HideSet}
use Rattle.ppmacro.specs.Hiding.{Hiding}
use Rattle.ppmacro.specs.VaOptChains.{VaOptChains, ListChains, Ordinary, WithVaOpt, list_chains}
use Rattle.ppmacro.specs.Lexing.{kind_of}
use Rattle.ppmacro.specs.declared.macros.Macro.{Macro}
use Rattle.ppmacro.specs.declared.macros.Chain.{Chain}
use Rattle.ppmacro.specs.declared.macros.Operand.{Operand}
use Rattle.ppmacro.specs.declared.macros.Operand.TheVariants.{Tok, Param, Str, VariadicAfterComma}

-- ---- `#` (6.10.3.2)

abbrev pub is_literal : Kind → Bool
is_literal CharConst = true
is_literal StringLiteral = true
is_literal _ = false

-- A backslash before each `"` and `\`.
abbrev pub escaped_literal : List ℕ → List ℕ
escaped_literal [] = []
escaped_literal (b ∷ bs) = if b == 34 || b == 92 then 92 ∷ (b ∷ escaped_literal bs) else b ∷ escaped_literal bs

abbrev pub spelled_in_string : Token → List ℕ
spelled_in_string t = if is_literal t.kind then escaped_literal t.text else t.text

-- White space between two tokens becomes one space. There is none before the first token.
abbrev pub spelled_space : Bool → Token → List ℕ
spelled_space first t = if t.space && not first then 32 ∷ [] else []

-- `first`: the first of these tokens is the first of the argument.
abbrev pub spelled_from : Bool → List Token → List ℕ
spelled_from first [] = []
spelled_from first (t ∷ ts) = spelled_space first t ++ (spelled_in_string t ++ spelled_from false ts)

abbrev pub string_text : List Token → List ℕ
string_text ts = 34 ∷ (spelled_from true ts ++ 34 ∷ [])

abbrev pub is_string_literal : Option Kind → Bool
is_string_literal (Some StringLiteral) = true
is_string_literal _ = false

abbrev pub string_token : List ℕ → Place → Place → Hiding
string_token text at used = record { token = record { kind = StringLiteral; text = text; space = false; at = at; used = used }; hide = set.empty }

-- The string literal of an argument, or fault 20. `at` is the location of `#`, and `used` that of the macro name.
abbrev pub stringized : List Token → Place → Place → Result Hiding Fault
stringized argument at used =
    if is_string_literal (kind_of (string_text argument)) then Ok (string_token (string_text argument) at used) else Err (fault 20 used (string_text argument))

-- ---- `##` (6.10.3.3)

abbrev pub pasted_as : Option Kind → Hiding → Hiding → Place → Result Hiding Fault
pasted_as None left right used = Err (fault 19 used (left.token.text ++ right.token.text))
pasted_as (Some kind) left right used =
    Ok (record { token = record { kind = kind; text = left.token.text ++ right.token.text; space = left.token.space; at = left.token.at; used = used }; hide = set.intersection left.hide right.hide })

-- Two tokens pasted, or fault 19.
abbrev pub pasted : Hiding → Hiding → Place → Result Hiding Fault
pasted left right used = pasted_as (kind_of (left.token.text ++ right.token.text)) left right used

abbrev pub after_ok : {A B E : Type 0} → Result A E → (A → Result B E) → Result B E
after_ok (Ok a) f = f a
after_ok (Err e) f = Err e

-- Joins the last token of one list with the first of the other. An empty list is a placemarker.
abbrev pub join : List Hiding → List Hiding → Place → Result (List Hiding) Fault
join [] right used = Ok right
join (l ∷ ls) [] used = Ok (l ∷ ls)
join (l ∷ []) (r ∷ rs) used = after_ok (pasted l r used) (λ t. Ok (t ∷ rs))
join (l ∷ (m ∷ ls)) (r ∷ rs) used = after_ok (join (m ∷ ls) (r ∷ rs) used) (λ ts. Ok (l ∷ ts))

-- Joins lists from the left.
abbrev pub join_all : List Hiding → List (List Hiding) → Place → Result (List Hiding) Fault
join_all left [] used = Ok left
join_all left (right ∷ rest) used = after_ok (join left right used) (λ ts. join_all ts rest used)

-- ---- operands and chains

-- The arguments of an invocation, and for each parameter its argument's expansion, or `None` if the replacement list doesn't use
-- the parameter, or only next to `#` or `##`. A variable argument that is absent (gcc's manual, "Variadic Macros") isn't in `given`,
-- which is then one shorter than the list of parameters.
pub record Arguments : Type 0 where
  pub given : List (List Hiding)
  pub expanded : List (Option (List Hiding))

abbrev pub argument_at : {X : Type 0} → List (List X) → ℕ → List X
argument_at given i = unwrap_or (slice_get given i) []

abbrev pub expanded_at : {X : Type 0} → List (Option (List X)) → ℕ → List X
expanded_at expanded i = unwrap_or (unwrap_or (slice_get expanded i) None) []

abbrev pub unhidden : Token → Hiding
unhidden t = record { token = t; hide = set.empty }

-- The tokens of an operand. An argument next to `##` (`next_to_paste`) isn't expanded (6.10.3.1).
abbrev pub operand_tokens : Bool → Arguments → Place → Operand → Result (List Hiding) Fault
operand_tokens next_to_paste args used (Tok t) = Ok (unhidden t ∷ [])
operand_tokens true args used (Param i) = Ok (argument_at args.given i)
operand_tokens false args used (Param i) = Ok (expanded_at args.expanded i)
operand_tokens next_to_paste args used (VariadicAfterComma i) = Ok (argument_at args.given i)
operand_tokens next_to_paste args used (Str i at) = after_ok (stringized (map (λ t. t.token) (argument_at args.given i)) at used) (λ t. Ok (t ∷ []))

abbrev pub operands_tokens : Bool → Arguments → Place → List Operand → Result (List (List Hiding)) Fault
operands_tokens next_to_paste args used [] = Ok []
operands_tokens next_to_paste args used (o ∷ os) = after_ok (operand_tokens next_to_paste args used o) (λ ts. after_ok (operands_tokens next_to_paste args used os) (λ rest. Ok (ts ∷ rest)))

abbrev pub is_joined : List Operand → Bool
is_joined (o ∷ p ∷ os) = true
is_joined _ = false

-- The operands that `##` joins: all but a variable argument after a comma at the end, which may be absent (`VariadicAfterComma`).
abbrev pub before_variadic : List Operand → List Operand
before_variadic [] = []
before_variadic (VariadicAfterComma i ∷ []) = []
before_variadic (o ∷ os) = o ∷ before_variadic os

-- The index of the variable argument after a comma, if the operands end in one.
abbrev pub variadic_of : List Operand → Option ℕ
variadic_of [] = None
variadic_of (VariadicAfterComma i ∷ []) = Some i
variadic_of (o ∷ os) = variadic_of os

-- All but the last.
abbrev pub without_last : {X : Type 0} → List X → List X
without_last ts = take (length ts - 1) ts

-- Appends the argument without a paste. If it is absent, removes the last token, which is the comma.
abbrev pub variadic_after_comma : {X : Type 0} → Option (List X) → List X → List X
variadic_after_comma None ts = without_last ts
variadic_after_comma (Some argument) ts = ts ++ argument

abbrev pub with_variadic_tokens : {X : Type 0} → List (List X) → Option ℕ → List X → List X
with_variadic_tokens given None ts = ts
with_variadic_tokens given (Some i) ts = variadic_after_comma (slice_get given i) ts

-- The tokens of a chain: first each `#`, then each `##` from the left, and last the variable argument after a comma at its end.
abbrev pub chain_tokens : Arguments → Place → Chain → Result (List Hiding) Fault
chain_tokens args used c =
    after_ok (operands_tokens (is_joined c.operands) args used (before_variadic c.operands)) (λ lists.
    after_ok (join_all [] lists used) (λ ts. Ok (with_variadic_tokens args.given (variadic_of c.operands) ts)))

-- ---- the replacement

-- Tokens, and whether a leading-space flag is pending for the next one.
pub record Replacement : Type 0 where
  pub tokens : List Hiding
  pub pending : Bool

abbrev pub with_space : Bool → Hiding → Hiding
with_space space t = record t { token = record t.token { space = space } }

-- The first token gets the flag `space`. Without a token the flag stays pending.
abbrev pub space_first : Bool → List Hiding → Replacement
space_first space [] = record { tokens = []; pending = space }
space_first space (t ∷ ts) = record { tokens = with_space space t ∷ ts; pending = false }

-- The tokens of chains. `first`: the next chain is the first of the replacement list. White space before it isn't part of the list
-- (6.10.3), so its own flag doesn't count.
abbrev pub chains_tokens : Arguments → Place → Bool → Bool → List Chain → Result Replacement Fault
chains_tokens args used pending first [] = Ok (record { tokens = []; pending = pending })
chains_tokens args used pending first (c ∷ cs) =
    after_ok (chain_tokens args used c) (λ ts.
    let here : Replacement = space_first (pending || (not first && c.space)) ts in
    after_ok (chains_tokens args used here.pending false cs) (λ rest. Ok (record { tokens = here.tokens ++ rest.tokens; pending = rest.pending })))

-- A token of the replacement, with more names in its hide set and the macro name's location as its expansion location (Prosser's
-- hsadd).
abbrev pub hsadd : HideSet → Place → Hiding → Hiding
hsadd added used t = record { token = record t.token { used = used }; hide = set.union t.hide added }

-- The replacement by these chains with the pending flag, or its first fault, 19 or 20.
abbrev pub chains_replacement : List Chain → Arguments → HideSet → Place → Bool → Result Replacement Fault
chains_replacement cs args added used space = after_ok (chains_tokens args used space true cs) (λ m. Ok (record m { tokens = map (hsadd added used) m.tokens }))

-- ---- `__VA_OPT__` (C23, 6.10.5.2)

abbrev pub has_tokens : {X : Type 0} → List X → Bool
has_tokens [] = false
has_tokens (t ∷ ts) = true

-- Whether the variable argument has tokens after its expansion.
abbrev pub is_filled : VaOptChains → Arguments → Bool
is_filled c args = has_tokens (expanded_at args.expanded c.variadic)

-- The tokens of the contents, or the first fault.
abbrev pub contents_tokens : Arguments → Place → List (List Chain) → Result (List (List Hiding)) Fault
contents_tokens args used [] = Ok []
contents_tokens args used (c ∷ cs) = after_ok (chains_tokens args used false true c) (λ m. after_ok (contents_tokens args used cs) (λ rest. Ok (m.tokens ∷ rest)))

-- The arguments, the placemarker of `__VA_OPT__`, and the contents.
abbrev pub with_contents : Arguments → List (List Hiding) → Arguments
with_contents args lists = record { given = args.given ++ [] ∷ lists; expanded = args.expanded ++ None ∷ map Some lists }

-- The replacement if the variable argument has tokens. The faults of contents come first, as those of arguments do.
abbrev pub filled_replacement : VaOptChains → Arguments → HideSet → Place → Bool → Result Replacement Fault
filled_replacement c args added used space =
    after_ok (contents_tokens args used c.contents) (λ lists. chains_replacement c.if_filled (with_contents args lists) added used space)

-- The replacement by chains with `__VA_OPT__`.
abbrev pub va_opt_replacement : VaOptChains → Arguments → HideSet → Place → Bool → Result Replacement Fault
va_opt_replacement c args added used space =
    if is_filled c args then filled_replacement c args added used space else chains_replacement c.if_empty args added used space

-- ---- the replacement by the chains of a macro

abbrev pub replacement_by : ListChains → Arguments → HideSet → Place → Bool → Result Replacement Fault
replacement_by (Ordinary cs) args added used space = chains_replacement cs args added used space
replacement_by (WithVaOpt c) args added used space = va_opt_replacement c args added used space

abbrev pub macro_replacement : Macro → Arguments → HideSet → Place → Bool → Result Replacement Fault
macro_replacement d args added used space = replacement_by (list_chains d) args added used space
