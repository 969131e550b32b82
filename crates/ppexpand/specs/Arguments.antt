-- The arguments of an invocation: the lists between `(` and its matching `)` (6.10.3, paragraphs 4, 10 to 12).
use Rattle.std.specs.Prelude.{ℕ, zero, suc, nat_le, ◌-◌, Bool, true, false, ◌&&◌, List, [], ◌∷◌, length, Option, Some, None, codes, if◌then◌else◌}
use Rattle.pptext.specs.declared.tokens.Token.{Token}
use Rattle.pptext.specs.Tokens.{is_punct, is_unmatched_quote}
use Rattle.ppmacro.specs.Names.{Name}
use Rattle.ppmacro.specs.Hiding.{Hiding}
use Rattle.ppmacro.specs.declared.macros.Variadic.{Variadic}
use Rattle.ppmacro.specs.declared.macros.Variadic.TheVariants.{No, Lenient}

abbrev pub is_open : Token → Bool
is_open t = is_punct (codes "(") t

-- the role of a token in the search for the matching `)`: an unmatched quote, a parenthesis, a comma, or any other token
pub data ArgumentRole : Type 0 where
  Quote : ArgumentRole
  Open : ArgumentRole
  Close : ArgumentRole
  Comma : ArgumentRole
  Inner : ArgumentRole

abbrev pub argument_role : Token → ArgumentRole
argument_role t =
    if is_unmatched_quote t then Quote else (
    if is_open t then Open else (
    if is_punct (codes ")") t then Close else (
    if is_punct (codes ",") t then Comma else Inner)))

-- the arguments, the matching `)` and the tokens after it; or an unmatched quote before any matching `)`; or neither
pub data Gathered : Type 0 where
  Closed : (arguments : List (List Hiding)) → (close : Hiding) → (following : List Hiding) → Gathered
  UnmatchedQuote : Hiding → Gathered
  Unclosed : Gathered

-- adds a token at the start of the first argument
abbrev pub with_token : Hiding → Gathered → Gathered
with_token t (Closed [] close following) = Closed ((t ∷ []) ∷ []) close following
with_token t (Closed (a ∷ as') close following) = Closed ((t ∷ a) ∷ as') close following
with_token t (UnmatchedQuote q) = UnmatchedQuote q
with_token t Unclosed = Unclosed

-- adds an empty argument before the others
abbrev pub with_argument : Gathered → Gathered
with_argument (Closed as' close following) = Closed ([] ∷ as') close following
with_argument (UnmatchedQuote q) = UnmatchedQuote q
with_argument Unclosed = Unclosed

-- whether a comma inside this number of parentheses separates arguments, if this many commas may still separate arguments (None: all)
abbrev pub separates : ℕ → Option ℕ → Bool
separates zero None = true
separates zero (Some zero) = false
separates zero (Some (suc commas)) = true
separates (suc depth) commas = false

abbrev pub fewer : Option ℕ → Option ℕ
fewer None = None
fewer (Some n) = Some (n - 1)

-- the search in a list after `(`, inside `depth` more parentheses
abbrev pub gather : ℕ → Option ℕ → List Hiding → Gathered
gather depth commas [] = Unclosed
gather depth commas (t ∷ ts) = elim (argument_role t.token) [
  | Quote ↦ UnmatchedQuote t
  | Open ↦ with_token t (gather (suc depth) commas ts)
  | Close ↦ elim depth [ zero ↦ Closed ([] ∷ []) t ts | suc d ↦ with_token t (gather d commas ts) ]
  | Comma ↦ elim (separates depth commas) [ true ↦ with_argument (gather depth (fewer commas) ts) | false ↦ with_token t (gather depth commas ts) ]
  | Inner ↦ with_token t (gather depth commas ts)
]

-- how many commas separate arguments: one for each parameter before the variable argument (None: all)
abbrev pub separators : List Name → Variadic → Option ℕ
separators names No = None
separators names _ = Some (length names - 1)

-- the least number of arguments: a lenient macro does not need the variable argument (gcc's manual, "Variadic Macros")
abbrev pub needed : List Name → Variadic → ℕ
needed names Lenient = length names - 1
needed names _ = length names

-- no tokens between the parentheses are no argument if none is needed, and otherwise one empty argument
abbrev pub present : ℕ → List (List Hiding) → List (List Hiding)
present zero ([] ∷ []) = []
present least as' = as'

abbrev pub of_number : (least most : ℕ) → List (List Hiding) → Option (List (List Hiding))
of_number least most as' = if nat_le least (length as') && nat_le (length as') most then Some as' else None

-- the arguments, one for each parameter but an absent variable argument; None if their number is wrong
abbrev pub fit_arguments : List Name → Variadic → List (List Hiding) → Option (List (List Hiding))
fit_arguments names variadic as' = of_number (needed names variadic) (length names) (present (needed names variadic) as')
