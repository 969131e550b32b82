-- Pragmas for a compiler: those that the operator `_Pragma` makes (6.10.9), and not those that only a preprocessor executes.
use Rattle.std.specs.Prelude.{ℕ, zero, suc, ◌+◌, ◌-◌, ◌==◌, Bool, true, false, not, ◌&&◌, ◌||◌, nat_le, List, [], ◌∷◌, length, take, drop, filter, codes, if◌then◌else◌, Option, Some, None}
use Rattle.std.specs.List.{list_any, prefix_len}
use Rattle.std.specs.Option.{option_map}
use Rattle.std.specs.Str.{bytes_eq}
use Rattle.pptext.specs.declared.tokens.Kind.{Kind}
use Rattle.pptext.specs.declared.tokens.Kind.TheVariants.{Str}
use Rattle.pptext.specs.declared.tokens.Token.{Token}
use Rattle.pptext.specs.Spellings.{is_blank}
use Rattle.pptext.specs.Kinds.{spelled_kind, unmatched_quote_test}
use Rattle.pptext.specs.Tokens.{is_identifier_named, is_punct}
use Rattle.ppprint.specs.Shown.{PragmaToken, Shown, ShowsToken, ShowsPragma}

-- ---- the text of an operator's literal

-- the longest string literal that is required of an implementation (5.2.4.1)
abbrev pub longest_literal : ℕ
longest_literal = 4095

-- what follows the first quote
abbrev pub after_quote : List ℕ → List ℕ
after_quote [] = []
after_quote (c ∷ cs) = if c == 34 then cs else after_quote cs

-- `\"` and `\\`
abbrev pub is_escape : ℕ → ℕ → Bool
is_escape c d = c == 92 && (d == 34 || d == 92)

-- each `\"` replaced by `"`, and each `\\` by `\`
abbrev pub unescaped : List ℕ → List ℕ
unescaped [] = []
unescaped (c ∷ []) = c ∷ []
unescaped (c ∷ d ∷ cs) = if is_escape c d then d ∷ unescaped cs else c ∷ unescaped (d ∷ cs)

-- the text of a string literal without its prefix, its quotes and its escapes (6.10.9)
abbrev pub destringized : List ℕ → List ℕ
destringized literal = let inner = after_quote literal in unescaped (take (length inner - 1) inner)

-- ---- its tokens

-- the longest prefix of at most n characters that is a token, with its kind
abbrev pub longest_token : ℕ → List ℕ → Option (Kind × ℕ)
longest_token zero text = None
longest_token (suc n) text = elim (spelled_kind (take (suc n) text)) [ Some k ↦ Some (k, suc n) | None ↦ longest_token n text ]

-- the number of characters through the first `*/`
abbrev pub through_close : List ℕ → Option ℕ
through_close [] = None
through_close (c ∷ []) = None
through_close (c ∷ d ∷ cs) = if c == 42 && d == 47 then Some 2 else option_map (λ n. n + 1) (through_close (d ∷ cs))

-- what begins a text that is part of a pragma
pub data Beginning : Type 0 where
  -- n characters of white space or a comment
  Blanks : ℕ → Beginning
  -- a token of n characters
  Begins : Kind → ℕ → Beginning
  -- an open comment, an unmatched quote or a new-line
  Breaks : Beginning

abbrev pub token_beginning : List ℕ → Option (Kind × ℕ) → Beginning
token_beginning text None = Breaks
token_beginning text (Some (k, n)) = if unmatched_quote_test (take n text) then Breaks else Begins k n

abbrev pub comment_beginning : Option ℕ → Beginning
comment_beginning None = Breaks
comment_beginning (Some n) = Blanks (n + 2)

-- No header name is formed. A line comment goes to the end, or to a new-line.
abbrev pub beginning : List ℕ → Beginning
beginning [] = Breaks
beginning (c ∷ cs) =
    if c == 10 then Breaks
    else if is_blank c then Blanks 1
    else if bytes_eq (take 2 (c ∷ cs)) (codes "/*") then comment_beginning (through_close (drop 1 cs))
    else if bytes_eq (take 2 (c ∷ cs)) (codes "//") then Blanks (prefix_len (λ d. not (d == 10)) (c ∷ cs))
    else token_beginning (c ∷ cs) (longest_token (length (c ∷ cs)) (c ∷ cs))

abbrev pub pragma_token_of : Kind → Bool → List ℕ → PragmaToken
pragma_token_of kind space text = record { kind = kind; text = text; space = space }

-- The tokens of a text, of which the next `skip` characters have been read. None if it has an open comment, an unmatched quote or a new-line.
abbrev pub tokens_after : ℕ → Bool → List ℕ → Option (List PragmaToken)
tokens_after skip space [] = Some []
tokens_after (suc skip) space (c ∷ cs) = tokens_after skip space cs
tokens_after zero space (c ∷ cs) = elim (beginning (c ∷ cs)) [
  | Blanks n ↦ tokens_after (n - 1) true cs
  | Begins k n ↦ option_map (λ ts. pragma_token_of k space (take n (c ∷ cs)) ∷ ts) (tokens_after (n - 1) false cs)
  | Breaks ↦ None
]

-- ---- the operator

abbrev pub is_string_kind : Kind → Bool
is_string_kind Str = true
is_string_kind k = false

-- a string literal that isn't too long
abbrev pub is_operand : Token → Bool
is_operand t = is_string_kind t.kind && nat_le (length t.text) longest_literal

-- the tokens of the pragma that these four tokens make, if they are `_Pragma ( LITERAL )`
abbrev pub pragma_of : Token → Token → Token → Token → Option (List PragmaToken)
pragma_of name open_paren literal close_paren =
    if is_identifier_named (codes "_Pragma") name && is_punct (codes "(") open_paren && is_operand literal && is_punct (codes ")") close_paren
    then tokens_after 0 true (destringized literal.text)
    else None

-- the pragma that the first four items make
abbrev pub operator_at : List Shown → Option Shown
operator_at (ShowsToken l a ∷ ShowsToken m b ∷ ShowsToken n c ∷ ShowsToken o d ∷ more) = option_map (ShowsPragma l) (pragma_of a b c d)
operator_at items = None

-- Replaces each operator by its pragma, from left to right (6.10.9). The next `skip` items belong to one that has been replaced.
abbrev pub with_operators : ℕ → List Shown → List Shown
with_operators skip [] = []
with_operators (suc skip) (i ∷ items) = with_operators skip items
with_operators zero (i ∷ items) = elim (operator_at (i ∷ items)) [ Some pragma ↦ pragma ∷ with_operators 3 items | None ↦ i ∷ with_operators 0 items ]

-- ---- the preprocessor's own pragmas

abbrev pub own_pragmas : List (List ℕ)
own_pragmas = codes "once" ∷ codes "push_macro" ∷ codes "pop_macro" ∷ []

-- after `GCC`
abbrev pub own_gcc_pragmas : List (List ℕ)
own_gcc_pragmas = codes "poison" ∷ codes "system_header" ∷ codes "dependency" ∷ codes "warning" ∷ codes "error" ∷ []

abbrev pub is_among : List (List ℕ) → List ℕ → Bool
is_among texts text = list_any (bytes_eq text) texts

-- the spellings of the first two tokens of a pragma for the preprocessor alone: gcc leaves none of these in preprocessed text
abbrev pub are_own : Option (List ℕ) → Option (List ℕ) → Bool
are_own None second = false
are_own (Some first) None = is_among own_pragmas first
are_own (Some first) (Some second) = is_among own_pragmas first || (bytes_eq first (codes "GCC") && is_among own_gcc_pragmas second)

-- whether a pragma is for the preprocessor alone
abbrev pub is_own : List PragmaToken → Bool
is_own [] = false
is_own (t ∷ []) = are_own (Some t.text) None
is_own (t ∷ u ∷ ts) = are_own (Some t.text) (Some u.text)

abbrev pub is_for_compilers : Shown → Bool
is_for_compilers (ShowsPragma l ts) = not (is_own ts)
is_for_compilers i = true

abbrev pub left_to_compilers : List Shown → List Shown
left_to_compilers items = filter is_for_compilers items
