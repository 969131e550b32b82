-- How a compiler reads text with line markers (gcc's manual, "Preprocessor Output"): each line by itself, by the tokens that it has (6.4).
use Rattle.std.specs.Prelude.{◌≡◌, ℕ, ◌+◌, ◌<◌, ◌^◌, Bool, false, List, [], ◌∷◌, ◌++◌, map, Contains, codes, decimal, if◌then◌else◌}
use Rattle.std.specs.List.{list_any, flat_map}
use Rattle.std.specs.Str.{bytes_eq}
use Rattle.pptext.specs.declared.sources.Profile.{Profile}
use Rattle.pptext.specs.declared.tokens.Kind.{Kind}
use Rattle.pptext.specs.declared.tokens.Kind.TheVariants.{Ident, Number, Str, Punct}
use Rattle.pptext.specs.Clean.{with_locations, codes_of}
use Rattle.pptext.specs.Lexemes.{Lexeme, LexemeKind, Spelled, Tokenizes, BeginsWith}
use Rattle.ppprint.specs.Apart.{Written}
use Rattle.ppprint.specs.Shown.{Location}

-- What is read: a file is entered or left, or a token or a pragma is read at a location.
pub data Reading : Type 0 where
  EntersFile : Location → Reading
  LeavesFile : Location → Reading
  ReadsToken : Location → Written → Reading
  ReadsPragma : Location → List Written → Reading

-- ---- the tokens of a line

abbrev pub token_of_lexeme : List ℕ → LexemeKind → List Written
token_of_lexeme text (Spelled k) = record { kind = k; text = text } ∷ []
token_of_lexeme text s = []

-- the tokens among lexemes
abbrev pub tokens_of_lexemes : List Lexeme → List Written
tokens_of_lexemes lexemes = flat_map (λ p. token_of_lexeme (codes_of p.chars) p.kind) lexemes

-- a line with its new-line has these tokens
pub record HasTokens (profile : Profile) (line : List ℕ) (tokens : List Written) : Type 0 where
  pub lexemes : List Lexeme
  pub tokenizes : Tokenizes profile (with_locations 0 1 1 (line ++ 10 ∷ [])) lexemes
  pub tokens_are : tokens ≡ tokens_of_lexemes lexemes

-- ---- the meaning of a line

abbrev pub token : Kind → List ℕ → Written
token kind text = record { kind = kind; text = text }

-- whether a marker has this flag
abbrev pub has_flag : List ℕ → List Written → Bool
has_flag flag tokens = list_any (λ t. bytes_eq t.text flag) tokens

-- the location that a marker gives the next line
abbrev pub marked : ℕ → List ℕ → List Written → Location
marked number name flags = record { name = name; line = number; system = has_flag (codes "3") flags }

abbrev pub turns : List Written → Location → List Reading
turns flags at =
    if has_flag (codes "1") flags then EntersFile at ∷ []
    else if has_flag (codes "2") flags then LeavesFile at ∷ []
    else []

abbrev pub next_line : Location → Location
next_line at = record at { line = at.line + 1 }

-- What a line at a location says, and the location of the next line: a line marker, a pragma, or a line of tokens.
pub data ReadsLine (profile : Profile) (at : Location) (line : List ℕ) : List Reading → Location → Type 0 where
  marker : {number : ℕ} {name : List ℕ} {flags : List Written}
      → number < 2 ^ 64
      → BeginsWith line (codes "#")
      → HasTokens profile line (token Punct (codes "#") ∷ token Number (decimal number) ∷ token Str name ∷ flags)
      → ReadsLine profile at line (turns flags (marked number name flags)) (marked number name flags)
  pragma : {tokens : List Written}
      → BeginsWith line (codes "#")
      → HasTokens profile line (token Punct (codes "#") ∷ token Ident (codes "pragma") ∷ tokens)
      → ReadsLine profile at line (ReadsPragma at tokens ∷ []) (next_line at)
  tokens : {tokens : List Written}
      → ¬ BeginsWith line (codes "#")
      → HasTokens profile line tokens
      → ReadsLine profile at line (map (ReadsToken at) tokens) (next_line at)

-- From a location on, a text of lines is read so.
pub data Reads (profile : Profile) : Location → List ℕ → List Reading → Type 0 where
  nothing : {at : Location} → Reads profile at [] []
  line : {at next : Location} {line rest : List ℕ} {first others : List Reading}
      → (¬ Contains line 10)
      → ReadsLine profile at line first next
      → Reads profile next rest others
      → Reads profile at (line ++ 10 ∷ rest) (first ++ others)

-- before the first marker
abbrev pub nowhere : Location
nowhere = record { name = []; line = 0; system = false }
