-- The lines of a text: its tokens, grouped by the new-lines outside comments.
use Rattle.std.specs.Prelude.{◌≡◌, ℕ, List, [], ◌∷◌, ◌++◌, Bool, true, false, ◌||◌, if◌then◌else◌, Option, None, Some, codes}
use Rattle.std.specs.List.{AllByRecursion}
use Rattle.std.specs.Str.{bytes_eq}
use Rattle.pptext.specs.declared.tokens.Token.{Token}
use Rattle.pptext.specs.declared.tokens.Kind.{Kind}
use Rattle.pptext.specs.declared.sources.Directive.{Directive}
use Rattle.pptext.specs.declared.sources.Directive.TheVariants.{If, Ifdef, Ifndef, Elif, Else, Elifdef, Elifndef, Endif, Include, IncludeNext, Define, Undef, Line, Error, Pragma, Null, Ignored, Unknown}
use Rattle.pptext.specs.declared.sources.Profile.{Profile}
use Rattle.pptext.specs.declared.sources.Profile.TheVariants.{C11, Later, Gnu}
use Rattle.pptext.specs.declared.characters.Char.{Char}
use Rattle.pptext.specs.Clean.{codes_of}
use Rattle.pptext.specs.Lexemes.{Lexeme, LexemeKind, NewLine, Spelled, head_place}

-- a line's tokens, the physical line of its new-line, and the directive if it is one
pub record LogicalLine : Type 0 where
  pub tokens : List Token
  pub number : ℕ
  pub directive : Option Directive

-- the token of a lexeme. `space` says whether white space or the beginning of the line precedes it.
abbrev pub token_of : Kind → Bool → List Char → Token
token_of kind space chars =
    let at = head_place chars in record { kind = kind; text = codes_of chars; space = space; at = at; used = at }

-- whether white space or the beginning of a line precedes what follows the lexeme
abbrev pub leaves_space : LexemeKind → Bool
leaves_space (Spelled k) = false
leaves_space s = true

abbrev pub tokens_after : Bool → List Token → List Char → LexemeKind → List Token
tokens_after space tokens chars NewLine = []
tokens_after space tokens chars (Spelled k) = tokens ++ token_of k space chars ∷ []
tokens_after space tokens chars s = tokens

-- the names of directives (6.10)
abbrev pub directive_names : List (List ℕ × Directive)
directive_names =
    (codes "if", If) ∷ (codes "ifdef", Ifdef) ∷ (codes "ifndef", Ifndef) ∷ (codes "elif", Elif) ∷ (codes "else", Else) ∷ (codes "endif", Endif)
    ∷ (codes "include", Include) ∷ (codes "define", Define) ∷ (codes "undef", Undef) ∷ (codes "line", Line) ∷ (codes "error", Error) ∷ (codes "pragma", Pragma) ∷ []

-- the names that C23 added to the branches of an if-section (ISO/IEC 9899:2024, 6.10.2)
abbrev pub later_names : List (List ℕ × Directive)
later_names = (codes "elifdef", Elifdef) ∷ (codes "elifndef", Elifndef) ∷ []

-- the names that GNU C added
abbrev pub gnu_names : List (List ℕ × Directive)
gnu_names = (codes "include_next", IncludeNext) ∷ (codes "warning", Ignored) ∷ (codes "ident", Ignored) ∷ (codes "sccs", Ignored) ∷ []

abbrev pub named_in : List (List ℕ × Directive) → List ℕ → Directive
named_in [] name = Unknown
named_in ((text, d) ∷ more) name = if bytes_eq name text then d else named_in more name

-- the directive that a name is
abbrev pub directive_named : Profile → List ℕ → Directive
directive_named C11 name = named_in directive_names name
directive_named Later name = named_in (directive_names ++ later_names) name
directive_named Gnu name = named_in (directive_names ++ (later_names ++ gnu_names)) name

abbrev pub directive_after_hash : Profile → List Token → Directive
directive_after_hash profile [] = Null
directive_after_hash profile (t ∷ ts) = directive_named profile t.text

-- the directive of a line, if its first token is `#` or `%:`
abbrev pub directive_of : Profile → List Token → Option Directive
directive_of profile [] = None
directive_of profile (t ∷ ts) =
    if bytes_eq t.text (codes "#") || bytes_eq t.text (codes "%:") then Some (directive_after_hash profile ts) else None

-- the line of these tokens whose new-line is in the physical line of this number
abbrev pub line_of : Profile → List Token → ℕ → LogicalLine
line_of profile tokens number = record { tokens = tokens; number = number; directive = directive_of profile tokens }

abbrev pub lines_ended : Profile → List Token → List Char → LexemeKind → List LogicalLine
lines_ended profile tokens chars NewLine = line_of profile tokens (head_place chars).line ∷ []
lines_ended profile tokens chars s = []

-- the lines of the lexemes, after these tokens of the first line
abbrev pub lines_after : Profile → Bool → List Token → List Lexeme → List LogicalLine
lines_after profile space tokens [] = []
lines_after profile space tokens (p ∷ ps) =
    lines_ended profile tokens p.chars p.kind ++ lines_after profile (leaves_space p.kind) (tokens_after space tokens p.chars p.kind) ps

abbrev pub lines_of : Profile → List Lexeme → List LogicalLine
lines_of profile ps = lines_after profile true [] ps

-- the directive of the line is that of its tokens
abbrev pub IsDirected : Profile → LogicalLine → Type 0
IsDirected profile line = line.directive ≡ directive_of profile line.tokens

-- the directive of each line is that of its tokens, by some profile
abbrev pub AreDirected : List LogicalLine → Type 0
AreDirected lines = (profile : Profile) × AllByRecursion (IsDirected profile) lines
