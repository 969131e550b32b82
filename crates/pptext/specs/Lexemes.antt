-- Translation phase 3 (5.1.1.2, 6.4): a text is divided into lexemes: comments, white space, new-lines and preprocessing tokens.
use Rattle.std.specs.Prelude.{◌≡◌, ℕ, ◌+◌, ◌≤◌, List, [], ◌∷◌, ◌++◌, Bool, ◌&&◌, ◌||◌, IsTrue, length, take, drop, ◌⊎◌, codes, Option, None, Some, unwrap_or}
use Rattle.std.specs.List.{flat_map}
use Rattle.std.specs.Str.{bytes_eq}
use Rattle.memchr.specs.Find.{FindsNeedle, IsFirstByte, is_byte}
use Rattle.pptext.specs.declared.tokens.Place.{Place}
use Rattle.pptext.specs.declared.tokens.Kind.{Kind}
use Rattle.pptext.specs.declared.tokens.Kind.TheVariants.{Header}
use Rattle.pptext.specs.declared.sources.Profile.{Profile}
use Rattle.pptext.specs.declared.characters.Char.{Char}
use Rattle.pptext.specs.Clean.{codes_of, place}
use Rattle.pptext.specs.Languages.{Longest}
use Rattle.pptext.specs.Profiles.{is_gnu}
use Rattle.pptext.specs.Spellings.{is_blank, IsHeader, Spells, IsSpelling}

pub data LexemeKind : Type 0 where
  NewLine : LexemeKind
  Blank : LexemeKind
  Comment : LexemeKind
  Spelled : Kind → LexemeKind

-- a lexeme: a part of the text with its kind
pub record Lexeme : Type 0 where
  pub kind : LexemeKind
  pub chars : List Char

-- the characters of the lexemes, end to end
abbrev pub characters_of : List Lexeme → List Char
characters_of ps = flat_map (λ p. p.chars) ps

-- the spellings of the tokens of the current line after this lexeme, if they were `line` before it; a new-line begins an empty line
abbrev pub with_lexeme : List (List ℕ) → Lexeme → LexemeKind → List (List ℕ)
with_lexeme line p NewLine = []
with_lexeme line p Blank = line
with_lexeme line p Comment = line
with_lexeme line p (Spelled k) = line ++ codes_of p.chars ∷ []

-- the names of the directives whose operand may be a header name: `include` (6.10.2), and in GNU C `include_next` (gcc's manual, "Wrapper Headers")
abbrev pub takes_header : Profile → List ℕ → Bool
takes_header profile name = bytes_eq name (codes "include") || (is_gnu profile && bytes_eq name (codes "include_next"))

-- a header name may follow: the line so far is `#` or `%:` and then the name of such a directive (6.4.7)
abbrev pub AwaitsHeader : Profile → List (List ℕ) → Type 0
AwaitsHeader profile (hash ∷ name ∷ []) = IsTrue ((bytes_eq hash (codes "#") || bytes_eq hash (codes "%:")) && takes_header profile name)
AwaitsHeader profile line = ⊥

abbrev pub BeginsWith : List ℕ → List ℕ → Type 0
BeginsWith text prefix = take (length prefix) text ≡ prefix

abbrev pub OpensBlock : List ℕ → Type 0
OpensBlock text = BeginsWith text (codes "/*")

abbrev pub OpensLine : List ℕ → Type 0
OpensLine text = BeginsWith text (codes "//")

-- the index of the `*/` of the comment that opens here, counted after the `/*`
abbrev pub ClosesAt : List ℕ → Option ℕ → Type 0
ClosesAt text r = FindsNeedle (drop 2 text) (codes "*/") 0 r

-- a comment of n characters: from `/*` through the next `*/`, or from `//` to before the next new-line or to the end of the text (6.4.9)
abbrev pub CommentAt : List ℕ → ℕ → Type 0
CommentAt text n =
    (OpensBlock text × (k : ℕ) × ClosesAt text (Some k) × (n ≡ k + 4)) ⊎ (OpensLine text × (r : Option ℕ) × IsFirstByte (is_byte 10) text r × (n ≡ unwrap_or r (length text)))

-- a header name of n characters, after these tokens of its line
pub record HeaderAt (profile : Profile) (line : List (List ℕ)) (text : List ℕ) (n : ℕ) : Type 0 where
  pub awaited : AwaitsHeader profile line
  pub fits : n ≤ length text
  pub spelled : IsHeader (take n text)

-- any other token, of n characters: the longest prefix that is a spelling of some kind
pub record PlainTokenAt (profile : Profile) (line : List (List ℕ)) (text : List ℕ) (n : ℕ) (kind : Kind) : Type 0 where
  pub no_comment : ¬ (OpensBlock text ⊎ OpensLine text)
  pub no_header : (m : ℕ) → ¬ HeaderAt profile line text m
  pub longest : Longest IsSpelling text n
  pub spelled : Spells kind (take n text)

-- n characters of this kind begin the text, after these tokens of its line
abbrev pub IsLexemeAt : Profile → List (List ℕ) → List ℕ → ℕ → LexemeKind → Type 0
IsLexemeAt profile line text n NewLine = (n ≡ 1) × BeginsWith text (10 ∷ [])
IsLexemeAt profile line text n Blank = (n ≡ 1) × (c : ℕ) × BeginsWith text (c ∷ []) × IsTrue (is_blank c)
IsLexemeAt profile line text n Comment = CommentAt text n
IsLexemeAt profile line text n (Spelled k) = (HeaderAt profile line text n × (k ≡ Header)) ⊎ PlainTokenAt profile line text n k

-- each lexeme is allowed where it is, after these tokens of the line and before this rest
abbrev pub AreLexemes : Profile → List (List ℕ) → List Lexeme → List Char → Type 0
AreLexemes profile line [] rest = Unit {0}
AreLexemes profile line (p ∷ ps) rest =
    IsLexemeAt profile line (codes_of (p.chars ++ (characters_of ps ++ rest))) (length p.chars) p.kind × AreLexemes profile (with_lexeme line p p.kind) ps rest

-- the lexemes of a prefix of the text, and the rest
pub record TokenizesPrefix (profile : Profile) (chars : List Char) (lexemes : List Lexeme) (rest : List Char) : Type 0 where
  pub whole : characters_of lexemes ++ rest ≡ chars
  pub each : AreLexemes profile [] lexemes rest

-- the lexemes of the whole text
abbrev pub Tokenizes : Profile → List Char → List Lexeme → Type 0
Tokenizes profile chars lexemes = TokenizesPrefix profile chars lexemes []

abbrev pub head_place : List Char → Place
head_place [] = place 0 0 0
head_place (c ∷ cs) = c.at

-- a comment that opens at this place is not closed
pub record Unclosed (profile : Profile) (chars : List Char) (at : Place) : Type 0 where
  pub lexemes : List Lexeme
  pub rest : List Char
  pub tokenized : TokenizesPrefix profile chars lexemes rest
  pub opens : OpensBlock (codes_of rest)
  pub not_closed : ClosesAt (codes_of rest) None
  pub at_is : at ≡ head_place rest
