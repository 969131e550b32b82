-- What the lexer returns: the lexeme that begins a text, and the tokens and lines of a text. Contracts cite this.
use Rattle.std.specs.Prelude.{◌≡◌, ℕ, ◌<◌, ◌≤◌, List, [], ◌∷◌, length, Option, None, Some, Result, Ok, Err, IsTrue, slice_index, Bool, not, ◌&&◌, ◌||◌, ◌==◌}
use Rattle.pptext.specs.declared.tokens.Place.{Place}
use Rattle.pptext.specs.declared.tokens.Token.{Token}
use Rattle.pptext.specs.declared.sources.Line.{Line}
use Rattle.pptext.specs.declared.sources.Profile.{Profile}
use Rattle.pptext.specs.declared.characters.Char.{Char}
use Rattle.pptext.specs.Spellings.{is_blank, is_nondigit}
use Rattle.pptext.specs.declared.lexer.LeadingLexeme.{LeadingLexeme}
use Rattle.pptext.specs.declared.lexer.LeadingLexeme.TheVariants as leading
use Rattle.pptext.specs.Lexemes.{LexemeKind, NewLine, Blank, Comment, Spelled, IsLexemeAt, OpensBlock, ClosesAt, Lexeme, Tokenizes, Unclosed}
use Rattle.pptext.specs.Lines.{lines_of}
use Rattle.pptext.specs.Sources.{lines_from}
use Rattle.pptext.specs.code.Grouping.{AreLineSpans}

-- the spellings of tokens
abbrev pub spellings : List Token → List (List ℕ)
spellings [] = []
spellings (t ∷ ts) = t.text ∷ spellings ts

-- n white-space characters, each of which is a lexeme of its own
abbrev pub AreBlanks : ℕ → List ℕ → Type 0
AreBlanks n text = (k : ℕ) → k < n → IsTrue (is_blank (slice_index text k))

-- `(`, `)`, `,`, `;`, `[`, `]`, `{` and `}`, which begin nothing longer
abbrev pub begins_nothing_longer : ℕ → Bool
begins_nothing_longer c = c == 40 || (c == 41 || (c == 44 || (c == 59 || (c == 91 || (c == 93 || (c == 123 || c == 125))))))

-- this byte begins an identifier and can't begin a literal, as the letters `u`, `U` and `L` can
abbrev pub starts_identifier : ℕ → Bool
starts_identifier c = is_nondigit c && not (c == 117 || (c == 85 || c == 76))

-- The kind and length of the lexeme that begins the text, after these tokens of its line. Consecutive blanks count as one. None if a comment is not
-- closed.
abbrev pub FindsLexeme : Profile → List (List ℕ) → List ℕ → Option (LexemeKind × ℕ) → Type 0
FindsLexeme profile line text None = OpensBlock text × ClosesAt text None
FindsLexeme profile line text (Some (Blank, n)) = (n ≤ length text) × (0 < n) × AreBlanks n text
FindsLexeme profile line text (Some (s, n)) = (n ≤ length text) × (0 < n) × IsLexemeAt profile line text n s

-- the kind and length of a leading lexeme
abbrev pub found_lexeme : LeadingLexeme → Option (LexemeKind × ℕ)
found_lexeme leading.NewLine = Some (NewLine, 1)
found_lexeme (leading.Blank n) = Some (Blank, n)
found_lexeme (leading.Comment n) = Some (Comment, n)
found_lexeme leading.Unclosed = None
found_lexeme (leading.Token k n) = Some (Spelled k, n)

-- a text is tokenized into these tokens and lines, or a comment that opens at a location is not closed
abbrev pub TokenizesInto : Profile → List Char → List Token → List Line → Result (Unit {0}) Place → Type 0
TokenizesInto profile chars ts ls (Ok u) = (lexemes : List Lexeme) × Tokenizes profile chars lexemes × (lines_of profile lexemes ≡ lines_from ts ls) × AreLineSpans ts ls × (length ls ≤ length chars)
TokenizesInto profile chars ts ls (Err p) = Unclosed profile chars p
