-- The kind of the one token that a text is (6.4): each test of `Kinds` decides the language of the same name, and there is only one lexer.
use Rattle.std.specs.Prelude.{◌≡◌, ℕ, List, Bool, IsTrue, Contains, ◌↔◌, ◌⊎◌, Option, None, Some}
use Rattle.pptext.specs.Spellings.{IsUniversal, IsNondigit, IsIdent, IsNumberPart, IsNumber, IsElement, IsCharConst, IsStr, IsOther, Spells, punctuators, is_punctuator}
use Rattle.pptext.specs.declared.tokens.Kind.{Kind}
use Rattle.pptext.specs.Lexemes.{OpensBlock, OpensLine}
use Rattle.pptext.specs.Sources.{IsOneToken, IsUnmatchedQuote}
use Rattle.pptext.specs.Kinds.{universal_test, nondigit_test, ident_test, number_part_test, number_test, element_test, char_const_test, str_test, other_test, unmatched_quote_test, comment_test, spelled_kind}

-- exactly the texts of the language pass the test
abbrev pub Decides : (List ℕ → Bool) → (List ℕ → Type 0) → Type 0
Decides test language = (text : List ℕ) → IsTrue (test text) ↔ language text

abbrev pub OpensComment : List ℕ → Type 0
OpensComment text = OpensBlock text ⊎ OpensLine text

pub record TestsAreLanguages : Type 0 where
  -- 6.4.2
  pub identifier : Decides ident_test IsIdent
  -- 6.4.8
  pub number : Decides number_test IsNumber
  -- 6.4.4.4
  pub character_constant : Decides char_const_test IsCharConst
  -- 6.4.5
  pub string_literal : Decides str_test IsStr
  -- 6.4.6
  pub punctuator : Decides is_punctuator (Contains punctuators)
  -- each other character that is no white space (6.4)
  pub other : Decides other_test IsOther
  -- the parts of these: a universal character name (6.4.3), a nondigit, what follows a number's first digit, and an element of a literal
  pub universal : Decides universal_test IsUniversal
  pub nondigit : Decides nondigit_test IsNondigit
  pub number_part : Decides number_part_test IsNumberPart
  pub element : (quote : ℕ) → Decides (element_test quote) (IsElement quote)
  -- what is no token: an unmatched quote (6.4p3), and what opens a comment (6.4.9)
  pub unmatched_quote : Decides unmatched_quote_test IsUnmatchedQuote
  pub comment : Decides comment_test OpensComment
  -- the kind that spells a text
  pub kind : (text : List ℕ) (k : Kind) → (spelled_kind text ≡ Some k) ↔ Spells k text

-- ---- the one lexer

-- Some: the text is one token of this kind, and no unmatched quote. None: it is not one token, or it is an unmatched quote.
abbrev pub Lexes : List ℕ → Option Kind → Type 0
Lexes text None = (k : Kind) → IsOneToken text k → IsUnmatchedQuote text
Lexes text (Some k) = IsOneToken text k × (¬ IsUnmatchedQuote text)

-- a function that returns each text's kind
pub record IsLexer (kind_of : List ℕ → Option Kind) : Type 0 where
  pub each : (text : List ℕ) → Lexes text (kind_of text)

-- exactly one function returns each text's kind
abbrev pub HasOneLexer : Type 0
HasOneLexer = ((kind_of : List ℕ → Option Kind) × IsLexer kind_of) × ((a b : List ℕ → Option Kind) → IsLexer a → IsLexer b → (text : List ℕ) → a text ≡ b text)
