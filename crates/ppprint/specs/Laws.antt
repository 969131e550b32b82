-- Theorems about the text: what is read back of it, and that the first translation phases find the same in it.
use Rattle.std.specs.Prelude.{◌≡◌, ◌⊎◌, ℕ, ◌<◌, ◌^◌, List, [], ◌∷◌, ◌++◌, map, IsTrue, Contains, Ok}
use Rattle.std.specs.List.{flat_map, AllByRecursion}
use Rattle.pptext.specs.declared.sources.Profile.{Profile}
use Rattle.pptext.specs.Clean.{with_locations, cleaned, trigraph}
use Rattle.pptext.specs.Lexemes.{Lexeme, Comment, Tokenizes}
use Rattle.pptext.specs.Profiles.{is_gnu}
use Rattle.pptext.specs.Sources.{IsUnmatchedQuote}
use Rattle.pptext.specs.Spellings.{Spells, IsStr}
use Rattle.ppunit.specs.declared.units.Item.{Item}
use Rattle.ppunit.specs.declared.units.Item.TheVariants as item
use Rattle.ppunit.specs.declared.units.Mark.{Mark}
use Rattle.ppprint.specs.Apart.{Written}
use Rattle.ppprint.specs.Located.{unnumbered, located, shown}
use Rattle.ppprint.specs.Shown.{Location, PragmaToken, Turn, Enters, Leaves, Renumbers, Shown, ShowsToken, ShowsPragma, ShowsMark}
use Rattle.ppprint.specs.Text.{written, pragma_written, text_of}
use Rattle.ppprint.specs.Reads.{Reading, EntersFile, LeavesFile, ReadsToken, ReadsPragma, tokens_of_lexemes, HasTokens, Reads, nowhere}

-- ---- spellings

-- the text is a spelling of the kind (6.4), and no unmatched quote
abbrev pub IsSpelled : Written → Type 0
IsSpelled t = Spells t.kind t.text × (¬ IsUnmatchedQuote t.text)

-- the presumed name is a string literal, and the number has 64 bits
pub record IsPrintable (at : Location) : Type 0 where
  pub name : IsStr at.name
  pub line : at.line < 2 ^ 64

-- an item's tokens are spelled by their kinds
abbrev pub IsWellSpelled : Shown → Type 0
IsWellSpelled (ShowsToken at t) = IsPrintable at × IsSpelled (written t)
IsWellSpelled (ShowsPragma at ts) = IsPrintable at × AllByRecursion (λ t. IsSpelled (pragma_written t)) ts
IsWellSpelled (ShowsMark at turn) = IsPrintable at

abbrev pub AreWellSpelled : List Shown → Type 0
AreWellSpelled items = AllByRecursion IsWellSpelled items

-- ---- the text reads back

abbrev pub turn_reading : Location → Turn → List Reading
turn_reading at Enters = EntersFile at ∷ []
turn_reading at Leaves = LeavesFile at ∷ []
turn_reading at Renumbers = []

-- what is to be read of an item
abbrev pub reading_of : Shown → List Reading
reading_of (ShowsToken at t) = ReadsToken at (written t) ∷ []
reading_of (ShowsPragma at ts) = ReadsPragma at (map pragma_written ts) ∷ []
reading_of (ShowsMark at turn) = turn_reading at turn

abbrev pub readings_of : List Shown → List Reading
readings_of items = flat_map reading_of items

-- items whose locations are those of marks: each has the name of the last mark before it
abbrev pub AreNamed : List ℕ → List Shown → Type 0
AreNamed name [] = Unit {0}
AreNamed name (ShowsToken at t ∷ items) = (at.name ≡ name) × AreNamed name items
AreNamed name (ShowsPragma at ts ∷ items) = (at.name ≡ name) × AreNamed name items
AreNamed name (ShowsMark at turn ∷ items) = AreNamed at.name items

-- The text of items, read by its lines, has exactly their tokens and pragmas, with kinds and spellings, each at its location, and enters and leaves
-- the files that they enter and leave.
abbrev pub ReadsBack : Type 0
ReadsBack = (profile : Profile) (items : List Shown) → AreWellSpelled items → AreNamed [] items → Reads profile nowhere (text_of items) (readings_of items)

-- A text is read in one way.
abbrev pub ReadsOnce : Type 0
ReadsOnce = (profile : Profile) (at : Location) (text : List ℕ) (r s : List Reading) → Reads profile at text r → Reads profile at text s → r ≡ s

-- ---- the text as one file

-- the lines of a text have these tokens, one line after the other
pub data LinesHaveTokens (profile : Profile) : List ℕ → List Written → Type 0 where
  no_line : LinesHaveTokens profile [] []
  first_line : {line rest : List ℕ} {first others : List Written}
      → (¬ Contains line 10)
      → HasTokens profile line first
      → LinesHaveTokens profile rest others
      → LinesHaveTokens profile (line ++ 10 ∷ rest) (first ++ others)

-- Phase 3 finds in the whole text the tokens of its lines, and no comment.
pub record IsWhole (profile : Profile) (file : ℕ) (text : List ℕ) : Type 0 where
  pub lexemes : List Lexeme
  pub tokenizes : Tokenizes profile (with_locations file 1 1 text) lexemes
  pub lines : LinesHaveTokens profile text (tokens_of_lexemes lexemes)
  pub no_comment : AllByRecursion (λ (p : Lexeme). ¬ (p.kind ≡ Comment)) lexemes

abbrev pub ReadsAsOneFile : Type 0
ReadsAsOneFile = (profile : Profile) (file : ℕ) (items : List Shown) → AreWellSpelled items → IsWhole profile file (text_of items)

-- ---- phases 1 and 2

-- no trigraph (5.2.1.1) is in the text
abbrev pub HasNoTrigraph : List ℕ → Type 0
HasNoTrigraph text = (before after : List ℕ) (c : ℕ) → text ≡ before ++ (63 ∷ 63 ∷ c ∷ after) → trigraph c ≡ 0

abbrev pub HasItemNoTrigraph : Shown → Type 0
HasItemNoTrigraph (ShowsToken at t) = HasNoTrigraph at.name × HasNoTrigraph t.text
HasItemNoTrigraph (ShowsPragma at ts) = HasNoTrigraph at.name × AllByRecursion (λ (t : PragmaToken). HasNoTrigraph t.text) ts
HasItemNoTrigraph (ShowsMark at turn) = HasNoTrigraph at.name

-- Phases 1 and 2 change nothing in the text of items that begin with a mark, unless a trigraph is in a spelling or a name.
abbrev pub StaysInPhases1And2 : Type 0
StaysInPhases1And2 =
    (profile : Profile) (file : ℕ) (at : Location) (turn : Turn) (items : List Shown)
    → AreWellSpelled (ShowsMark at turn ∷ items)
    → IsTrue (is_gnu profile) ⊎ AllByRecursion HasItemNoTrigraph (ShowsMark at turn ∷ items)
    → let text = text_of (ShowsMark at turn ∷ items) in cleaned profile file text ≡ Ok (with_locations file 1 1 text)

-- ---- what is shown of a unit

-- an item's tokens are spelled by their kinds, and the name of a mark is a string literal
abbrev pub IsItemSpelled : Item → Type 0
IsItemSpelled (item.Token t) = IsSpelled (written t)
IsItemSpelled (item.Pragma at ts) = AllByRecursion (λ t. IsSpelled (written t)) ts
IsItemSpelled (item.Mark m) = IsStr m.name

-- the presumed number has 64 bits
abbrev pub HasNumber : Shown → Type 0
HasNumber (ShowsToken at t) = at.line < 2 ^ 64
HasNumber (ShowsPragma at ts) = at.line < 2 ^ 64
HasNumber (ShowsMark at turn) = at.line < 2 ^ 64

-- What is shown of a unit's items that begin with a mark is well spelled, the pragmas of the operator `_Pragma` too, and named by its marks.
abbrev pub ShowsWellSpelled : Type 0
ShowsWellSpelled =
    (files : List (List ℕ)) (m : Mark) (items : List Item)
    → AllByRecursion IsItemSpelled (item.Mark m ∷ items)
    → AllByRecursion HasNumber (located (unnumbered files) (item.Mark m ∷ items))
    → AreWellSpelled (shown files (item.Mark m ∷ items)) × AreNamed [] (shown files (item.Mark m ∷ items))
