-- The text that a compiler takes for a unit: its tokens and pragmas on lines, and line markers as gcc's and clang's option `-E` writes them.
use Rattle.std.specs.Prelude.{ℕ, ◌+◌, ◌-◌, ◌==◌, ◌&&◌, ◌||◌, not, Bool, true, false, List, [], ◌∷◌, ◌++◌, length, min, replicate, is_some, is_none, nat_eq, nat_lt, nat_le, codes, decimal, if◌then◌else◌, Option, Some, None}
use Rattle.std.specs.Str.{bytes_eq}
use Rattle.pptext.specs.declared.tokens.Place.{Place}
use Rattle.pptext.specs.declared.tokens.Token.{Token}
use Rattle.ppprint.specs.Apart.{Written, are_apart}
use Rattle.ppprint.specs.Shown.{Location, PragmaToken, Turn, Enters, Leaves, Renumbers, Shown, ShowsToken, ShowsPragma, ShowsMark}

-- The line that is being written: the location of what is put on it, the number of its characters, and the last token on it. A closed line takes
-- no more tokens.
pub record Line : Type 0 where
  pub number : ℕ
  pub system : Bool
  pub columns : ℕ
  pub last : Option Written
  pub is_closed : Bool

abbrev pub empty_line : ℕ → Bool → Line
empty_line number system = record { number = number; system = system; columns = 0; last = None; is_closed = false }

-- the end of the line, if there is a token on it
abbrev pub line_end : Line → List ℕ
line_end l = if is_some l.last then 10 ∷ [] else []

-- ---- from location to location

-- the flags of a line marker: 1 enters a file, 2 goes back to one, and 3 says that what follows belongs to a system header
abbrev pub turn_flag : Turn → List ℕ
turn_flag Enters = codes " 1"
turn_flag Leaves = codes " 2"
turn_flag Renumbers = []

abbrev pub system_flag : Bool → List ℕ
system_flag true = codes " 3"
system_flag false = []

-- a line marker: the next line has this location
abbrev pub marker : Turn → Location → List ℕ
marker turn at = codes "# " ++ decimal at.line ++ codes " " ++ at.name ++ turn_flag turn ++ system_flag at.system ++ (10 ∷ [])

-- the largest number of new-lines that are written in the place of a marker
abbrev pub most_new_lines : ℕ
most_new_lines = 8

-- how a location is reached from a line: it is that of the line, it is reached by n new-lines, or by a marker
pub data Way : Type 0 where
  Stay : Way
  Down : ℕ → Way
  Jump : Way

abbrev pub same_flag : Bool → Bool → Bool
same_flag a b = if a then b else not b

-- Another system flag needs a marker. So does the same line, if it is closed, and a line above it or far below.
abbrev pub way_to : Line → Location → Way
way_to l at =
    if not (same_flag l.system at.system) then Jump
    else if l.number == at.line then (if l.is_closed then Jump else Stay)
    else if nat_lt l.number at.line && nat_le (at.line - l.number) most_new_lines then Down (at.line - l.number)
    else Jump

-- what is written on this way
abbrev pub way_text : Line → Location → Way → List ℕ
way_text l at Stay = []
way_text l at (Down n) = replicate n 10
way_text l at Jump = line_end l ++ marker Renumbers at

-- the line that it leads to
abbrev pub way_line : Line → Location → Way → Line
way_line l at Stay = l
way_line l at way = empty_line at.line at.system

-- ---- tokens

-- the largest number of spaces that keep a column
abbrev pub most_spaces : ℕ
most_spaces = 1024

-- n spaces, if they are not too many
abbrev pub padding : ℕ → ℕ
padding n = if nat_le n most_spaces then n else 0

abbrev pub is_hash_text : List ℕ → Bool
is_hash_text text = bytes_eq text (codes "#") || bytes_eq text (codes "%:")

-- A token that could begin a directive, or could be read so with the token after it, doesn't begin a line.
abbrev pub is_indented : List ℕ → Bool
is_indented text = is_hash_text text || bytes_eq text (codes "##")

-- the spaces before the first token of a line, if it is to have this many columns before it
abbrev pub start_spaces : ℕ → List ℕ → ℕ
start_spaces columns text = let n = padding columns in if n == 0 && is_indented text then 1 else n

-- they keep its column
abbrev pub first_spaces : Token → ℕ
first_spaces t = start_spaces (t.used.col - 1) t.text

abbrev pub same_place : Place → Place → Bool
same_place a b = nat_eq a.file b.file && nat_eq a.line b.line && nat_eq a.col b.col

-- the spaces that take a token to its column, if it is spelled where it is used
abbrev pub column_spaces : ℕ → Token → ℕ
column_spaces columns t = if same_place t.at t.used then padding (t.used.col - 1 - columns) else 0

abbrev pub written : Token → Written
written t = record { kind = t.kind; text = t.text }

-- the space between two tokens
abbrev pub space_between : Written → Token → ℕ
space_between last t = if t.space || are_apart last (written t) then 1 else 0

abbrev pub later_spaces : ℕ → Written → Token → ℕ
later_spaces columns last t = let n = space_between last t in n + column_spaces (columns + n) t

-- the spaces before a token on a line
abbrev pub spaces_before : Line → Token → ℕ
spaces_before l t = spaces_after l.last
  where
    spaces_after : Option Written → ℕ
    spaces_after None = first_spaces t
    spaces_after (Some last) = later_spaces l.columns last t

-- A `\` is not the last character of a line: the line would be continued (5.1.1.2).
abbrev pub space_after : List ℕ → ℕ
space_after text = if bytes_eq text (92 ∷ []) then 1 else 0

abbrev pub spaces : ℕ → List ℕ
spaces n = replicate n 32

-- Characters beyond the largest column that a token can have aren't counted.
abbrev pub counted : ℕ → ℕ
counted columns = min columns 4294967295

abbrev pub token_text : Line → Token → List ℕ
token_text l t = spaces (spaces_before l t) ++ t.text ++ spaces (space_after t.text)

-- the line after a token; `#` at its beginning closes it, so that nothing is read as a directive's name
abbrev pub line_after : Line → Token → Line
line_after l t =
    record {
      number = l.number;
      system = l.system;
      columns = counted (l.columns + length (token_text l t));
      last = Some (written t);
      is_closed = is_none l.last && is_hash_text t.text;
    }

-- ---- pragmas

abbrev pub pragma_written : PragmaToken → Written
pragma_written t = record { kind = t.kind; text = t.text }

abbrev pub pragma_space : Option Written → PragmaToken → ℕ
pragma_space None t = 1
pragma_space (Some last) t = if t.space || are_apart last (pragma_written t) then 1 else 0

abbrev pub last_space : Option Written → ℕ
last_space None = 0
last_space (Some last) = space_after last.text

-- the tokens of a pragma after this one
abbrev pub pragma_tokens_text : Option Written → List PragmaToken → List ℕ
pragma_tokens_text last [] = spaces (last_space last)
pragma_tokens_text last (t ∷ ts) = spaces (pragma_space last t) ++ t.text ++ pragma_tokens_text (Some (pragma_written t)) ts

abbrev pub pragma_text : List PragmaToken → List ℕ
pragma_text ts = codes "#pragma" ++ pragma_tokens_text None ts ++ (10 ∷ [])

-- a pragma has a line of its own
abbrev pub own_line : Line → Location → List ℕ
own_line l at = if is_some l.last then line_end l ++ marker Renumbers at else []

-- ---- all

-- the text of items after a line
abbrev pub text_after : Line → List Shown → List ℕ
text_after l [] = line_end l
text_after l (ShowsToken at t ∷ items) =
    let way = way_to l at in let m = way_line l at way in
    way_text l at way ++ token_text m t ++ text_after (line_after m t) items
text_after l (ShowsPragma at ts ∷ items) =
    let way = way_to l at in let m = way_line l at way in
    way_text l at way ++ own_line m at ++ pragma_text ts ++ text_after (empty_line (at.line + 1) at.system) items
text_after l (ShowsMark at turn ∷ items) = line_end l ++ marker turn at ++ text_after (empty_line at.line at.system) items

-- the text of a unit's items
abbrev pub text_of : List Shown → List ℕ
text_of items = text_after (empty_line 0 false) items
