-- A file as its lines, or its first fault.
use Rattle.std.specs.Prelude.{◌≡◌, ℕ, ◌+◌, ◌-◌, List, [], ◌∷◌, map, length, take, drop, Option, None, Some, Result, Ok, Err, ◌⊎◌}
use Rattle.std.specs.List.{flat_map}
use Rattle.pptext.specs.declared.tokens.Place.{Place}
use Rattle.pptext.specs.declared.tokens.Token.{Token}
use Rattle.pptext.specs.declared.tokens.Fault.{Fault}
use Rattle.pptext.specs.declared.tokens.Kind.{Kind}
use Rattle.pptext.specs.declared.sources.Line.{Line}
use Rattle.pptext.specs.declared.sources.Profile.{Profile}
use Rattle.pptext.specs.declared.sources.Profile.TheVariants.{C11}
use Rattle.pptext.specs.declared.characters.Char.{Char}
use Rattle.pptext.specs.Clean.{cleaned, with_locations}
use Rattle.pptext.specs.Lexemes.{Lexeme, Spelled, Tokenizes, Unclosed}
use Rattle.pptext.specs.Lines.{LogicalLine, lines_of}
use Rattle.pptext.specs.Tokens.{fault}
use Rattle.pptext.specs.Tree.{Role, Opens, Elses, role, branch_after, group_fault}

-- The index of the line that ends the group that a line with index k begins, before these lines: the next branch line of its if-section, or its
-- `#endif`. None for a line that begins no group.
abbrev pub next_branch : ℕ → Role → List LogicalLine → Option ℕ
next_branch k Opens rest = branch_after 0 (k + 1) (map role rest)
next_branch k (Elses final) rest = branch_after 0 (k + 1) (map role rest)
next_branch k s rest = None

-- the lines as spans of the tokens; the first has index k, and its tokens begin at `start`
abbrev pub spans : ℕ → ℕ → List LogicalLine → List Line
spans k start [] = []
spans k start (r ∷ rs) =
    let stop = start + length r.tokens in
    record { start = start; end = stop; number = r.number; directive = r.directive; next_branch = next_branch k (role r) rs } ∷ spans (k + 1) stop rs

abbrev pub line_tokens : List LogicalLine → List Token
line_tokens rs = flat_map (λ r. r.tokens) rs

-- the lines into which these spans divide the tokens
abbrev pub lines_from : List Token → List Line → List LogicalLine
lines_from ts ls = map (λ l. record { tokens = take (l.end - l.start) (drop l.start ts); number = l.number; directive = l.directive }) ls

abbrev pub file_fault : ℕ → Place → Fault
file_fault number at = fault number at []

-- the lines of a file without fault
pub record IsSource (profile : Profile) (file : ℕ) (bytes : List ℕ) (lines : List LogicalLine) : Type 0 where
  pub chars : List Char
  pub lexemes : List Lexeme
  pub cleaned : cleaned profile file bytes ≡ Ok chars
  pub tokenized : Tokenizes profile chars lexemes
  pub grouped : group_fault [] (lines_of profile lexemes) ≡ None
  pub lines_are : lines ≡ lines_of profile lexemes

-- the first fault of a file
pub data IsFaultOf (profile : Profile) (file : ℕ) (bytes : List ℕ) : Fault → Type 0 where
  -- the last line ends in a backslash
  spliced_end : {p : Place} → cleaned profile file bytes ≡ Err p → IsFaultOf profile file bytes (file_fault 2 p)
  -- otherwise a comment is not closed
  open_comment : {chars : List Char} {p : Place} → cleaned profile file bytes ≡ Ok chars → Unclosed profile chars p → IsFaultOf profile file bytes (file_fault 1 p)
  -- otherwise the groups have a fault
  bad_groups : {chars : List Char} {lexemes : List Lexeme} {f : Fault} → cleaned profile file bytes ≡ Ok chars → Tokenizes profile chars lexemes → group_fault [] (lines_of profile lexemes) ≡ Some f → IsFaultOf profile file bytes f

-- the result of reading a file
abbrev pub Reads : Profile → ℕ → List ℕ → Result (List LogicalLine) Fault → Type 0
Reads profile file bytes (Ok lines) = IsSource profile file bytes lines
Reads profile file bytes (Err f) = IsFaultOf profile file bytes f

-- outside an include line the text is one token of this kind. All profiles tokenize it alike, so C11 is used.
abbrev pub IsOneToken : List ℕ → Kind → Type 0
IsOneToken text k = let cs = with_locations 0 1 1 text in Tokenizes C11 cs (record { kind = Spelled k; chars = cs } ∷ [])

abbrev pub IsUnmatchedQuote : List ℕ → Type 0
IsUnmatchedQuote text = (text ≡ 39 ∷ []) ⊎ (text ≡ 34 ∷ [])
