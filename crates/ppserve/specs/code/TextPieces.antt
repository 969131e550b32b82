-- The pieces of a text, each line after a `|`, and what printing them leaves.
use Rattle.std.specs.Prelude.{◌≡◌, ℕ, zero, suc, ◌==◌, Bool, true, false, List, [], ◌∷◌, ◌++◌, Option, map, replicate, flat_map, is_none, codes, decimal, if◌then◌else◌}
use Rattle.pptext.specs.declared.tokens.Token.{Token}
use Rattle.ppunit.specs.declared.units.Item.{Item}
use Rattle.ppprint.specs.Located.{Numbering, location, located}
use Rattle.ppprint.specs.Operators.{with_operators, left_to_compilers}
use Rattle.ppprint.specs.Apart.{Written}
use Rattle.ppprint.specs.Shown.{Location, PragmaToken, Renumbers, Shown, ShowsToken, Turn}
use Rattle.ppprint.specs.Text.{Line, pragma_tokens_text, spaces, space_after, system_flag, text_after, turn_flag}
use Rattle.ppprint.specs.code.Progress.{Progress}
use Rattle.ppprint.specs.declared.printer.Way.{Way}
use Rattle.ppprint.specs.declared.printer.Way.TheVariants as way
use Rattle.ppserve.specs.Output.{barred}
use Rattle.ppserve.specs.code.Printing.{Puts}

-- ---- pieces

abbrev pub barred_byte : ℕ → List ℕ
barred_byte c = if c == 10 then c ∷ 124 ∷ [] else c ∷ []

-- a text within a line: a `|` follows each new-line
abbrev pub with_bars : List ℕ → List ℕ
with_bars text = flat_map barred_byte text

-- the end of a line that has a token
abbrev pub ended : Bool → List ℕ
ended true = 10 ∷ []
ended false = []

abbrev pub marker_bytes : Bool → Turn → Location → List ℕ
marker_bytes ends turn at = ended ends ++ codes "|# " ++ decimal at.line ++ codes " " ++ with_bars at.name ++ turn_flag turn ++ system_flag at.system ++ (10 ∷ [])

-- n empty lines
abbrev pub empty_lines : ℕ → List ℕ
empty_lines n = flat_map (λ c. 124 ∷ c ∷ []) (replicate n 10)

abbrev pub lines_down : Bool → ℕ → List ℕ
lines_down ends zero = []
lines_down true (suc n) = 10 ∷ empty_lines n
lines_down false (suc n) = empty_lines (suc n)

abbrev pub barred_way : Way → Location → List ℕ
barred_way way.Stay at = []
barred_way (way.Down ends lines) at = lines_down ends lines
barred_way (way.Jump ends) at = marker_bytes ends Renumbers at

-- the marker of a pragma on the line of a token
abbrev pub own_marker : Bool → Location → List ℕ
own_marker true at = marker_bytes true Renumbers at
own_marker false at = []

-- the bar of a line that begins
abbrev pub bar : Bool → List ℕ
bar true = 124 ∷ []
bar false = []

-- what is before a token on its line, and the token
abbrev pub token_bytes : Bool → ℕ → List ℕ → List ℕ
token_bytes is_first count text = bar is_first ++ spaces count ++ with_bars text ++ spaces (space_after text)

-- the tokens of a pragma after this one, and the end of its line
abbrev pub pragma_bytes : Option Written → List PragmaToken → List ℕ
pragma_bytes last ts = with_bars (pragma_tokens_text last ts) ++ 10 ∷ []

-- the location of the line that is being written
abbrev pub line_place : Progress → Location
line_place p = record { name = p.numbering.name; line = p.line.number; system = p.line.system }

-- ---- what is left

-- what is to be printed of items after a line
abbrev pub text_left : Line → List Shown → List ℕ
text_left l items = barred (is_none l.last) (text_after l items)

-- Some bytes are printed, and so what is to be printed of items after the line l becomes what is to be printed after the line m.
pub record PutsShown {V : Type 0} (written : V → Option (List ℕ)) (has_failed : V → Bool) (w v : V) (p q : List ℕ) (l : Line) (items : List Shown) (m : Line) : Type 0 where
  pub bytes : List ℕ
  pub out : Puts written has_failed w v p q bytes
  pub left : (rest : List Shown) → text_left l (items ++ rest) ≡ bytes ++ text_left m rest

abbrev pub place_in : Numbering → Token → Location
place_in n t = location n t.used.line t.at.file

-- tokens at their locations
abbrev pub shown_tokens : Numbering → List Token → List Shown
shown_tokens n ts = map (λ t. ShowsToken (place_in n t) t) ts

-- the items behind these tokens, which are held
abbrev pub items_left : Numbering → List Token → List Item → List Shown
items_left n held items = left_to_compilers (with_operators 0 (shown_tokens n held ++ located n items))

-- Some bytes are printed, and so what is to be printed of items behind the tokens `held` becomes what is to be printed behind the tokens `holds`.
pub record PutsItems {V : Type 0} (written : V → Option (List ℕ)) (has_failed : V → Bool) (w v : V) (p q : List ℕ) (old : Progress) (held : List Token) (items : List Item) (new : Progress) (holds : List Token) : Type 0 where
  pub bytes : List ℕ
  pub out : Puts written has_failed w v p q bytes
  pub left : (rest : List Item) → text_left old.line (items_left old.numbering held (items ++ rest)) ≡ bytes ++ text_left new.line (items_left new.numbering holds rest)
