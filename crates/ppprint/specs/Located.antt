-- The presumed locations of a unit's items, by the marks among them.
use Rattle.std.specs.Prelude.{ℕ, ◌+◌, ◌-◌, ◌==◌, ◌&&◌, Bool, true, false, List, [], ◌∷◌, map, nat_eq, if◌then◌else◌, slice_index_or, set}
use Rattle.pptext.specs.declared.tokens.Token.{Token}
use Rattle.ppshelf.specs.Files.{max_rows}
use Rattle.ppunit.specs.declared.units.Item.{Item}
use Rattle.ppunit.specs.declared.units.Item.TheVariants as item
use Rattle.ppunit.specs.declared.units.Mark.{Mark}
use Rattle.ppunit.specs.declared.units.MarkSort.{MarkSort}
use Rattle.ppunit.specs.declared.units.MarkSort.TheVariants as sort
use Rattle.ppprint.specs.Shown.{Location, PragmaToken, Turn, Enters, Leaves, Renumbers, Shown, ShowsToken, ShowsPragma, ShowsMark}
use Rattle.ppprint.specs.Operators.{with_operators, left_to_compilers}

-- What the marks up to here say: the current file, the presumed number of one of its physical lines, its presumed name, and for each file
-- whether it is a system header.
pub record Numbering : Type 0 where
  pub row : ℕ
  pub physical : ℕ
  pub line : ℕ
  pub name : List ℕ
  pub systems : List Bool

-- before the first mark; the list has these files
abbrev pub unnumbered : List (List ℕ) → Numbering
unnumbered files = record { row = max_rows; physical = 0; line = 0; name = []; systems = map (λ file. false) files }

-- what a mark says, where these files are system headers
abbrev pub numbered : List Bool → Mark → Numbering
numbered systems m = record { row = m.row; physical = m.physical; line = m.line; name = m.name; systems = systems }

-- after a mark; a file that was once a system header stays one
abbrev pub renumbered : Numbering → Mark → Numbering
renumbered n m = numbered (if m.system then set n.systems m.row true else n.systems) m

-- the presumed number of a physical line of the current file
abbrev pub presumed : Numbering → ℕ → ℕ
presumed n physical = n.line + (physical - n.physical)

-- whether what the file at this row spells belongs to a system header; what a unit's definitions spell belongs to the current file
abbrev pub is_system : Numbering → ℕ → Bool
is_system n row = slice_index_or n.systems (if row == max_rows then n.row else row) false

-- the location of what the file at a row spells and a physical line of the current file uses
abbrev pub location : Numbering → ℕ → ℕ → Location
location n physical row = record { name = n.name; line = presumed n physical; system = is_system n row }

-- The unit's own file is entered at its own first byte, and every other file at an include line or a definition.
abbrev pub turn_of : ℕ → MarkSort → Turn
turn_of row (sort.Enter at) = if nat_eq at.file row && nat_eq at.line 1 && nat_eq at.col 1 then Renumbers else Enters
turn_of row sort.Leave = Leaves
turn_of row sort.Line = Renumbers

abbrev pub pragma_token : Token → PragmaToken
pragma_token t = record { kind = t.kind; text = t.text; space = t.space }

-- the items after a numbering, each at its location
abbrev pub located : Numbering → List Item → List Shown
located n [] = []
located n (item.Token t ∷ items) = ShowsToken (location n t.used.line t.at.file) t ∷ located n items
located n (item.Pragma at ts ∷ items) = ShowsPragma (location n at.line n.row) (map pragma_token ts) ∷ located n items
located n (item.Mark m ∷ items) =
    let after = renumbered n m in
    ShowsMark (location after m.physical m.row) (turn_of m.row m.sort) ∷ located after items

-- what a compiler is to see of the items of a unit, whose list has these files
abbrev pub shown : List (List ℕ) → List Item → List Shown
shown files items = left_to_compilers (with_operators 0 (located (unnumbered files) items))
