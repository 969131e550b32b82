-- The segments of a unit's items: each is a mark, and the items up to the next one.
use Rattle.std.specs.Prelude.{ℕ, Bool, true, List, [], ◌∷◌, set, if◌then◌else◌}
use Rattle.ppunit.specs.declared.units.Item.{Item}
use Rattle.ppunit.specs.declared.units.Item.TheVariants as item
use Rattle.ppunit.specs.declared.units.Mark.{Mark}
use Rattle.ppprint.specs.Located.{located, location, numbered, turn_of, unnumbered}
use Rattle.ppprint.specs.Operators.{with_operators, left_to_compilers}
use Rattle.ppprint.specs.Shown.{Shown, ShowsMark}
use Rattle.ppprint.specs.Text.{text_of}

-- the system files after a mark
abbrev pub systems_with : List Bool → Mark → List Bool
systems_with systems m = if m.system then set systems m.row true else systems

-- the items before the first mark
abbrev pub before_mark : List Item → List Item
before_mark [] = []
before_mark (item.Token t ∷ items) = item.Token t ∷ before_mark items
before_mark (item.Pragma at ts ∷ items) = item.Pragma at ts ∷ before_mark items
before_mark (item.Mark m ∷ items) = []

-- the others
abbrev pub from_mark : List Item → List Item
from_mark [] = []
from_mark (item.Token t ∷ items) = from_mark items
from_mark (item.Pragma at ts ∷ items) = from_mark items
from_mark (item.Mark m ∷ items) = item.Mark m ∷ items

-- the first item, and those before the next mark
abbrev pub first_segment : List Item → List Item
first_segment [] = []
first_segment (i ∷ items) = i ∷ before_mark items

-- the items of a segment at their locations; the flags say which files are system headers after its mark
abbrev pub located_segment : List Bool → List Item → List Shown
located_segment systems [] = []
located_segment systems (item.Token t ∷ items) = located (record (unnumbered []) { systems = systems }) (item.Token t ∷ items)
located_segment systems (item.Pragma at ts ∷ items) = located (record (unnumbered []) { systems = systems }) (item.Pragma at ts ∷ items)
located_segment systems (item.Mark m ∷ items) =
    let n = numbered systems m in ShowsMark (location n m.physical m.row) (turn_of m.row m.sort) ∷ located n items

abbrev pub segment_text : List Bool → List Item → List ℕ
segment_text systems items = text_of (left_to_compilers (with_operators 0 (located_segment systems items)))
