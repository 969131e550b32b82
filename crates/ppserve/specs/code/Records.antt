-- The output as a list of records, and the records after a position in it.
use Rattle.std.specs.Prelude.{◌≡◌, ℕ, suc, ◌<◌, ◌≤◌, Bool, true, false, List, [], ◌∷◌, ◌++◌, map, flat_map, length, drop, replicate, codes, decimal, Option, Some, None, MatchOption}
use denote.Ref.{Bor}
use Rattle.pptext.specs.declared.tokens.Token.{Token}
use Rattle.ppshelf.specs.Names.{name_in}
use Rattle.ppexpand.specs.Slices.{slice_tokens}
use Rattle.ppunit.specs.declared.units.Item.{Item}
use Rattle.ppunit.specs.declared.units.Item.TheVariants as item
use Rattle.ppunit.specs.declared.units.UnitOut.{UnitOut}
use Rattle.ppunit.specs.declared.units.Unit.{Unit as UnitOfList}
use Rattle.ppunit.specs.BorrowedItems.{slice_items}
use Rattle.ppunit.specs.declared.items.ItemSlice.{ItemSlice}
use Rattle.ppunit.specs.declared.items.ItemSlice.TheVariants as slice
use Rattle.ppunit.specs.declared.items.ItemSlices.{ItemSlices}
use Rattle.ppunit.specs.Chain.{chain}
use Rattle.ppserve.specs.Output.{percent_encoded, item_lines, barred, dep_line, in_line, last_line}
pub use Rattle.ppserve.specs.code.Segments.{before_mark, first_segment, from_mark, segment_text, systems_with}
use Rattle.ppserve.specs.declared.output.Mode.{Mode}
use Rattle.ppserve.specs.declared.output.Mode.TheVariants.{Dump, Deps, Faults, Text}
use Rattle.ppserve.specs.declared.output.Output.{Output}
use Rattle.ppserve.specs.declared.line_cursor.Lines.{Lines}
use Rattle.ppserve.specs.declared.line_cursor.Lines.TheVariants as lines
use Rattle.ppserve.specs.declared.line_cursor.LineCursor.{LineCursor}
use Rattle.ppserve.specs.declared.text_output.Segment.{Segment}

-- a record of the output: the first line of the unit at an index, the lines of an item, the text of a segment, or the last lines of
-- a unit, with its dependencies or with its include chain
pub data Record : Type 0 where
  First : ℕ → UnitOfList → Record
  OfItem : Item → Record
  OfSegment : List Bool → List Item → Record
  Last : UnitOut → Record
  Faulty : UnitOut → Record

abbrev pub first_line : List (List ℕ) → ℕ → UnitOfList → List ℕ
first_line names i unit = codes "unit " ++ decimal i ++ codes " " ++ percent_encoded (name_in names unit.file) ++ (10 ∷ [])

abbrev pub last_lines : List (List ℕ) → UnitOut → List ℕ
last_lines names out = flat_map (dep_line names) out.deps ++ last_line out.fault

abbrev pub chain_lines : UnitOut → List ℕ
chain_lines out = flat_map in_line (chain out.items) ++ last_line out.fault

abbrev pub record_lines : List (List ℕ) → Record → List ℕ
record_lines names (First i unit) = first_line names i unit
record_lines names (OfItem i) = item_lines i
record_lines names (OfSegment systems items) = barred true (segment_text systems items)
record_lines names (Last out) = last_lines names out
record_lines names (Faulty out) = chain_lines out

abbrev pub last_record : Mode → UnitOut → Record
last_record Dump out = Last out
last_record Deps out = Last out
last_record Faults out = Faulty out
last_record Text out = Last out

-- the items of a segment, if there are any
abbrev pub segment_of : List Bool → List Item → List Record
segment_of systems [] = []
segment_of systems (i ∷ items) = OfSegment systems (i ∷ items) ∷ []

-- the segments of items, of which the first has begun
abbrev pub segments : List Bool → List Item → List Item → List Record
segments systems begun [] = segment_of systems begun
segments systems begun (item.Token t ∷ items) = segments systems (begun ++ item.Token t ∷ []) items
segments systems begun (item.Pragma at ts ∷ items) = segments systems (begun ++ item.Pragma at ts ∷ []) items
segments systems begun (item.Mark m ∷ items) = segment_of systems begun ++ segments (systems_with systems m) (item.Mark m ∷ []) items

abbrev pub records_of_items : Mode → List Bool → List Item → List Record
records_of_items Dump systems items = map OfItem items
records_of_items Deps systems items = []
records_of_items Faults systems items = []
records_of_items Text systems items = segments systems [] items

-- the records of units, which are numbered from n; this number of files has flags
abbrev pub records_from : Mode → ℕ → ℕ → List UnitOfList → List UnitOut → List Record
records_from mode files n [] outs = []
records_from mode files n (unit ∷ units) [] = []
records_from mode files n (unit ∷ units) (out ∷ outs) =
    First n unit ∷ (records_of_items mode (replicate files false) out.items ++ last_record mode out ∷ records_from mode files (suc n) units outs)

-- the number of files whose flags are needed
abbrev pub flags_of : Mode → ℕ → ℕ
flags_of Dump files = 0
flags_of Deps files = 0
flags_of Faults files = 0
flags_of Text files = files

-- all records, and the output
abbrev pub all_records : Output → List Record
all_records s = records_from s.mode (flags_of s.mode (length s.names.now)) 0 s.units.now s.outs.now

abbrev pub output_bytes : Output → List ℕ
output_bytes s = flat_map (record_lines s.names.now) (all_records s)

abbrev pub record_of_token : Token → Record
record_of_token t = OfItem (item.Token t)

-- the flags after the first of items
abbrev pub flags_after : List Bool → List Item → List Bool
flags_after systems [] = systems
flags_after systems (item.Token t ∷ items) = systems
flags_after systems (item.Pragma at ts ∷ items) = systems
flags_after systems (item.Mark m ∷ items) = systems_with systems m

abbrev pub flags_after_slice : List Bool → ItemSlice → List Bool
flags_after_slice systems (slice.Tokens ts) = systems
flags_after_slice systems (slice.Pragma at ts) = systems
flags_after_slice systems (slice.Mark m) = systems_with systems m.now

-- The records of lines. The flags say which files are system headers after the mark of a segment.
abbrev pub records_of_lines : List Bool → Lines → List Record
records_of_lines systems (lines.First i unit) = First i unit.now ∷ []
records_of_lines systems (lines.Tokens ts) = map record_of_token (slice_tokens ts)
records_of_lines systems (lines.Pragma at ts) = OfItem (item.Pragma at ts.now) ∷ []
records_of_lines systems (lines.Mark m) = OfItem (item.Mark m.now) ∷ []
records_of_lines systems (lines.Segment s) = OfSegment systems (first_segment s.items) ∷ []
records_of_lines systems (lines.Last out) = Last out.now ∷ []
records_of_lines systems (lines.Faulty out) = Faulty out.now ∷ []

abbrev pub items_of_slices : Option ItemSlices → List Item
items_of_slices (Some items) = items
items_of_slices None = []

abbrev pub records_of_slices : Mode → List Bool → Option ItemSlices → List Record
records_of_slices mode systems (Some items) = records_of_items mode systems items
records_of_slices mode systems None = []

abbrev pub records_of_last : Mode → Option (Bor UnitOut) → List Record
records_of_last mode (Some out) = last_record mode out.now ∷ []
records_of_last mode None = []

-- the records after a position
abbrev pub remaining_records : LineCursor → List Record
remaining_records c =
    map record_of_token (slice_tokens c.tokens) ++ (records_of_slices c.output.mode c.systems c.items ++ (records_of_last c.output.mode c.last
    ++ records_from c.output.mode (length c.systems) c.next_unit (drop c.next_unit c.output.units.now) (drop c.next_unit c.output.outs.now)))

-- a position in this output
pub record IsOver (s : Output) (c : LineCursor) : Type 0 where
  pub output : c.output ≡ s
  pub flags : length c.systems ≡ flags_of s.mode (length s.names.now)

-- two positions in the same output
pub record Alike (c d : LineCursor) : Type 0 where
  pub output : c.output ≡ d.output
  pub flags : length c.systems ≡ length d.systems

-- What `LineCursor::next` returns: lines of 1 to `most` records, or `None` at the end.
abbrev pub YieldsLines : ℕ → LineCursor → Option Lines → LineCursor → Type 0
YieldsLines most old result new = MatchOption result
    ((remaining_records old ≡ []) × (remaining_records new ≡ []))
    (λ l. (0 < length (records_of_lines new.systems l)) × (length (records_of_lines new.systems l) ≤ most) × (remaining_records old ≡ records_of_lines new.systems l ++ remaining_records new))

-- What `LineCursor::next_items` returns: the next slice of the unit's items, or `None` after the last. Nothing else changes.
pub record YieldsItems (old : LineCursor) (result : Option ItemSlice) (new : LineCursor) : Type 0 where
  pub items : MatchOption result
      ((items_of_slices old.items ≡ []) × (items_of_slices new.items ≡ []))
      (λ s. (0 < length (slice_items s)) × (items_of_slices old.items ≡ slice_items s ++ items_of_slices new.items))
  pub output : new.output ≡ old.output
  pub systems : new.systems ≡ old.systems
  pub tokens : new.tokens ≡ old.tokens
  pub last : new.last ≡ old.last
  pub next_unit : new.next_unit ≡ old.next_unit

-- What `LineCursor::take_segment` returns: the next segment of the unit, or `None` after the last. Only the flags change besides.
pub record TakesSegment (old : LineCursor) (result : Option Segment) (new : LineCursor) : Type 0 where
  pub items : MatchOption result
      ((items_of_slices old.items ≡ []) × (items_of_slices new.items ≡ []) × (new.systems ≡ old.systems))
      (λ s. segments old.systems [] (items_of_slices old.items) ≡ OfSegment new.systems (first_segment s.items) ∷ segments new.systems [] (items_of_slices new.items))
  pub flags : length new.systems ≡ length old.systems
  pub output : new.output ≡ old.output
  pub tokens : new.tokens ≡ old.tokens
  pub last : new.last ≡ old.last
  pub next_unit : new.next_unit ≡ old.next_unit
