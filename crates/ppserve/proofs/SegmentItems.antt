-- The items of a segment, by slices, and the text of a segment.
use Rattle.std.proofs.Common.{◌≡◌, ◌<◌, Bool, true, false, List, [], ◌∷◌, ◌++◌, map, length, refl, sym, ap, ◌∙◌, arith}
use denote.Ref.{Bor}
use Rattle.pptext.specs.declared.tokens.Token.{Token}
use Rattle.ppexpand.specs.Slices.{slice_tokens}
use Rattle.ppunit.specs.BorrowedItems.{slice_items}
use Rattle.ppunit.specs.declared.units.Item.{Item}
use Rattle.ppunit.specs.declared.units.Item.TheVariants as item
use Rattle.ppunit.specs.declared.units.Mark.{Mark}
use Rattle.ppunit.specs.declared.items.ItemSlice.{ItemSlice}
use Rattle.ppunit.specs.declared.items.ItemSlice.TheVariants as slice
use Rattle.ppprint.specs.Located.{Numbering, located, location, numbered, turn_of, unnumbered}
use Rattle.ppprint.specs.Operators.{left_to_compilers, with_operators}
use Rattle.ppprint.specs.Text.{Line, empty_line}
use Rattle.ppserve.specs.Output.{barred}
use Rattle.ppserve.specs.code.Segments.{before_mark, first_segment, from_mark, located_segment, segment_text}
use Rattle.ppserve.specs.code.TextPieces.{items_left, marker_bytes, text_left}
use Rattle.ppserve.proofs.BarredLines.{mark_left}

-- ---- items without a mark

abbrev pub Unmarked : List Item → Type 0
Unmarked items = before_mark items ≡ items

pub tokens_unmarked : (ts : List Token) → Unmarked (map item.Token ts)
tokens_unmarked [] = refl
tokens_unmarked (t ∷ ts) = ap (λ z. item.Token t ∷ z) (tokens_unmarked ts)

-- before further items
pub before_tokens : (ts : List Token) (items : List Item) → before_mark (map item.Token ts ++ items) ≡ map item.Token ts ++ before_mark items
before_tokens [] items = refl
before_tokens (t ∷ ts) items = ap (λ z. item.Token t ∷ z) (before_tokens ts items)

pub from_tokens : (ts : List Token) (items : List Item) → from_mark (map item.Token ts ++ items) ≡ from_mark items
from_tokens [] items = refl
from_tokens (t ∷ ts) items = from_tokens ts items

pub before_slice : (s : ItemSlice) (items : List Item) → Unmarked (slice_items s) → before_mark (slice_items s ++ items) ≡ slice_items s ++ before_mark items
before_slice (slice.Tokens ts) items e = before_tokens (slice_tokens ts) items
before_slice (slice.Pragma at ts) items e = refl
before_slice (slice.Mark m) items e = absurd (omega (arith, ap length e))

pub from_slice : (s : ItemSlice) (items : List Item) → Unmarked (slice_items s) → from_mark (slice_items s ++ items) ≡ from_mark items
from_slice (slice.Tokens ts) items e = from_tokens (slice_tokens ts) items
from_slice (slice.Pragma at ts) items e = refl
from_slice (slice.Mark m) items e = absurd (omega (arith, ap length e))

-- a slice that is no mark
pub unmarked_slice : (s : ItemSlice) → ((m : Bor Mark) → s ≡ slice.Mark m → ⊥) → Unmarked (slice_items s)
unmarked_slice (slice.Tokens ts) other = tokens_unmarked (slice_tokens ts)
unmarked_slice (slice.Pragma at ts) other = refl
unmarked_slice (slice.Mark m) other = absurd (other m refl)

unmarked_first_token : (ts : List Token) (items : List Item) → 0 < length (map item.Token ts) → first_segment (map item.Token ts ++ items) ≡ before_mark (map item.Token ts ++ items)
unmarked_first_token [] items none = absurd (omega (arith, none))
unmarked_first_token (t ∷ ts) items some = refl

pub unmarked_first : (s : ItemSlice) (items : List Item) → 0 < length (slice_items s) → ((m : Bor Mark) → s ≡ slice.Mark m → ⊥) → first_segment (slice_items s ++ items) ≡ before_mark (slice_items s ++ items)
unmarked_first (slice.Tokens ts) items some other = unmarked_first_token (slice_tokens ts) items some
unmarked_first (slice.Pragma at ts) items some other = refl
unmarked_first (slice.Mark m) items some other = absurd (other m refl)

-- the locations of items up to the first mark
pub located_before : (systems : List Bool) (items : List Item) → located_segment systems (before_mark items) ≡ located (record (unnumbered []) { systems = systems }) (before_mark items)
located_before systems [] = refl
located_before systems (item.Token t ∷ items) = refl
located_before systems (item.Pragma at ts ∷ items) = refl
located_before systems (item.Mark m ∷ items) = refl

-- ---- the text of a segment

pub segment_left : (systems : List Bool) (items : List Item) → first_segment items ≡ before_mark items
    → text_left (empty_line 0 false) (items_left (record (unnumbered []) { systems = systems }) [] (before_mark items)) ≡ barred true (segment_text systems (first_segment items))
segment_left systems items e =
    ap (λ z. text_left (empty_line 0 false) (left_to_compilers (with_operators 0 z))) (sym (located_before systems items)) ∙ ap (λ z. barred true (segment_text systems z)) (sym e)

pub mark_segment : (systems : List Bool) (m : Mark) (items : List Item) (n : Numbering) (l : Line) (ends : Bool) → n ≡ numbered systems m
    → l ≡ empty_line (location n m.physical m.row).line (location n m.physical m.row).system → ends ≡ false
    → marker_bytes ends (turn_of m.row m.sort) (location n m.physical m.row) ++ text_left l (items_left n [] (before_mark items)) ≡ barred true (segment_text systems (item.Mark m ∷ before_mark items))
mark_segment systems m items n l ends numbering line none =
    let turn = turn_of m.row m.sort in
    let begun = numbered systems m in
    ap (λ b. marker_bytes b turn (location n m.physical m.row) ++ text_left l (items_left n [] (before_mark items))) none
    ∙ ap (λ x. marker_bytes false turn (location n m.physical m.row) ++ text_left x (items_left n [] (before_mark items))) line
    ∙ ap (λ (k : Numbering). let at = location k m.physical m.row in marker_bytes false turn at ++ text_left (empty_line at.line at.system) (items_left k [] (before_mark items))) numbering
    ∙ sym (mark_left (empty_line 0 false) (location begun m.physical m.row) turn (items_left begun [] (before_mark items)))
