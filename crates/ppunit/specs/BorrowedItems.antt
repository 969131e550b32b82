-- Borrowed items: single ones, and slices of a unit's items.
use Rattle.std.specs.Prelude.{ℕ, suc, List, [], ◌∷◌, map}
use Rattle.ppexpand.specs.Slices.{ref_token, slice_tokens}
use Rattle.ppunit.specs.declared.units.Item.{Item}
use Rattle.ppunit.specs.declared.units.Item.TheVariants as item
use Rattle.ppunit.specs.declared.items.ItemRef.{ItemRef}
use Rattle.ppunit.specs.declared.items.ItemRef.TheVariants as ref
use Rattle.ppunit.specs.declared.items.ItemSlice.{ItemSlice}
use Rattle.ppunit.specs.declared.items.ItemSlice.TheVariants as slice

-- the item that a borrowed one refers to
abbrev pub ref_item : ItemRef → Item
ref_item (ref.Token t) = item.Token (ref_token t)
ref_item (ref.Pragma at ts) = item.Pragma at ts.now
ref_item (ref.Mark m) = item.Mark m.now

-- the items of a slice
abbrev pub slice_items : ItemSlice → List Item
slice_items (slice.Tokens ts) = map item.Token (slice_tokens ts)
slice_items (slice.Pragma at ts) = item.Pragma at ts.now ∷ []
slice_items (slice.Mark m) = item.Mark m.now ∷ []

-- the number of marks among items
abbrev pub marks : List Item → ℕ
marks [] = 0
marks (item.Token t ∷ items) = marks items
marks (item.Pragma at ts ∷ items) = marks items
marks (item.Mark m ∷ items) = suc (marks items)
