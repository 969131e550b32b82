-- The chunks in which a unit's items are stored.
use Rattle.std.specs.Prelude.{List, [], ◌∷◌, map}
use Rattle.ppmacro.specs.Substituting.{tokens_of}
use Rattle.ppunit.specs.declared.units.Item.{Item}
use Rattle.ppunit.specs.declared.units.Item.TheVariants as item
use Rattle.ppunit.specs.declared.collections.Chunk.{Chunk}
use Rattle.ppunit.specs.declared.collections.Chunk.TheVariants as chunk

abbrev pub chunk_items : Chunk → List Item
chunk_items (chunk.InFile ts) = map item.Token ts.now
chunk_items (chunk.Singles hs) = map item.Token (tokens_of hs.items)
chunk_items (chunk.Pragma at ts) = item.Pragma at ts.now ∷ []
chunk_items (chunk.Expanded at ts) = item.Pragma at ts.items ∷ []
chunk_items (chunk.Mark m) = item.Mark m ∷ []
