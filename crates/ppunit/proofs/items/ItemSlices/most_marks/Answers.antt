use Rattle.std.proofs.Common.{◌≡◌, ◌≤◌, ◌++◌, List, [], ◌∷◌, map, flat_map, length, refl, sym, ap, arith}
use Rattle.pptext.specs.declared.tokens.Token.{Token}
use Rattle.ppmacro.specs.Substituting.{tokens_of}
use Rattle.ppunit.specs.BorrowedItems.{marks}
use Rattle.ppunit.specs.code.Chunks.{chunk_items}
use Rattle.ppunit.specs.declared.collections.Chunk.{Chunk}
use Rattle.ppunit.specs.declared.collections.Chunk.TheVariants as chunk
use Rattle.ppunit.specs.declared.units.Item.{Item}
use Rattle.ppunit.specs.declared.units.Item.TheVariants as item
use Rattle.ppunit.proofs.items.ItemSlices.most_marks.Goals as goal

marks-tokens : (ts : List Token) (rest : List Item) → marks (map item.Token ts ++ rest) ≡ marks rest
marks-tokens [] rest = refl
marks-tokens (t ∷ ts) rest = marks-tokens ts rest

-- Only chunks that are marks have a mark.
few_marks : (chunks : List Chunk) → marks (flat_map chunk_items chunks) ≤ length chunks
few_marks [] = omega arith
few_marks (chunk.InFile ts ∷ cs) = let same = marks-tokens ts.now (flat_map chunk_items cs) in let rest = few_marks cs in omega arith
few_marks (chunk.Singles hs ∷ cs) = let same = marks-tokens (tokens_of hs.items) (flat_map chunk_items cs) in let rest = few_marks cs in omega arith
few_marks (chunk.Pragma at ts ∷ cs) = let rest = few_marks cs in omega arith
few_marks (chunk.Expanded at ts ∷ cs) = let rest = few_marks cs in omega arith
few_marks (chunk.Mark m ∷ cs) = let rest = few_marks cs in omega arith

pub returns : goal.returns
returns c = let few = few_marks c.self.inside.chunks.now in let is = ap marks c.self.view_is in omega arith
