-- Pieces of an expanded list, and its tokens as they are borrowed: single ones, and slices of the list.
use Rattle.std.specs.Prelude.{◌≡◌, ◌<◌, ◌++◌, [], List, Option, MatchOption, length}
use Rattle.pptext.specs.declared.tokens.Token.{Token}
use Rattle.ppmacro.specs.Substituting.{tokens_of}
use Rattle.ppmacro.specs.declared.hidden_token.Hidden.{Hidden}
use Rattle.ppexpand.specs.declared.emitted.Piece.{Piece}
use Rattle.ppexpand.specs.declared.emitted.Piece.TheVariants.{Span, Singles}
use Rattle.ppexpand.specs.declared.token_slice.TokenRef.{TokenRef}
use Rattle.ppexpand.specs.declared.token_slice.TokenRef.TheVariants as ref
use Rattle.ppexpand.specs.declared.token_slice.TokenSlice.{TokenSlice}
use Rattle.ppexpand.specs.declared.token_slice.TokenSlice.TheVariants as slice

-- the tokens of a piece, with their hide sets
abbrev pub piece_list : Piece → List Hidden
piece_list (Span s) = s
piece_list (Singles hs) = hs.items

-- the value of a borrowed token
abbrev pub ref_token : TokenRef → Token
ref_token (ref.InFile t) = t.now
ref_token (ref.Hidden h) = h.now.token

-- the tokens of a slice
abbrev pub slice_tokens : TokenSlice → List Token
slice_tokens (slice.InFile ts) = ts.now
slice_tokens (slice.Hidden hs) = tokens_of hs.now

-- What `next` of an iterator over slices returns: a slice with the first of the remaining elements, at least one, or `None` if no elements remain.
module _ {A B : Type 0} (elements : A → List B) where
  abbrev pub YieldsSlice : List B → Option A → List B → Type 0
  YieldsSlice old result new = MatchOption result ((old ≡ []) × (new ≡ [])) (λ s. (0 < length (elements s)) × (old ≡ elements s ++ new))
