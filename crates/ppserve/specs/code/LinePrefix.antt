-- Lines of tokens.
use Rattle.std.specs.Prelude.{◌≡◌, ◌<◌, ◌≤◌, ◌==◌, ℕ, Bool, true, List, [], ◌∷◌, ◌++◌, if◌then◌else◌, codes, decimal, slice_index}
use Rattle.std.specs.Int.{w64, trailing_zeros}
use Rattle.pptext.specs.declared.tokens.Kind.{Kind}
use Rattle.pptext.specs.declared.tokens.Place.{Place}
use Rattle.pptext.specs.declared.tokens.Token.{Token}
use Rattle.ppserve.specs.Output.{prints_as_is, kind_letter, space_sign, place_text, token_text}

abbrev pub token_line : Token → List ℕ
token_line t = codes "tok" ++ token_text t

-- what is before a token's spelling, after the line's word
abbrev pub before_spelling : Place → Place → Kind → Bool → List ℕ
before_spelling at used kind space =
    codes " " ++ place_text at ++ codes " " ++ place_text used ++ (32 ∷ (kind_letter kind ∷ (space_sign space ∷ (32 ∷ []))))

-- the largest number of bytes of a space and a location: three numbers of at most ten digits, and two colons
abbrev pub max_location : ℕ
max_location = 33

-- the largest number of bytes of two such locations
abbrev pub max_locations : ℕ
max_locations = 66

-- the largest number of bytes before a token's spelling: a word of 3, two locations, and 4 after them
abbrev pub max_prefix : ℕ
max_prefix = 73

-- ` FILE:LINE:`, the prefix of a location
abbrev pub location_prefix : ℕ → ℕ → List ℕ
location_prefix file line = 32 ∷ (decimal file ++ codes ":" ++ decimal line ++ codes ":")

-- ` FILE:`, the prefix of the locations in a file
abbrev pub file_prefix : ℕ → List ℕ
file_prefix file = 32 ∷ (decimal file ++ codes ":")

-- the bytes from one index up to another are printed as they are
abbrev pub PrintsAsIsBetween : List ℕ → ℕ → ℕ → Type 0
PrintsAsIsBetween bytes from to = (k : ℕ) → from ≤ k → k < to → prints_as_is (slice_index bytes k) ≡ true

-- the index of the lowest bit of eight that is set, or 8
abbrev pub first_set : ℕ → ℕ
first_set mask = if mask == 0 then 8 else trailing_zeros w64 mask
