-- The operators `#` and `##`.
use Rattle.std.specs.Prelude.{Bool, ◌||◌, codes}
use Rattle.pptext.specs.Tokens.{is_punct}
use Rattle.pptext.specs.declared.tokens.Token.{Token}

-- Also as a digraph (6.4.6).
abbrev pub is_hash : Token → Bool
is_hash t = is_punct (codes "#") t || is_punct (codes "%:") t

abbrev pub is_paste : Token → Bool
is_paste t = is_punct (codes "##") t || is_punct (codes "%:%:") t
