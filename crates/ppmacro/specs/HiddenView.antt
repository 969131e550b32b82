-- Tokens with numbers of hide sets: the values of `Hidden`.
use Rattle.std.specs.Prelude.{ℕ, Bool, List, ◌++◌, Option, Some, None, if◌then◌else◌}
use Rattle.pptext.specs.declared.tokens.Token.{Token}
use Rattle.pptext.specs.declared.tokens.Place.{Place}

-- A token with the number of a hide set, and of an extra one, if there are two. A macro whose name is in either set may not replace it.
pub record HiddenView : Type 0 where
  pub token : Token
  pub hide : ℕ
  pub extra : Option ℕ

-- A token with this expansion location and this leading-space flag.
abbrev pub used_at : Token → Place → Bool → Token
used_at t used space = record t { used = used; space = space }

-- A token with more bytes at the end of its spelling.
abbrev pub extended : HiddenView → List ℕ → HiddenView
extended h more = record h { token = record h.token { text = h.token.text ++ more } }

-- The extra set, if there are two.
abbrev pub extra_set : Bool → ℕ → Option ℕ
extra_set two n = if two then Some n else None
