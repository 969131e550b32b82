-- A token with its hide set (Prosser's algorithm).
use Rattle.pptext.specs.declared.tokens.Token.{Token}
use Rattle.ppmacro.specs.Names.{HideSet}

-- A token, and the names of the macros that may not replace it.
pub record Hiding : Type 0 where
  pub token : Token
  pub hide : HideSet
