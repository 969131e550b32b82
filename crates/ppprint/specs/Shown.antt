-- What a compiler is to see of a unit: its tokens and pragmas at their presumed locations (6.10.4), and which files it enters and leaves.
use Rattle.std.specs.Prelude.{ℕ, Bool, List}
use Rattle.pptext.specs.declared.tokens.Token.{Token}
use Rattle.pptext.specs.declared.tokens.Kind.{Kind}

-- A presumed line of a presumed file (6.10.4), and whether what stands there belongs to a system header. The name is a string literal.
pub record Location : Type 0 where
  pub name : List ℕ
  pub line : ℕ
  pub system : Bool

-- a token of a pragma; `space` says whether white space precedes it
pub record PragmaToken : Type 0 where
  pub kind : Kind
  pub text : List ℕ
  pub space : Bool

-- what a mark does: a file is entered that the unit's file includes, directly or not; such a file is left; or only the lines get other locations
pub data Turn : Type 0 where
  Enters : Turn
  Leaves : Turn
  Renumbers : Turn

-- a token, a pragma or a mark, at its location
pub data Shown : Type 0 where
  ShowsToken : Location → Token → Shown
  ShowsPragma : Location → List PragmaToken → Shown
  ShowsMark : Location → Turn → Shown
