-- `defined` in a controlling expression (6.10.1p1), before macro replacement.
use Rattle.std.specs.Prelude.{◌≡◌, ◌&&◌, Bool, true, false, List, [], ◌∷◌, Option, Some, None, is_some, codes, if◌then◌else◌}
use Rattle.std.specs.FinMap as table
use Rattle.pptext.specs.declared.tokens.Token.{Token}
use Rattle.pptext.specs.declared.tokens.Kind.TheVariants.{Number}
use Rattle.pptext.specs.Tokens.{is_identifier, is_identifier_named, is_punct}
use Rattle.ppmacro.specs.Names.{Macros}

abbrev pub is_defined : Token → Bool
is_defined t = is_identifier_named (codes "defined") t

-- the operand of `defined`: the name, and the tokens after the operand
pub record Operand : Type 0 where
  pub name : Token
  pub rest : List Token

-- `( X )`
abbrev pub parenthesized : List Token → Option Operand
parenthesized (o ∷ x ∷ c ∷ rest) =
    if is_punct (codes "(") o && (is_identifier x && is_punct (codes ")") c) then Some (record { name = x; rest = rest }) else None
parenthesized _ = None

-- `X` or `( X )`
abbrev pub operand : List Token → Option Operand
operand [] = None
operand (x ∷ rest) = if is_identifier x then Some (record { name = x; rest = rest }) else parenthesized (x ∷ rest)

-- the number that replaces `defined` and its operand
abbrev pub defined_value : Macros → Token → Token → Token
defined_value macros d x = record d { kind = Number; text = if is_some (table.get macros x.text) then codes "1" else codes "0" }

-- each use of `defined` is replaced by a number, from the left, and every other token stays; if a use has no name, there is no such list
pub data ReplacesDefined (macros : Macros) : List Token → List Token → Type 0 where
  nothing : ReplacesDefined macros [] []
  other : {t : Token} {ts us : List Token} → is_defined t ≡ false → ReplacesDefined macros ts us → ReplacesDefined macros (t ∷ ts) (t ∷ us)
  defined_use : {d : Token} {ts us : List Token} {o : Operand}
      → is_defined d ≡ true
      → operand ts ≡ Some o
      → ReplacesDefined macros o.rest us
      → ReplacesDefined macros (d ∷ ts) (defined_value macros d o.name ∷ us)
