-- The operators of controlling expressions: spellings (6.4.6), unary operators (6.5.3.3), and binary operators with their levels (6.5.5 to 6.5.14).
use Rattle.std.specs.Prelude.{ℕ, List, [], ◌∷◌, Option, Some, None, codes}
use Rattle.std.specs.List.{find}
use Rattle.std.specs.Str.{bytes_eq}
use Rattle.ppexpr.specs.declared.operators.Operator.{Operator}
use Rattle.ppexpr.specs.declared.operators.Operator.TheVariants.{Plus, Minus, Tilde, Bang, Star, Slash, Percent, ShiftLeft, ShiftRight, Less}
use Rattle.ppexpr.specs.declared.operators.Operator.TheVariants.{Greater, LessOrEqual, GreaterOrEqual, Equal, NotEqual, Ampersand, Caret, Bar, And, Or}
use Rattle.ppexpr.specs.declared.operators.Unary.{Unary}
use Rattle.ppexpr.specs.declared.operators.Unary.TheVariants as unary
use Rattle.ppexpr.specs.declared.operators.Binary.{Binary}
use Rattle.ppexpr.specs.declared.operators.Binary.TheVariants as binary
use Rattle.ppexpr.specs.declared.operators.Infix.{Infix}

-- A row of the table: the spelling, and what the operator is before an operand and between operands. A binary operator has the level of an
-- expression with it: from 2 for `||` to 11 for `*`.
pub record Row : Type 0 where
  pub spelling : List ℕ
  pub unary : Option Unary
  pub binary : Option Infix

abbrev pub unary_row : List ℕ → Unary → Row
unary_row s u = record { spelling = s; unary = Some u; binary = None }

abbrev pub binary_row : List ℕ → Binary → ℕ → Row
binary_row s o k = record { spelling = s; unary = None; binary = Some (record { operation = o; level = k }) }

abbrev pub either_row : List ℕ → Unary → Binary → ℕ → Row
either_row s u o k = record { spelling = s; unary = Some u; binary = Some (record { operation = o; level = k }) }

-- the table
abbrev pub row_of : Operator → Row
row_of Plus = either_row (codes "+") unary.Plus binary.Add 10
row_of Minus = either_row (codes "-") unary.Minus binary.Subtract 10
row_of Tilde = unary_row (codes "~") unary.Complement
row_of Bang = unary_row (codes "!") unary.Not
row_of Star = binary_row (codes "*") binary.Multiply 11
row_of Slash = binary_row (codes "/") binary.Divide 11
row_of Percent = binary_row (codes "%") binary.Remainder 11
row_of ShiftLeft = binary_row (codes "<<") binary.ShiftLeft 9
row_of ShiftRight = binary_row (codes ">>") binary.ShiftRight 9
row_of Less = binary_row (codes "<") binary.Less 8
row_of Greater = binary_row (codes ">") binary.Greater 8
row_of LessOrEqual = binary_row (codes "<=") binary.LessOrEqual 8
row_of GreaterOrEqual = binary_row (codes ">=") binary.GreaterOrEqual 8
row_of Equal = binary_row (codes "==") binary.Equal 7
row_of NotEqual = binary_row (codes "!=") binary.NotEqual 7
row_of Ampersand = binary_row (codes "&") binary.BitAnd 6
row_of Caret = binary_row (codes "^") binary.BitXor 5
row_of Bar = binary_row (codes "|") binary.BitOr 4
row_of And = binary_row (codes "&&") binary.And 3
row_of Or = binary_row (codes "||") binary.Or 2

-- ---- computed from the table

abbrev pub spelling_of : Operator → List ℕ
spelling_of o = (row_of o).spelling

abbrev pub unary_of : Operator → Option Unary
unary_of o = (row_of o).unary

abbrev pub binary_of : Operator → Option Infix
binary_of o = (row_of o).binary

abbrev pub operators : List Operator
operators =
    Plus ∷ Minus ∷ Tilde ∷ Bang ∷ Star ∷ Slash ∷ Percent ∷ ShiftLeft ∷ ShiftRight ∷ Less ∷ Greater ∷ LessOrEqual ∷ GreaterOrEqual ∷
    Equal ∷ NotEqual ∷ Ampersand ∷ Caret ∷ Bar ∷ And ∷ Or ∷ []

-- the operator with this spelling
abbrev pub operator_of : List ℕ → Option Operator
operator_of s = find (λ o. bytes_eq (spelling_of o) s) operators
