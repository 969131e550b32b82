-- The grammar of controlling expressions (6.5, 6.6, 6.10.1), and their trees: constant expressions without assignment, comma, casts and `sizeof`.
use Rattle.std.specs.Prelude.{◌≡◌, ℕ, suc, List, [], ◌∷◌, ◌++◌, Some}
use Rattle.ppexpr.specs.declared.symbols.Value.{Value}
use Rattle.ppexpr.specs.declared.operators.Operator.{Operator as OperatorSign}
use Rattle.ppexpr.specs.declared.symbols.Symbol.{Symbol}
use Rattle.ppexpr.specs.declared.symbols.Symbol.TheVariants.{Constant, Operator, Open, Close, Question, Colon}
use Rattle.ppexpr.specs.Operators.{unary_of, binary_of}
use Rattle.ppexpr.specs.declared.operators.Unary.{Unary}
use Rattle.ppexpr.specs.declared.operators.Binary.{Binary}
use Rattle.ppexpr.specs.declared.operators.Infix.{Infix}

-- A constant, a unary operator with its operand, a binary operator with its operands, or the conditional operator with its three operands.
-- A tree has no node for parentheses.
pub data Tree : Type 0 where
  Leaf : Value → Tree
  Applied : Unary → Tree → Tree
  Joined : Binary → Tree → Tree → Tree
  Chosen : Tree → Tree → Tree → Tree

-- The levels of the grammar, loosest first: 0 is an expression (6.5.17), 1 a conditional expression (6.5.15), 2 to 11 are the binary
-- operators' (6.5.14 down to 6.5.5), 12 is a unary expression (6.5.3), 13 a primary one (6.5.1).

-- These symbols are an expression of this level, with this tree.
pub data Derives : ℕ → List Symbol → Tree → Type 0 where
  constant : (v : Value) → Derives 13 (Constant v ∷ []) (Leaf v)
  parentheses : {s : List Symbol} {t : Tree} → Derives 0 s t → Derives 13 (Open ∷ (s ++ (Close ∷ []))) t
  unary : {s : List Symbol} {t : Tree} (sign : OperatorSign) (o : Unary) → unary_of sign ≡ Some o →
      Derives 12 s t → Derives 12 (Operator sign ∷ s) (Applied o t)
  -- a binary operator groups from the left: its left operand may have operators of its level, its right operand may not
  binary : {s r : List Symbol} {t u : Tree} (sign : OperatorSign) (o : Infix) → binary_of sign ≡ Some o →
      Derives o.level s t → Derives (suc o.level) r u → Derives o.level (s ++ (Operator sign ∷ r)) (Joined o.operation t u)
  -- the conditional operator groups from the right, and its middle is a whole expression
  conditional : {s r q : List Symbol} {t u w : Tree} →
      Derives 2 s t → Derives 0 r u → Derives 1 q w → Derives 1 (s ++ (Question ∷ (r ++ (Colon ∷ q)))) (Chosen t u w)
  tighter : {k : ℕ} {s : List Symbol} {t : Tree} → Derives (suc k) s t → Derives k s t

abbrev pub Parses : List Symbol → Tree → Type 0
Parses s t = Derives 0 s t

abbrev pub IsExpression : List Symbol → Type 0
IsExpression s = (t : Tree) × Parses s t
