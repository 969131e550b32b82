-- What an expression evaluates to (6.5, 6.10.1p4): type and value by recursion on its tree. Values are whole numbers in the range of their type.
use Rattle.std.specs.Prelude.{ℕ, ◌^◌, ◌==◌, Bool, true, false, not, ◌&&◌, ◌||◌, if◌then◌else◌, Result, Ok, Err, ℤ, pos, ◌+ℤ◌, ◌-ℤ◌, ◌*ℤ◌, neg_ℤ}
use Rattle.std.specs.Prelude.{◌≡◌, List, unsigned_abs, int_lt, int_le, int_div, int_rem, bit_and, bit_or, bit_xor}
use Rattle.std.specs.Ordering.{int_eq}
use Rattle.std.specs.Int.{w64, int_rem_euclid, int_div_euclid, int_bit_and, int_bit_or, int_bit_xor}
use Rattle.ppexpr.specs.declared.symbols.Value.{Value}
use Rattle.ppexpr.specs.declared.symbols.Value.TheVariants.{Signed, Unsigned}
use Rattle.ppexpr.specs.declared.symbols.Failure.{Failure}
use Rattle.ppexpr.specs.declared.symbols.Failure.TheVariants.{ZeroDivisor, Overflow, Shift}
use Rattle.ppexpr.specs.declared.symbols.Evaluation.{Evaluation}
use Rattle.ppexpr.specs.declared.operators.Operator.{Operator}
use Rattle.ppexpr.specs.declared.operators.Operator.TheVariants.{Star, Slash, Percent, Plus, Minus}
use Rattle.ppexpr.specs.declared.operators.Operator.TheVariants as operator
use Rattle.ppexpr.specs.declared.operators.Unary.{Unary}
use Rattle.ppexpr.specs.declared.operators.Binary.{Binary}
use Rattle.ppexpr.specs.declared.operators.Binary.TheVariants.{Multiply, Divide, Remainder, Add, Subtract, ShiftLeft, ShiftRight, Less, Greater}
use Rattle.ppexpr.specs.declared.operators.Binary.TheVariants.{LessOrEqual, GreaterOrEqual, Equal, NotEqual, BitAnd, BitXor, BitOr, And, Or}
use Rattle.ppexpr.specs.declared.operators.Unary.TheVariants as unary
use Rattle.ppexpr.specs.declared.values.Operands.{Operands}
use Rattle.ppexpr.specs.declared.values.Operands.TheVariants.{BothSigned, BothUnsigned}
use Rattle.ppexpr.specs.declared.symbols.Symbol.{Symbol}
use Rattle.ppexpr.specs.Grammar.{Tree, Leaf, Applied, Joined, Chosen, Parses}

-- ---- the two types

-- -2^63 to 2^63 - 1
abbrev pub is_intmax : ℤ → Bool
is_intmax z = int_le (neg_ℤ (pos (2 ^ 63))) z && int_lt z (pos (2 ^ 63))

-- modulo 2^64 (6.2.5p9, 6.3.1.3p2)
abbrev pub modulo : ℤ → ℕ
modulo z = unsigned_abs (int_rem_euclid z (pos (2 ^ 64)))

abbrev pub whole : Value → ℤ
whole (Signed z) = z
whole (Unsigned n) = pos n

abbrev pub is_zero : Value → Bool
is_zero v = int_eq (whole v) (pos 0)

abbrev pub as_unsigned : Value → ℕ
as_unsigned v = modulo (whole v)

abbrev pub has_unsigned_type : Value → Bool
has_unsigned_type (Signed z) = false
has_unsigned_type (Unsigned n) = true

-- the result of a comparison: 0 or 1, signed (6.5.8p6)
abbrev pub truth : Bool → Value
truth b = Signed (pos (if b then 1 else 0))

-- a signed result
abbrev pub signed : Operator → ℤ → Result Value Failure
signed o z = if is_intmax z then Ok (Signed z) else Err (Overflow o)

-- an unsigned result
abbrev pub unsigned : ℤ → Result Value Failure
unsigned z = Ok (Unsigned (modulo z))

-- ---- unary operators (6.5.3.3)

abbrev pub negative : Value → Result Value Failure
negative (Signed z) = signed Minus (neg_ℤ z)
negative (Unsigned n) = unsigned (neg_ℤ (pos n))

-- -1 - z has each bit of z inverted
abbrev pub complement : Value → Result Value Failure
complement (Signed z) = Ok (Signed (neg_ℤ (pos 1) -ℤ z))
complement (Unsigned n) = unsigned (neg_ℤ (pos 1) -ℤ pos n)

abbrev pub unary_value : Unary → Value → Result Value Failure
unary_value unary.Plus v = Ok v
unary_value unary.Minus v = negative v
unary_value unary.Complement v = complement v
unary_value unary.Not v = Ok (truth (is_zero v))

-- ---- binary operators after the usual arithmetic conversions (6.3.1.8): if one operand is unsigned, the other is taken modulo 2^64

abbrev pub converted : Value → Value → Operands
converted (Signed a) (Signed b) = BothSigned a b
converted v w = BothUnsigned (as_unsigned v) (as_unsigned w)

-- `* + -` (6.5.5, 6.5.6)
abbrev pub arithmetic : Operator → (ℤ → ℤ → ℤ) → Operands → Result Value Failure
arithmetic o f (BothSigned a b) = signed o (f a b)
arithmetic o f (BothUnsigned a b) = unsigned (f (pos a) (pos b))

-- `/` and `%` (6.5.5p5, p6): neither has a value if the quotient, rounded toward 0, is out of range
abbrev pub division : Operator → (ℤ → ℤ → ℤ) → Operands → Result Value Failure
division o f (BothSigned a b) =
    if int_eq b (pos 0) then Err (ZeroDivisor o) else (
    if is_intmax (int_div a b) then Ok (Signed (f a b)) else Err (Overflow o))
division o f (BothUnsigned a b) = if b == 0 then Err (ZeroDivisor o) else unsigned (f (pos a) (pos b))

-- 6.5.8, 6.5.9
abbrev pub comparison : (ℤ → ℤ → Bool) → Operands → Result Value Failure
comparison f (BothSigned a b) = Ok (truth (f a b))
comparison f (BothUnsigned a b) = Ok (truth (f (pos a) (pos b)))

-- 6.5.10 to 6.5.12, signed numbers in two's complement
abbrev pub bitwise : (ℤ → ℤ → ℤ) → (ℕ → ℕ → ℕ) → Operands → Result Value Failure
bitwise f g (BothSigned a b) = Ok (Signed (f a b))
bitwise f g (BothUnsigned a b) = Ok (Unsigned (g a b))

-- ---- shifts (6.5.7): the type is the left operand's

abbrev pub is_amount : ℤ → Bool
is_amount z = int_le (pos 0) z && int_lt z (pos 64)

-- z * 2^n
abbrev pub left_shift : Value → ℕ → Result Value Failure
left_shift (Signed z) n =
    if int_le (pos 0) z && is_intmax (z *ℤ pos (2 ^ n)) then Ok (Signed (z *ℤ pos (2 ^ n))) else Err (Shift operator.ShiftLeft)
left_shift (Unsigned m) n = unsigned (pos m *ℤ pos (2 ^ n))

-- z / 2^n, rounded down
abbrev pub right_shift : Value → ℕ → Result Value Failure
right_shift (Signed z) n = Ok (Signed (int_div_euclid z (pos (2 ^ n))))
right_shift (Unsigned m) n = unsigned (int_div_euclid (pos m) (pos (2 ^ n)))

abbrev pub shift : Operator → (Value → ℕ → Result Value Failure) → Value → Value → Result Value Failure
shift o f v w = if is_amount (whole w) then f v (unsigned_abs (whole w)) else Err (Shift o)

-- ---- both operands have a value

abbrev pub binary_value : Binary → Value → Value → Result Value Failure
binary_value Multiply v w = arithmetic Star (λ a b. a *ℤ b) (converted v w)
binary_value Divide v w = division Slash int_div (converted v w)
binary_value Remainder v w = division Percent int_rem (converted v w)
binary_value Add v w = arithmetic Plus (λ a b. a +ℤ b) (converted v w)
binary_value Subtract v w = arithmetic Minus (λ a b. a -ℤ b) (converted v w)
binary_value ShiftLeft v w = shift operator.ShiftLeft left_shift v w
binary_value ShiftRight v w = shift operator.ShiftRight right_shift v w
binary_value Less v w = comparison int_lt (converted v w)
binary_value Greater v w = comparison (λ a b. int_lt b a) (converted v w)
binary_value LessOrEqual v w = comparison int_le (converted v w)
binary_value GreaterOrEqual v w = comparison (λ a b. int_le b a) (converted v w)
binary_value Equal v w = comparison int_eq (converted v w)
binary_value NotEqual v w = comparison (λ a b. not (int_eq a b)) (converted v w)
binary_value BitAnd v w = bitwise (int_bit_and w64) bit_and (converted v w)
binary_value BitXor v w = bitwise (int_bit_xor w64) bit_xor (converted v w)
binary_value BitOr v w = bitwise (int_bit_or w64) bit_or (converted v w)
binary_value And v w = Ok (truth (not (is_zero v) && not (is_zero w)))
binary_value Or v w = Ok (truth (not (is_zero v) || not (is_zero w)))

-- ---- operands that may have no value: the first failure is the result, but a failure in an operand that is not evaluated is ignored

abbrev pub unary_result : Unary → Result Value Failure → Result Value Failure
unary_result o (Ok v) = unary_value o v
unary_result o (Err f) = Err f

abbrev pub with_right : Binary → Value → Result Value Failure → Result Value Failure
with_right o v (Ok w) = binary_value o v w
with_right o v (Err f) = Err f

-- the left operand alone decides the result (6.5.13p4, 6.5.14p4)
abbrev pub decides : Binary → Value → Bool
decides And v = is_zero v
decides Or v = not (is_zero v)
decides _ v = false

abbrev pub binary_result : Binary → Result Value Failure → Result Value Failure → Result Value Failure
binary_result o (Ok v) b = if decides o v then Ok (truth (not (is_zero v))) else with_right o v b
binary_result o (Err f) b = Err f

-- converted to the type of a conditional expression
abbrev pub with_type : Bool → Result Value Failure → Result Value Failure
with_type true (Ok v) = Ok (Unsigned (as_unsigned v))
with_type _ a = a

-- 6.5.15p4, p5
abbrev pub choice_result : Bool → Result Value Failure → Result Value Failure → Result Value Failure → Result Value Failure
choice_result u (Ok v) a b = with_type u (if is_zero v then b else a)
choice_result u (Err f) a b = Err f

-- ---- types: whether it is `uintmax_t`

abbrev pub unary_unsigned : Unary → Bool → Bool
unary_unsigned unary.Not u = false
unary_unsigned _ u = u

abbrev pub binary_unsigned : Binary → Bool → Bool → Bool
binary_unsigned Multiply u w = u || w
binary_unsigned Divide u w = u || w
binary_unsigned Remainder u w = u || w
binary_unsigned Add u w = u || w
binary_unsigned Subtract u w = u || w
binary_unsigned BitAnd u w = u || w
binary_unsigned BitXor u w = u || w
binary_unsigned BitOr u w = u || w
binary_unsigned ShiftLeft u w = u
binary_unsigned ShiftRight u w = u
binary_unsigned _ u w = false

-- ---- trees: the type, to which an operand that is not evaluated contributes, too, and the value or the first failure

unfoldable pub constant_evaluation : Value → Evaluation
constant_evaluation v = record { unsigned = has_unsigned_type v; value = Ok v }

unfoldable pub unary_evaluation : Unary → Evaluation → Evaluation
unary_evaluation o x = record { unsigned = unary_unsigned o x.unsigned; value = unary_result o x.value }

unfoldable pub binary_evaluation : Binary → Evaluation → Evaluation → Evaluation
binary_evaluation o x y = record { unsigned = binary_unsigned o x.unsigned y.unsigned; value = binary_result o x.value y.value }

-- the type is the common type of the second and third operands (6.5.15p5)
unfoldable pub choice_evaluation : Evaluation → Evaluation → Evaluation → Evaluation
choice_evaluation c x y = record { unsigned = x.unsigned || y.unsigned; value = choice_result (x.unsigned || y.unsigned) c.value x.value y.value }

abbrev pub evaluation_of : Tree → Evaluation
evaluation_of (Leaf v) = constant_evaluation v
evaluation_of (Applied o t) = unary_evaluation o (evaluation_of t)
evaluation_of (Joined o t u) = binary_evaluation o (evaluation_of t) (evaluation_of u)
evaluation_of (Chosen c t u) = choice_evaluation (evaluation_of c) (evaluation_of t) (evaluation_of u)

-- the symbols are an expression, and this is what it evaluates to
abbrev pub Denotes : List Symbol → Evaluation → Type 0
Denotes s e = (t : Tree) × Parses s t × (evaluation_of t ≡ e)
