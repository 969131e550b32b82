-- A value has the type of its expression.
use Rattle.std.proofs.Common.{◌≡◌, ℕ, ℤ, pos, ◌==◌, ◌^◌, ◌*ℤ◌, ◌+ℤ◌, ◌-ℤ◌, neg_ℤ, int_rem, unsigned_abs, Bool, true, false}
use Rattle.std.proofs.Common.{not, ◌||◌, ◌&&◌, Result, Ok, Err, refl, ◌∙◌, subst, sym, int_div, int_le}
use Rattle.std.specs.Prelude.{if◌then◌else◌}
use Rattle.std.specs.Ordering.{int_eq}
use Rattle.ppexpr.specs.declared.symbols.Value.{Value}
use Rattle.ppexpr.specs.declared.symbols.Value.TheVariants.{Signed, Unsigned}
use Rattle.ppexpr.specs.declared.symbols.Failure.{Failure}
use Rattle.ppexpr.specs.declared.symbols.Failure.TheVariants.{ZeroDivisor, Overflow, Shift}
use Rattle.ppexpr.specs.declared.operators.Operator.{Operator}
use Rattle.ppexpr.specs.declared.operators.Operator.TheVariants as operator
use Rattle.ppexpr.specs.declared.operators.Unary.{Unary}
use Rattle.ppexpr.specs.declared.operators.Binary.{Binary}
use Rattle.ppexpr.specs.declared.operators.Binary.TheVariants.{Multiply, Divide, Remainder, Add, Subtract, ShiftLeft, ShiftRight, Less, Greater}
use Rattle.ppexpr.specs.declared.operators.Binary.TheVariants.{LessOrEqual, GreaterOrEqual, Equal, NotEqual, BitAnd, BitXor, BitOr, And, Or}
use Rattle.ppexpr.specs.declared.operators.Unary.TheVariants as unary
use Rattle.ppexpr.specs.Grammar.{Tree, Leaf, Applied, Joined, Chosen}
use Rattle.ppexpr.specs.declared.values.Operands.{Operands}
use Rattle.ppexpr.specs.declared.values.Operands.TheVariants.{BothSigned, BothUnsigned}
use Rattle.ppexpr.specs.Values.{is_intmax, whole, has_unsigned_type, is_zero, truth, signed}
use Rattle.ppexpr.specs.Values.{unsigned, unary_value, converted, arithmetic, division, comparison, bitwise, is_amount, left_shift, right_shift}
use Rattle.ppexpr.specs.Values.{shift, binary_value, unary_result, with_right, decides, binary_result, with_type, choice_result, unary_unsigned}
use Rattle.ppexpr.specs.Values.{binary_unsigned, constant_evaluation, unary_evaluation, binary_evaluation, choice_evaluation, evaluation_of}

-- a value, if there is one, is of this type
abbrev pub HasType : Bool → Result Value Failure → Type 0
HasType u (Ok v) = has_unsigned_type v ≡ u
HasType u (Err f) = Unit {0}

type-signed : (o : Operator) (z : ℤ) → HasType false (signed o z)
type-signed o z = elim (is_intmax z) as (λ b. HasType false (if b then Ok (Signed z) else Err (Overflow o))) [ true ↦ refl | false ↦ tt ]

abbrev type_of : Operands → Bool
type_of (BothSigned a b) = false
type_of (BothUnsigned a b) = true

type-converted : (v w : Value) → type_of (converted v w) ≡ has_unsigned_type v || has_unsigned_type w
type-converted (Signed a) (Signed b) = refl
type-converted (Signed a) (Unsigned b) = refl
type-converted (Unsigned a) (Signed b) = refl
type-converted (Unsigned a) (Unsigned b) = refl

type-arithmetic : (o : Operator) (f : ℤ → ℤ → ℤ) (x : Operands) → HasType (type_of x) (arithmetic o f x)
type-arithmetic o f (BothSigned a b) = type-signed o (f a b)
type-arithmetic o f (BothUnsigned a b) = refl

type-division : (o : Operator) (f : ℤ → ℤ → ℤ) (x : Operands) → HasType (type_of x) (division o f x)
type-division o f (BothSigned a b) =
    elim (int_eq b (pos 0)) as (λ z. HasType false (if z then Err (ZeroDivisor o) else (if is_intmax (int_div a b) then Ok (Signed (f a b)) else Err (Overflow o)))) [
      | true ↦ tt
      | false ↦ elim (is_intmax (int_div a b)) as (λ z. HasType false (if z then Ok (Signed (f a b)) else Err (Overflow o))) [ true ↦ refl | false ↦ tt ]
    ]
type-division o f (BothUnsigned a b) =
    elim (b == 0) as (λ z. HasType true (if z then Err (ZeroDivisor o) else unsigned (f (pos a) (pos b)))) [ true ↦ tt | false ↦ refl ]

type-comparison : (f : ℤ → ℤ → Bool) (x : Operands) → HasType false (comparison f x)
type-comparison f (BothSigned a b) = refl
type-comparison f (BothUnsigned a b) = refl

type-bitwise : (f : ℤ → ℤ → ℤ) (g : ℕ → ℕ → ℕ) (x : Operands) → HasType (type_of x) (bitwise f g x)
type-bitwise f g (BothSigned a b) = refl
type-bitwise f g (BothUnsigned a b) = refl

type-left_shift : (v : Value) (n : ℕ) → HasType (has_unsigned_type v) (left_shift v n)
type-left_shift (Signed z) n =
    elim (int_le (pos 0) z && is_intmax (z *ℤ pos (2 ^ n))) as (λ b. HasType false (if b then Ok (Signed (z *ℤ pos (2 ^ n))) else Err (Shift operator.ShiftLeft))) [ true ↦ refl | false ↦ tt ]
type-left_shift (Unsigned m) n = refl

type-right_shift : (v : Value) (n : ℕ) → HasType (has_unsigned_type v) (right_shift v n)
type-right_shift (Signed z) n = refl
type-right_shift (Unsigned m) n = refl

type-shift : (o : Operator) (f : Value → ℕ → Result Value Failure) (v w : Value) → ((n : ℕ) → HasType (has_unsigned_type v) (f v n)) → HasType (has_unsigned_type v) (shift o f v w)
type-shift o f v w h =
    elim (is_amount (whole w)) as (λ b. HasType (has_unsigned_type v) (if b then f v (unsigned_abs (whole w)) else Err (Shift o))) [ true ↦ h (unsigned_abs (whole w)) | false ↦ tt ]

-- If an operation's result has the type of its converted operands, it has the common type.
common : (v w : Value) (a : Operands → Result Value Failure) → ((x : Operands) → HasType (type_of x) (a x)) → HasType (has_unsigned_type v || has_unsigned_type w) (a (converted v w))
common v w a h = subst (λ (u : Bool). HasType u (a (converted v w))) (type-converted v w) (h (converted v w))

type-binary_value : (o : Binary) (v w : Value) → HasType (binary_unsigned o (has_unsigned_type v) (has_unsigned_type w)) (binary_value o v w)
type-binary_value Multiply v w = common v w _ (type-arithmetic operator.Star (λ a b. a *ℤ b))
type-binary_value Divide v w = common v w _ (type-division operator.Slash int_div)
type-binary_value Remainder v w = common v w _ (type-division operator.Percent int_rem)
type-binary_value Add v w = common v w _ (type-arithmetic operator.Plus (λ a b. a +ℤ b))
type-binary_value Subtract v w = common v w _ (type-arithmetic operator.Minus (λ a b. a -ℤ b))
type-binary_value ShiftLeft v w = type-shift _ left_shift v w (type-left_shift v)
type-binary_value ShiftRight v w = type-shift _ right_shift v w (type-right_shift v)
type-binary_value Less v w = type-comparison _ (converted v w)
type-binary_value Greater v w = type-comparison _ (converted v w)
type-binary_value LessOrEqual v w = type-comparison _ (converted v w)
type-binary_value GreaterOrEqual v w = type-comparison _ (converted v w)
type-binary_value Equal v w = type-comparison _ (converted v w)
type-binary_value NotEqual v w = type-comparison _ (converted v w)
type-binary_value BitAnd v w = common v w _ (type-bitwise _ _)
type-binary_value BitXor v w = common v w _ (type-bitwise _ _)
type-binary_value BitOr v w = common v w _ (type-bitwise _ _)
type-binary_value And v w = refl
type-binary_value Or v w = refl

type-unary_value : (o : Unary) (v : Value) → HasType (unary_unsigned o (has_unsigned_type v)) (unary_value o v)
type-unary_value unary.Plus v = refl
type-unary_value unary.Minus (Signed z) = type-signed operator.Minus (neg_ℤ z)
type-unary_value unary.Minus (Unsigned n) = refl
type-unary_value unary.Complement (Signed z) = refl
type-unary_value unary.Complement (Unsigned n) = refl
type-unary_value unary.Not v = refl

type-unary_result : (o : Unary) (u : Bool) (a : Result Value Failure) → HasType u a → HasType (unary_unsigned o u) (unary_result o a)
type-unary_result o u (Ok v) e = subst (λ (x : Bool). HasType (unary_unsigned o x) (unary_value o v)) e (type-unary_value o v)
type-unary_result o u (Err f) e = tt

-- an operator whose left operand may decide has a signed result
decided : (o : Binary) (v : Value) (u w : Bool) → decides o v ≡ true → binary_unsigned o u w ≡ false
decided And v u w e = refl
decided Or v u w e = refl
decided _ v u w e = cc

type-with_right : (o : Binary) (v : Value) (u w : Bool) (b : Result Value Failure) → has_unsigned_type v ≡ u → HasType w b → HasType (binary_unsigned o u w) (with_right o v b)
type-with_right o v u w (Ok x) e f =
    subst (λ (p : Bool). HasType (binary_unsigned o p w) (binary_value o v x)) e (subst (λ (q : Bool). HasType (binary_unsigned o (has_unsigned_type v) q) (binary_value o v x)) f (type-binary_value o v x))
type-with_right o v u w (Err f) e g = tt

by_decision : (u : Bool) (d : Bool) (v : Value) (a : Result Value Failure) → has_unsigned_type v ≡ false → (d ≡ true → u ≡ false) → HasType u a → HasType u (if d then Ok v else a)
by_decision u true v a e h g = e ∙ sym (h refl)
by_decision u false v a e h g = g

type-binary_result : (o : Binary) (u w : Bool) (a b : Result Value Failure) → HasType u a → HasType w b → HasType (binary_unsigned o u w) (binary_result o a b)
type-binary_result o u w (Ok v) b e f = by_decision (binary_unsigned o u w) (decides o v) (truth (not (is_zero v))) (with_right o v b) refl (decided o v u w) (type-with_right o v u w b e f)
type-binary_result o u w (Err g) b e f = tt

type-with_type : (a : Result Value Failure) → HasType true (with_type true a)
type-with_type (Ok v) = refl
type-with_type (Err f) = tt

either : (u : Bool) (z : Bool) (a b : Result Value Failure) → HasType u a → HasType u b → HasType u (if z then b else a)
either u true a b e f = f
either u false a b e f = e

type-choice_result : (u w : Bool) (c a b : Result Value Failure) → HasType u a → HasType w b → HasType (u || w) (choice_result (u || w) c a b)
type-choice_result u w (Err f) a b e g = tt
type-choice_result true w (Ok v) a b e g = type-with_type (if is_zero v then b else a)
type-choice_result false true (Ok v) a b e g = type-with_type (if is_zero v then b else a)
type-choice_result false false (Ok v) a b e g = either false (is_zero v) a b e g

type-tree : (t : Tree) → HasType (evaluation_of t).unsigned (evaluation_of t).value
unfolding constant_evaluation unary_evaluation binary_evaluation choice_evaluation
type-tree (Leaf v) = refl
type-tree (Applied o t) = type-unary_result o (evaluation_of t).unsigned (evaluation_of t).value (type-tree t)
type-tree (Joined o t u) = type-binary_result o (evaluation_of t).unsigned (evaluation_of u).unsigned (evaluation_of t).value (evaluation_of u).value (type-tree t) (type-tree u)
type-tree (Chosen c t u) = type-choice_result (evaluation_of t).unsigned (evaluation_of u).unsigned (evaluation_of c).value (evaluation_of t).value (evaluation_of u).value (type-tree t) (type-tree u)

pub has_its_type : (t : Tree) (v : Value) → (evaluation_of t).value ≡ Ok v → has_unsigned_type v ≡ (evaluation_of t).unsigned
has_its_type t v e = subst (λ (a : Result Value Failure). HasType (evaluation_of t).unsigned a) e (type-tree t)
