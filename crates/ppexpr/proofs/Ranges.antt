-- A value lies in the range of its type.
use Rattle.std.proofs.Common.{◌≡◌, ℕ, zero, suc, ℤ, pos, negsuc, ◌==◌, ◌-◌, ◌/◌, ◌^◌, ◌<◌, ◌≤◌, ◌*ℤ◌, ◌+ℤ◌, ◌-ℤ◌, neg_ℤ, int_rem, unsigned_abs, Bool, true, false, nat_lt}
use Rattle.std.proofs.Common.{not, ◌||◌, ◌&&◌, Result, Ok, Err, refl, subst, arith, int_div, int_le}
use Rattle.std.specs.Prelude.{if◌then◌else◌, bit_and, bit_or, bit_xor}
use Rattle.std.specs.Ordering.{int_eq}
use Rattle.std.specs.Int.{w64, int_div_euclid, cast_signed, cast_unsigned}
use Rattle.std.proofs.lemmas.Bool.{and_parts}
use Rattle.std.proofs.lemmas.Bool.Decides.{nat_tests}
use Rattle.std.proofs.lemmas.Int.{ints, rem_below}
use Rattle.std.proofs.lemmas.Nat.{and_le_l, or_lt, xor_lt}
use Rattle.std.proofs.Math.Nat.{div-le_self, mod-lt}
use Rattle.ppexpr.specs.declared.symbols.Value.{Value}
use Rattle.ppexpr.specs.declared.symbols.Value.TheVariants.{Signed, Unsigned}
use Rattle.ppexpr.specs.declared.symbols.Failure.{Failure}
use Rattle.ppexpr.specs.declared.symbols.Failure.TheVariants.{ZeroDivisor, Overflow, Shift}
use Rattle.ppexpr.specs.declared.operators.Operator.{Operator}
use Rattle.ppexpr.specs.declared.operators.Operator.TheVariants as operator
use Rattle.ppexpr.specs.declared.operators.Unary.{Unary}
use Rattle.ppexpr.specs.declared.operators.Binary.{Binary}
use Rattle.ppexpr.specs.declared.operators.Binary.TheVariants.{Multiply, Divide, Remainder, Add, Subtract, ShiftLeft, ShiftRight, Less, Greater}
use Rattle.ppexpr.specs.declared.operators.Binary.TheVariants.{LessOrEqual, GreaterOrEqual, Equal, NotEqual, BitAnd, BitXor, BitOr, And, Or}
use Rattle.ppexpr.specs.declared.operators.Unary.TheVariants as unary
use Rattle.ppexpr.specs.Laws.{IsInRange}
use Rattle.ppexpr.specs.Grammar.{Tree, Leaf, Applied, Joined, Chosen}
use Rattle.ppexpr.specs.declared.values.Operands.{Operands}
use Rattle.ppexpr.specs.declared.values.Operands.TheVariants.{BothSigned, BothUnsigned}
use Rattle.ppexpr.specs.Values.{is_intmax, modulo, whole, is_zero, truth, signed, unsigned}
use Rattle.ppexpr.specs.Values.{unary_value, converted, arithmetic, division, comparison, bitwise, is_amount, left_shift, right_shift, shift}
use Rattle.ppexpr.specs.Values.{binary_value, unary_result, with_right, decides, binary_result, with_type, choice_result, constant_evaluation}
use Rattle.ppexpr.specs.Values.{unary_evaluation, binary_evaluation, choice_evaluation, evaluation_of}

-- a value, if there is one, is in range
abbrev pub InRange : Result Value Failure → Type 0
InRange (Ok v) = IsInRange v
InRange (Err f) = Unit {0}

-- ---- numbers in range

small_pos : (n : ℕ) → n < 2 ^ 63 → is_intmax (pos n) ≡ true
small_pos n h = grind (arith, ints, nat_tests)

small_neg : (n : ℕ) → n < 2 ^ 63 → is_intmax (negsuc n) ≡ true
small_neg n h = grind (arith, ints, nat_tests)

pos_small : (n : ℕ) → is_intmax (pos n) ≡ true → n < 2 ^ 63
pos_small n h = grind (arith, ints, nat_tests)

neg_small : (n : ℕ) → is_intmax (negsuc n) ≡ true → n < 2 ^ 63
neg_small n h = grind (arith, ints, nat_tests)

modulo_small : (z : ℤ) → modulo z < 2 ^ 64
modulo_small (pos n) = let p : 0 < 2 ^ 64 = omega arith in mod-lt n p
modulo_small (negsuc n) = omega arith

signed_by : (o : Operator) (z : ℤ) (b : Bool) → is_intmax z ≡ b → InRange (if b then Ok (Signed z) else Err (Overflow o))
signed_by o z true e = e
signed_by o z false e = tt

range-signed : (o : Operator) (z : ℤ) → InRange (signed o z)
range-signed o z = signed_by o z (is_intmax z) refl

range-truth : (b : Bool) → IsInRange (truth b)
range-truth true = refl
range-truth false = refl

-- ---- binary operators

abbrev AreInRange : Operands → Type 0
AreInRange (BothSigned a b) = (is_intmax a ≡ true) × (is_intmax b ≡ true)
AreInRange (BothUnsigned a b) = (a < 2 ^ 64) × (b < 2 ^ 64)

range-converted : (v w : Value) → IsInRange v → IsInRange w → AreInRange (converted v w)
range-converted (Signed a) (Signed b) h k = (h, k)
range-converted (Signed a) (Unsigned b) h k = (modulo_small a, modulo_small (pos b))
range-converted (Unsigned a) (Signed b) h k = (modulo_small (pos a), modulo_small b)
range-converted (Unsigned a) (Unsigned b) h k = (modulo_small (pos a), modulo_small (pos b))

range-arithmetic : (o : Operator) (f : ℤ → ℤ → ℤ) (x : Operands) → InRange (arithmetic o f x)
range-arithmetic o f (BothSigned a b) = range-signed o (f a b)
range-arithmetic o f (BothUnsigned a b) = modulo_small (f (pos a) (pos b))

-- the result of f is in range if the divisor is not 0 and the quotient is in range
abbrev Divides : (ℤ → ℤ → ℤ) → Type 0
Divides f = (a b : ℤ) → is_intmax b ≡ true → int_eq b (pos 0) ≡ false → is_intmax (int_div a b) ≡ true → is_intmax (f a b) ≡ true

divided : (o : Operator) (f : ℤ → ℤ → ℤ) (a b : ℤ)
    → Divides f
    → is_intmax b ≡ true
    → int_eq b (pos 0) ≡ false
    → (t : Bool)
    → is_intmax (int_div a b) ≡ t
    → InRange (if t then Ok (Signed (f a b)) else Err (Overflow o))
divided o f a b d h e true g = d a b h e g
divided o f a b d h e false g = tt

by_zero : (o : Operator) (f : ℤ → ℤ → ℤ) (a b : ℤ) → Divides f → is_intmax b ≡ true → (z : Bool) → int_eq b (pos 0) ≡ z
    → InRange (if z then Err (ZeroDivisor o) else (if is_intmax (int_div a b) then Ok (Signed (f a b)) else Err (Overflow o)))
by_zero o f a b d h true e = tt
by_zero o f a b d h false e = divided o f a b d h e (is_intmax (int_div a b)) refl

range-division : (o : Operator) (f : ℤ → ℤ → ℤ) (x : Operands) → Divides f → AreInRange x → InRange (division o f x)
range-division o f (BothSigned a b) d h = by_zero o f a b d h.1 (int_eq b (pos 0)) refl
range-division o f (BothUnsigned a b) d h =
    elim (b == 0) as (λ z. InRange (if z then Err (ZeroDivisor o) else unsigned (f (pos a) (pos b)))) [ true ↦ tt | false ↦ modulo_small (f (pos a) (pos b)) ]

size_small : (b : ℤ) → is_intmax b ≡ true → unsigned_abs b ≤ 2 ^ 63
size_small (pos n) h = let l = pos_small n h in omega arith
size_small (negsuc n) h = let l = neg_small n h in omega arith

size_above : (b : ℤ) → int_eq b (pos 0) ≡ false → 0 < unsigned_abs b
size_above (pos zero) e = absurd (cc)
size_above (pos (suc n)) e = omega arith
size_above (negsuc n) e = omega arith

small_by_size : (z : ℤ) → unsigned_abs z < 2 ^ 63 → is_intmax z ≡ true
small_by_size (pos n) h = small_pos n h
small_by_size (negsuc n) h = small_neg n (omega arith)

rem_divides : Divides int_rem
rem_divides a b h e g =
    let below = rem_below a b (size_above b e) in
    let most = size_small b h in
    small_by_size (int_rem a b) (omega arith)

range-comparison : (f : ℤ → ℤ → Bool) (x : Operands) → InRange (comparison f x)
range-comparison f (BothSigned a b) = range-truth (f a b)
range-comparison f (BothUnsigned a b) = range-truth (f (pos a) (pos b))

-- ---- bitwise operators

bits_of : (z : ℤ) → is_intmax z ≡ true → cast_unsigned w64 z < 2 ^ 64
bits_of (pos n) h = let l = pos_small n h in omega arith
bits_of (negsuc n) h = omega arith

signed_bits : (n : ℕ) → n < 2 ^ 64 → is_intmax (cast_signed w64 n) ≡ true
signed_bits n h = by (nat_lt n (2 ^ 63)) refl
  where
    by : (b : Bool) → nat_lt n (2 ^ 63) ≡ b → is_intmax (cast_signed w64 n) ≡ true
    by true e = rw e (small_pos n (grind (arith, nat_tests)))
    by false e = rw e (let l : 2 ^ 63 ≤ n = grind (arith, nat_tests) in small_neg (2 ^ 64 - suc n) (omega arith))

range-bitwise : (f : ℕ → ℕ → ℕ) (x : Operands) → ((a b : ℕ) → a < 2 ^ 64 → b < 2 ^ 64 → f a b < 2 ^ 64) → AreInRange x
    → InRange (bitwise (λ a b. cast_signed w64 (f (cast_unsigned w64 a) (cast_unsigned w64 b))) f x)
range-bitwise f (BothSigned a b) small h = signed_bits (f (cast_unsigned w64 a) (cast_unsigned w64 b)) (small (cast_unsigned w64 a) (cast_unsigned w64 b) (bits_of a h.0) (bits_of b h.1))
range-bitwise f (BothUnsigned a b) small h = small a b h.0 h.1

and_small : (a b : ℕ) → a < 2 ^ 64 → b < 2 ^ 64 → bit_and a b < 2 ^ 64
and_small a b h k = let l = and_le_l a b in omega arith

-- ---- shifts

shifted_by : (z : ℤ) (n : ℕ) (b : Bool) → (int_le (pos 0) z && is_intmax (z *ℤ pos (2 ^ n))) ≡ b → InRange (if b then Ok (Signed (z *ℤ pos (2 ^ n))) else Err (Shift operator.ShiftLeft))
shifted_by z n true e = (and_parts _ _ e).1
shifted_by z n false e = tt

range-left_shift : (v : Value) (n : ℕ) → InRange (left_shift v n)
range-left_shift (Signed z) n = shifted_by z n (int_le (pos 0) z && is_intmax (z *ℤ pos (2 ^ n))) refl
range-left_shift (Unsigned m) n = modulo_small (pos m *ℤ pos (2 ^ n))

range-right_shift : (v : Value) (n : ℕ) → IsInRange v → InRange (right_shift v n)
range-right_shift (Signed (pos a)) n h = let l = pos_small a h in let m = div-le_self a (2 ^ n) in small_pos (a / 2 ^ n) (omega arith)
range-right_shift (Signed (negsuc a)) n h = let l = neg_small a h in let m = div-le_self a (2 ^ n) in small_neg (a / 2 ^ n) (omega arith)
range-right_shift (Unsigned m) n h = modulo_small (int_div_euclid (pos m) (pos (2 ^ n)))

range-shift : (o : Operator) (f : Value → ℕ → Result Value Failure) (v w : Value) → ((n : ℕ) → InRange (f v n)) → InRange (shift o f v w)
range-shift o f v w h =
    elim (is_amount (whole w)) as (λ b. InRange (if b then f v (unsigned_abs (whole w)) else Err (Shift o))) [ true ↦ h (unsigned_abs (whole w)) | false ↦ tt ]

range-binary_value : (o : Binary) (v w : Value) → IsInRange v → IsInRange w → InRange (binary_value o v w)
range-binary_value Multiply v w h k = range-arithmetic operator.Star (λ a b. a *ℤ b) (converted v w)
range-binary_value Divide v w h k = range-division operator.Slash int_div (converted v w) (λ a b p q r. r) (range-converted v w h k)
range-binary_value Remainder v w h k = range-division operator.Percent int_rem (converted v w) rem_divides (range-converted v w h k)
range-binary_value Add v w h k = range-arithmetic operator.Plus (λ a b. a +ℤ b) (converted v w)
range-binary_value Subtract v w h k = range-arithmetic operator.Minus (λ a b. a -ℤ b) (converted v w)
range-binary_value ShiftLeft v w h k = range-shift _ left_shift v w (range-left_shift v)
range-binary_value ShiftRight v w h k = range-shift _ right_shift v w (λ n. range-right_shift v n h)
range-binary_value Less v w h k = range-comparison _ (converted v w)
range-binary_value Greater v w h k = range-comparison _ (converted v w)
range-binary_value LessOrEqual v w h k = range-comparison _ (converted v w)
range-binary_value GreaterOrEqual v w h k = range-comparison _ (converted v w)
range-binary_value Equal v w h k = range-comparison _ (converted v w)
range-binary_value NotEqual v w h k = range-comparison _ (converted v w)
range-binary_value BitAnd v w h k = range-bitwise bit_and (converted v w) and_small (range-converted v w h k)
range-binary_value BitXor v w h k = range-bitwise bit_xor (converted v w) (xor_lt 64) (range-converted v w h k)
range-binary_value BitOr v w h k = range-bitwise bit_or (converted v w) (or_lt 64) (range-converted v w h k)
range-binary_value And v w h k = range-truth (not (is_zero v) && not (is_zero w))
range-binary_value Or v w h k = range-truth (not (is_zero v) || not (is_zero w))

-- ---- unary operators

range-complement : (z : ℤ) → is_intmax z ≡ true → is_intmax (neg_ℤ (pos 1) -ℤ z) ≡ true
range-complement (pos n) h = let l = pos_small n h in grind (arith, ints, nat_tests)
range-complement (negsuc n) h = let l = neg_small n h in grind (arith, ints, nat_tests)

range-unary_value : (o : Unary) (v : Value) → IsInRange v → InRange (unary_value o v)
range-unary_value unary.Plus v h = h
range-unary_value unary.Minus (Signed z) h = range-signed operator.Minus (neg_ℤ z)
range-unary_value unary.Minus (Unsigned n) h = modulo_small (neg_ℤ (pos n))
range-unary_value unary.Complement (Signed z) h = range-complement z h
range-unary_value unary.Complement (Unsigned n) h = modulo_small (neg_ℤ (pos 1) -ℤ pos n)
range-unary_value unary.Not v h = range-truth (is_zero v)

-- ---- operands that may have no value

range-unary_result : (o : Unary) (a : Result Value Failure) → InRange a → InRange (unary_result o a)
range-unary_result o (Ok v) h = range-unary_value o v h
range-unary_result o (Err f) h = tt

range-with_right : (o : Binary) (v : Value) (b : Result Value Failure) → IsInRange v → InRange b → InRange (with_right o v b)
range-with_right o v (Ok w) h k = range-binary_value o v w h k
range-with_right o v (Err f) h k = tt

either : (z : Bool) (a b : Result Value Failure) → InRange a → InRange b → InRange (if z then b else a)
either true a b h k = k
either false a b h k = h

range-binary_result : (o : Binary) (a b : Result Value Failure) → InRange a → InRange b → InRange (binary_result o a b)
range-binary_result o (Ok v) b h k = either (decides o v) (with_right o v b) (Ok (truth (not (is_zero v)))) (range-with_right o v b h k) (range-truth (not (is_zero v)))
range-binary_result o (Err f) b h k = tt

range-with_type : (u : Bool) (a : Result Value Failure) → InRange a → InRange (with_type u a)
range-with_type true (Ok v) h = modulo_small (whole v)
range-with_type true (Err f) h = tt
range-with_type false a h = h

range-choice_result : (u : Bool) (c a b : Result Value Failure) → InRange a → InRange b → InRange (choice_result u c a b)
range-choice_result u (Ok v) a b h k = range-with_type u (if is_zero v then b else a) (either (is_zero v) a b h k)
range-choice_result u (Err f) a b h k = tt

-- ---- trees

-- each constant of a tree is in range
abbrev pub AreLeavesInRange : Tree → Type 0
AreLeavesInRange (Leaf v) = IsInRange v
AreLeavesInRange (Applied o t) = AreLeavesInRange t
AreLeavesInRange (Joined o t u) = AreLeavesInRange t × AreLeavesInRange u
AreLeavesInRange (Chosen c t u) = AreLeavesInRange c × AreLeavesInRange t × AreLeavesInRange u

range-tree : (t : Tree) → AreLeavesInRange t → InRange (evaluation_of t).value
unfolding constant_evaluation unary_evaluation binary_evaluation choice_evaluation
range-tree (Leaf v) h = h
range-tree (Applied o t) h = range-unary_result o (evaluation_of t).value (range-tree t h)
range-tree (Joined o t u) h = range-binary_result o (evaluation_of t).value (evaluation_of u).value (range-tree t h.0) (range-tree u h.1)
range-tree (Chosen c t u) h = range-choice_result ((evaluation_of t).unsigned || (evaluation_of u).unsigned) (evaluation_of c).value (evaluation_of t).value (evaluation_of u).value (range-tree t h.1) (range-tree u h.2)

pub tree_in_range : (t : Tree) (v : Value) → AreLeavesInRange t → (evaluation_of t).value ≡ Ok v → IsInRange v
tree_in_range t v h e = subst InRange e (range-tree t h)
