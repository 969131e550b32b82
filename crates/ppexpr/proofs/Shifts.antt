-- When a left shift has no value.
use Rattle.std.proofs.Common.{◌≡◌, ℕ, ℤ, pos, negsuc, ◌*◌, ◌/◌, ◌^◌, ◌<◌, true, Err, refl, arith, int_lt, to_z}
use Rattle.std.proofs.lemmas.Int.{ints}
use Rattle.std.proofs.lemmas.Grind.{common_steps}
use Rattle.std.proofs.lemmas.Nat.{pow_pos}
use Rattle.std.proofs.lemmas.Bool.Decides.{nat_tests}
use Rattle.std.proofs.Math.Nat.{div-lt_iff_lt-mul, div-le_self}
use Rattle.std.specs.Int.{w64}
use Rattle.ppexpr.specs.declared.symbols.Value.TheVariants.{Signed}
use Rattle.ppexpr.specs.declared.symbols.Failure.TheVariants.{Shift}
use Rattle.ppexpr.specs.declared.operators.Operator.TheVariants.{ShiftLeft}
use Rattle.ppexpr.specs.Values.{left_shift}

-- A number above bound / 2^k exceeds the bound when it is shifted left by k.
past : (n k bound : ℕ) → bound / 2 ^ k < n → bound < n * 2 ^ k
past n k bound h = (div-lt_iff_lt-mul (pow_pos k)).0 h

pub left_shift_fails : (z : ℤ) (k : ℕ) → int_lt (to_z w64 (9223372036854775807 / 2 ^ k)) z ≡ true → left_shift (Signed z) k ≡ Err (Shift ShiftLeft)
left_shift_fails (pos n) k h =
    let low : 9223372036854775807 / 2 ^ k < 2 ^ 63 = omega (arith, div-le_self 9223372036854775807 (2 ^ k)) in
    let far : 9223372036854775807 / 2 ^ k < n = grind (arith, ints, nat_tests) in
    let out : 9223372036854775807 < n * 2 ^ k = past n k 9223372036854775807 far in
    grind (arith, nat_tests, common_steps)
left_shift_fails (negsuc n) k h = refl
