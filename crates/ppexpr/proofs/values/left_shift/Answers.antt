use Rattle.std.proofs.Common.{rules, FitsSigned, sym}
use Rattle.std.specs.Int.{w64}
use Rattle.std.proofs.lemmas.Int.{to_z-of_z}
use Rattle.ppexpr.proofs.Shifts.{left_shift_fails}
use Rattle.ppexpr.proofs.values.left_shift.Goals as goal

pub returns-then-number-amount : goal.returns-then-number-amount
returns-then-number-amount c =
    let fits : FitsSigned w64 c.in-Signed.number = search rules in
    let far = simp to_z-of_z at c.if-number-amount.true in
    rw c.in-Signed.is (sym (left_shift_fails c.in-Signed.number c.args.amount far))
