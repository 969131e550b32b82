use Rattle.std.proofs.Common.{arith, ◌<◌, ◌∙◌, length}
use Rattle.ppexpr.proofs.Digits.{too_large_product, too_large_sum}
use Rattle.ppexpr.proofs.integers.number.Goals as goal

pub returns-in_err-shifted : goal.returns-in_err-shifted
returns-in_err-shifted c =
    let within : c.loop-c.c-index < length c.args.digits.now = omega arith in
    rw c.from_residual.ensures (too_large_product c.args.base c.args.digits.now c.loop-c.c-index c.loop-c.number c.from.result c.requires within c.loop-c.invariant c.from.ensures c.in_err-shifted.ensures)

pub returns-in_err-number : goal.returns-in_err-number
returns-in_err-number c =
    let within : c.loop-c.c-index < length c.args.digits.now = omega arith in
    rw c.from_residual-in_err-number.ensures
    (too_large_sum c.args.base c.args.digits.now c.loop-c.c-index c.loop-c.number c.from.result c.in_ok-shifted.shifted c.from-in-loop-c.result
    c.requires within c.loop-c.invariant c.from.ensures c.in_ok-shifted.ensures.1 (c.from-in-loop-c.ensures ∙ c.digit_value.ensures) c.in_err-number.ensures)
