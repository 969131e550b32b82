use Rattle.std.proofs.Common.{sym, ◌∙◌}
use Rattle.ppexpr.proofs.OversizedConstants.{in_base_large}
use Rattle.ppexpr.proofs.integers.in_base.Goals as goal

pub returns-in_err-number : goal.returns-in_err-number
returns-in_err-number c =
    let large = rw (c.split_at.ensures.front, c.digits_len-len.ensures.value) at c.in_err-number.ensures in
    c.from_residual.ensures ∙ sym (in_base_large c.args.base c.args.decimal c.args.text.now large)
