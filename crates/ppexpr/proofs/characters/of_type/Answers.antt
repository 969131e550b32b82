use Rattle.std.proofs.Common.{sym, ◌∙◌}
use Rattle.ppexpr.proofs.OversizedConstants.{of_type_large}
use Rattle.ppexpr.proofs.characters.of_type.Goals as goal

pub returns-in_err-number : goal.returns-in_err-number
returns-in_err-number c =
    c.from_residual-in_err-number.ensures ∙ sym (of_type_large c.args.greatest c.args.unsigned c.args.text.now c.in_ok-body.body.now c.requires c.in_ok-body.ensures c.in_err-number.ensures)
