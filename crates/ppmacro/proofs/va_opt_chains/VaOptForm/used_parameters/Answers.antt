use Rattle.std.proofs.Common.{◌∙◌}
use Rattle.ppmacro.specs.code.VaOptLists.{form_va_opt_chains}
use Rattle.ppmacro.proofs.ExpansionOrders.{va_opt_uses_within}
use Rattle.ppmacro.proofs.va_opt_chains.VaOptForm.used_parameters.Goals as goal

pub in_order-requires : goal.in_order-requires
in_order-requires c =
    let self = c.args.self.now in
    va_opt_uses_within self.parameters (form_va_opt_chains c.args.body.now self) c.as_slice.result.now (c.as_slice.ensures.value ∙ c.in_ok-uses.ensures)
