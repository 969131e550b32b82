use Rattle.ppmacro.proofs.ExpansionOrders.{order_within}
use Rattle.ppmacro.proofs.prepared_macro.PreparedMacro.expansion_order.Goals as goal

pub returns-clause-within : goal.returns-clause-within
returns-clause-within c = order_within c.args.profile c.args.self.now c.used_parameters.result.now c.used_parameters.ensures
