use Rattle.std.proofs.Common.{rules}
use Rattle.ppexpr.proofs.defined_operator.is_macro_name.Goals as goal

pub returns : goal.returns
returns c = search rules
