use Rattle.std.proofs.Common.{sym}
use Rattle.ppexpr.specs.code.DefinedOnly.{defined_use}
use Rattle.ppexpr.proofs.defined_only.defined_use.Goals as goal

pub returns : goal.returns
returns c =
    rw (c.in_ok-first.ensures.cases.0, c.is_macro_name.ensures) (defined_use (sym c.if-not-is_defined.ensures) c.in_ok-name.ensures)
