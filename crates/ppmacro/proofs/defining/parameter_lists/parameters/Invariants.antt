use Rattle.std.proofs.Common.{◌≡◌, drop, false}
use Rattle.std.specs.Option.{option_map}
use Rattle.ppmacro.specs.Define.{parameters_from}
use Rattle.ppmacro.specs.code.ChainParts.{with_names}
use Rattle.ppmacro.proofs.defining.parameter_lists.parameters.Given as goal

abbrev pub invariant-loop-i : goal.invariant-loop-i
invariant-loop-i l = option_map (with_names l.names.items) (parameters_from l.gnu l.named (drop l.i l.line)) ≡ parameters_from l.gnu false l.line
