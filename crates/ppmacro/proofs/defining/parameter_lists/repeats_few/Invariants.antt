use Rattle.std.proofs.Common.{◌≡◌, drop}
use Rattle.ppmacro.specs.Define.{repeats}
use Rattle.ppmacro.proofs.defining.parameter_lists.repeats_few.Given as goal

abbrev pub invariant-loop-i : goal.invariant-loop-i
invariant-loop-i l = repeats (drop l.i l.names) ≡ repeats l.names
