use Rattle.std.proofs.Common.{◌≡◌, suc, drop}
use Rattle.ppmacro.proofs.VaOptFilling.{Fills}
use Rattle.ppmacro.proofs.va_opt_chains.fill.Given as goal

abbrev pub invariant-loop-part : goal.invariant-loop-part
invariant-loop-part l = record {
  fills : Fills l.body l.count l.yielded (drop l.next l.contents.items) l.filled.parts.items l.filled.arguments.items (suc l.count) l.fn.parts.items l.initial.contents.items;
  parameters : l.filled.parameters ≡ suc l.count;
}
