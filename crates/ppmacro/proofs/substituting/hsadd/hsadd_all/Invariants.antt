use Rattle.std.proofs.Common.{◌≡◌, map, take, drop}
use Rattle.ppmacro.specs.HideSets.{set_at, hidings, AllKnown, KeepsSets}
use Rattle.ppmacro.specs.Substitution.{hsadd}
use Rattle.ppmacro.specs.code.Replacing.{HasSubset}
use Rattle.ppmacro.proofs.substituting.hsadd.hsadd_all.Given as goal

abbrev pub invariant-loop-hidden : goal.invariant-loop-hidden
invariant-loop-hidden l = record {
  same : hidings l.sets (take l.hidden-index l.hidden-items) ≡ map (hsadd (set_at l.initial.sets l.added) l.used) (hidings l.initial.sets (take l.hidden-index l.fn.tokens.items));
  rest : drop l.hidden-index l.hidden-items ≡ drop l.hidden-index l.fn.tokens.items;
  done_known : AllKnown l.sets (take l.hidden-index l.hidden-items);
  within : HasSubset l.sets l.added l.base;
  keeps : KeepsSets l.initial.sets l.sets;
}
