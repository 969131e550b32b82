use Rattle.std.proofs.Common.{◌≡◌, ◌≤◌, drop}
use Rattle.std.specs.Option.{option_map}
use Rattle.ppmacro.specs.VaOpt.{separate}
use Rattle.ppmacro.specs.code.VaOptLists.{depth_of, followed_by}
use Rattle.ppmacro.specs.declared.va_opt.Position.TheVariants.{Outside}
use Rattle.ppmacro.proofs.va_opt.separate.Given as goal

abbrev pub invariant-loop-index : goal.invariant-loop-index
invariant-loop-index l = record {
  depth : depth_of l.position ≤ l.index;
  is : option_map (followed_by l.body l.position l.list) (separate l.position (drop l.index l.body)) ≡ separate Outside l.body;
}
