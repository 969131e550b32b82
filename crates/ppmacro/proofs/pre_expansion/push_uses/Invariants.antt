use Rattle.std.proofs.Common.{◌≡◌, length, take, []}
use Rattle.std.specs.List.{fold}
use Rattle.ppmacro.specs.PreExpansion.{with_use}
use Rattle.ppmacro.specs.code.PreparedDefinitions.{AreMarked}
use Rattle.ppmacro.proofs.pre_expansion.push_uses.Given as goal

abbrev pub invariant-loop-used : goal.invariant-loop-used
invariant-loop-used l = record {
  len : length l.marks.items ≡ length l.initial.marks.items;
  marked : AreMarked l.marks.items l.by_use.items;
  by_use : l.by_use.items ≡ fold with_use [] (take l.used-index l.uses);
}
