use Rattle.std.proofs.Common.{◌≡◌, take}
use Rattle.pppool.specs.Retained.{AreRetained}
use Rattle.ppserve.proofs.in_memory.Alone.run.Given as goal

abbrev pub invariant-loop-unit : goal.invariant-loop-unit
invariant-loop-unit g l =
    (l.pass.shelf ≡ l.self.shelf.now)
    × AreRetained l.self.retain l.self.shelf.now.names l.pass.files l.self.setting.now (take l.unit-index l.units) l.outs.items
