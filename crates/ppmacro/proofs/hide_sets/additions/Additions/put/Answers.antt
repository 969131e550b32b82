use Rattle.std.proofs.Common.{sym, subst}
use Rattle.ppmacro.specs.code.PoolInvariant.{AreAdditions}
use Rattle.ppmacro.proofs.CachedAdditions.{additions-set}
use Rattle.ppmacro.proofs.hide_sets.additions.Additions.put.Goals as goal

pub returns-then-slot-len : goal.returns-then-slot-len
returns-then-slot-len c = λ count ns h k.
    let kept = subst (AreAdditions count ns) (sym c.self.view_is) (c.allocate_for.ensures count ns h) in
    additions-set count ns c.self.inside.slots.items c.slot_of-slot.result c.args.addition kept k

pub returns-else-slot-len : goal.returns-else-slot-len
returns-else-slot-len c = λ count ns h k. c.allocate_for.ensures count ns h
