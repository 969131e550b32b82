use Rattle.std.proofs.Common.{sym, ◌∙◌, ap}
use Rattle.std.specs.FinMap as table
use Rattle.ppmacro.proofs.tables.Table.get.Goals as goal

pub returns-then-slot-eq0 : goal.returns-then-slot-eq0
returns-then-slot-eq0 c = sym (ap (λ t. table.get t.macros c.args.name.now) (sym c.self.view_is) ∙ c.self.invariant c.args.name.now (sym c.slot_of-slot.ensures ∙ c.if-slot-eq0.true))
