use Rattle.std.proofs.Common.{◌≡◌, drop}
use Rattle.ppserve.specs.Drafting.{draft_unit}
use Rattle.ppserve.proofs.ArrayItems.{read_from, after_prefix}
use Rattle.ppserve.proofs.list.drafts.units_from.Given as goal

abbrev pub invariant-loop-item : goal.invariant-loop-item
invariant-loop-item l = after_prefix l.units.items (read_from (draft_unit) (drop l.item-index l.items)) ≡ read_from (draft_unit) l.items
