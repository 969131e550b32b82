use Rattle.std.proofs.Common.{◌≡◌, drop}
use Rattle.ppserve.specs.Drafting.{draft_path}
use Rattle.ppserve.proofs.ArrayItems.{read_from, after_prefix}
use Rattle.ppserve.proofs.list.drafts.paths_from.Given as goal

abbrev pub invariant-loop-item : goal.invariant-loop-item
invariant-loop-item l = after_prefix l.paths.items (read_from (draft_path) (drop l.item-index l.items)) ≡ read_from (draft_path) l.items
