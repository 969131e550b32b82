use Rattle.std.proofs.Common.{◌≡◌, drop}
use Rattle.ppserve.specs.Drafting.{draft_file}
use Rattle.ppserve.proofs.ArrayItems.{read_from, after_prefix}
use Rattle.ppserve.proofs.list.drafts.files_from.Given as goal

abbrev pub invariant-loop-item : goal.invariant-loop-item
invariant-loop-item l = after_prefix l.files.items (read_from (draft_file l.inline) (drop l.item-index l.items)) ≡ read_from (draft_file l.inline) l.items
