use Rattle.std.proofs.Common.{◌≡◌, drop}
use Rattle.serde_json.specs.Find.{as_str}
use Rattle.ppserve.proofs.ArrayItems.{read_from, after_prefix}
use Rattle.ppserve.proofs.list.drafts.texts_from.Given as goal

abbrev pub invariant-loop-item : goal.invariant-loop-item
invariant-loop-item l = after_prefix l.texts.items (read_from as_str (drop l.item-index l.items)) ≡ read_from as_str l.items
