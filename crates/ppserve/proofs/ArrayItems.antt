-- Reading the items of an array, one after another.
use Rattle.std.proofs.Common.{List, ◌++◌, Option, option_map}
use Rattle.serde_json.specs.Data.{Data}
use Rattle.serde_json.specs.View.{items_view}
use Rattle.serde_json.specs.declared.value.Value.{Value}
use Rattle.ppserve.specs.Drafting.{each_item}

-- the results of reading these items, if all can be read
abbrev pub read_from : {A : Type 0} → (Data → Option A) → List Value → Option (List A)
read_from read vs = each_item read (items_view vs)

abbrev pub after_prefix : {A : Type 0} → List A → Option (List A) → Option (List A)
after_prefix prefix o = option_map (λ more. prefix ++ more) o
