-- What must be kept of units' outputs to print them.
use Rattle.pppool.specs.declared.retention.Retain.{Retain}
use Rattle.pppool.specs.declared.retention.Retain.TheVariants.{Everything, WithoutItems}
use Rattle.ppserve.specs.declared.output.Mode.{Mode}
use Rattle.ppserve.specs.declared.output.Mode.TheVariants.{Dump, Deps, Faults, Text}

-- dependencies need no items; the include chain is found by the marks among them
abbrev pub needed_retention : Mode → Retain
needed_retention Dump = Everything
needed_retention Deps = WithoutItems
needed_retention Faults = Everything
needed_retention Text = Everything
