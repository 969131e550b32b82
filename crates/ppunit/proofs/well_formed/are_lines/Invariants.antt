use Rattle.std.proofs.Common.{◌≡◌, drop}
use Rattle.std.specs.List.{list_all}
use Rattle.ppunit.specs.WellFormed as spec
use Rattle.ppunit.proofs.well_formed.are_lines.Given as goal

abbrev pub invariant-loop-text : goal.invariant-loop-text
invariant-loop-text l = list_all spec.is_one_line (drop l.text-index l.texts) ≡ list_all spec.is_one_line l.texts
