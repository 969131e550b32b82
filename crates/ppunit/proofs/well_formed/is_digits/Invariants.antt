use Rattle.std.proofs.Common.{◌≡◌, drop}
use Rattle.std.specs.List.{list_all}
use Rattle.ppunit.specs.WellFormed as spec
use Rattle.ppunit.proofs.well_formed.is_digits.Given as goal

abbrev pub invariant-loop-byte : goal.invariant-loop-byte
invariant-loop-byte l = list_all spec.is_digit (drop l.byte-index l.text) ≡ list_all spec.is_digit l.text
