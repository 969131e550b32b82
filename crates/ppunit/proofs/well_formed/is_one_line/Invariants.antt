use Rattle.std.proofs.Common.{◌≡◌, drop}
use Rattle.ppunit.specs.WellFormed as spec
use Rattle.ppunit.proofs.well_formed.is_one_line.Given as goal

abbrev pub invariant-loop-byte : goal.invariant-loop-byte
invariant-loop-byte l = spec.is_one_line (drop l.byte-index l.text) ≡ spec.is_one_line l.text
