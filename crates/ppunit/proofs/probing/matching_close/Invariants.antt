use Rattle.std.proofs.Common.{◌≡◌, ◌+◌, ◌≤◌, drop}
use Rattle.std.specs.Option.{option_map}
use Rattle.ppunit.specs.Probing as spec
use Rattle.ppunit.proofs.probing.matching_close.Given as goal

abbrev pub invariant-loop-index : goal.invariant-loop-index
invariant-loop-index l = record {
  few : l.depth ≤ l.index;
  matches : option_map (λ n. l.index + n) (spec.matching_close l.depth (drop l.index l.tokens)) ≡ spec.matching_close 0 l.tokens;
}
