use Rattle.std.proofs.Common.{◌≡◌, ◌+◌, ◌≤◌, length}
use Rattle.ppexpand.specs.Slices.{slice_tokens}
use Rattle.ppexpand.specs.code.OpenSearch.{depth_after_all}
use Rattle.ppexpand.proofs.waiting_tokens.depth_after_all.Given as goal

abbrev pub invariant-loop-token : goal.invariant-loop-token
invariant-loop-token l = record {
  search : depth_after_all l.depth l.rest ≡ depth_after_all l.start (slice_tokens l.tokens);
  within : l.depth + length l.rest ≤ l.start + length (slice_tokens l.tokens);
}

abbrev pub decreases-loop-token : goal.decreases-loop-token
decreases-loop-token l = length l.rest
