use Rattle.std.proofs.Common.{◌≡◌, reverse, vec_len}
use Rattle.ppexpr.specs.code.Pending.{evaluations, unreduced, reduced}
use Rattle.ppexpr.proofs.parsing.reduce.Given as goal

abbrev pub invariant-loop-last : goal.invariant-loop-last
invariant-loop-last l = record {
  stay : unreduced l.level (reverse l.frames.items) ≡ unreduced l.level (reverse l.fn.frames.items);
  value : reduced evaluations l.level (reverse l.frames.items) l.operand ≡ reduced evaluations l.level (reverse l.fn.frames.items) l.fn.operand;
}

abbrev pub decreases-loop-last : goal.decreases-loop-last
decreases-loop-last l = vec_len l.frames
