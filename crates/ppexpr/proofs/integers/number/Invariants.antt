use Rattle.std.proofs.Common.{◌≡◌, take}
use Rattle.ppexpr.specs.Integers.{number}
use Rattle.ppexpr.proofs.integers.number.Given as goal

abbrev pub invariant-loop-c : goal.invariant-loop-c
invariant-loop-c l = l.number ≡ number l.base (take l.c-index l.digits)
