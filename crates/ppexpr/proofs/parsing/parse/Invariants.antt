use Rattle.std.proofs.Common.{◌≡◌, [], drop}
use Rattle.std.specs.Prelude.{None}
use Rattle.ppexpr.specs.code.Pending.{evaluations}
use Rattle.ppexpr.proofs.parsing.parse.Given as goal
use Rattle.ppexpr.proofs.MachineRuns.{run}

abbrev pub invariant-loop-symbol : goal.invariant-loop-symbol
invariant-loop-symbol l = run evaluations l.parser (drop l.symbol-index l.symbols) ≡ run evaluations ([], None) l.symbols
