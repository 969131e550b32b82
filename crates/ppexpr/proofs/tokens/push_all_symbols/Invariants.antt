use Rattle.std.proofs.Common.{◌≡◌, length}
use Rattle.ppexpr.specs.Tokens.{symbols_of}
use Rattle.ppexpr.specs.code.Symbols.{with_prefix}
use Rattle.ppexpr.proofs.tokens.push_all_symbols.Given as goal

abbrev pub invariant-loop-slice : goal.invariant-loop-slice
invariant-loop-slice l = with_prefix l.symbols.items (symbols_of l.at l.slices) ≡ with_prefix l.initial.symbols.items (symbols_of l.at l.initial.slices)

abbrev pub decreases-loop-slice : goal.decreases-loop-slice
decreases-loop-slice l = length l.slices
