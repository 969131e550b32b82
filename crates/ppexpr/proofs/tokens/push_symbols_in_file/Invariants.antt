use Rattle.std.proofs.Common.{◌≡◌, drop}
use Rattle.ppexpr.specs.Tokens.{symbols_of}
use Rattle.ppexpr.specs.code.Symbols.{with_prefix}
use Rattle.ppexpr.proofs.tokens.push_symbols_in_file.Given as goal

abbrev pub invariant-loop-token : goal.invariant-loop-token
invariant-loop-token l = with_prefix l.symbols.items (symbols_of l.at (drop l.token-index l.tokens)) ≡ with_prefix l.initial.symbols.items (symbols_of l.at l.tokens)
