use Rattle.std.proofs.Common.{◌≡◌, drop}
use Rattle.ppmacro.specs.Substituting.{tokens_of}
use Rattle.ppexpr.specs.Tokens.{symbols_of}
use Rattle.ppexpr.specs.code.Symbols.{with_prefix}
use Rattle.ppexpr.proofs.tokens.push_symbols_of_hidden.Given as goal

abbrev pub invariant-loop-hidden : goal.invariant-loop-hidden
invariant-loop-hidden l =
    with_prefix l.symbols.items (symbols_of l.at (tokens_of (drop l.hidden-index l.tokens))) ≡ with_prefix l.initial.symbols.items (symbols_of l.at (tokens_of l.tokens))
