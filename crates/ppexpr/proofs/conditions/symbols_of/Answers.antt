use Rattle.std.proofs.Common.{◌∙◌, ap}
use Rattle.pptext.proofs.ErrorReturns.{stops}
use Rattle.ppexpr.specs.Tokens.{symbols_of}
use Rattle.ppexpr.specs.code.Symbols.{with_prefix}
use Rattle.ppexpr.proofs.SymbolSteps.{both_parts, first_part}
use Rattle.ppexpr.proofs.conditions.symbols_of.Goals as goal

pub returns-in_err-push_symbols : goal.returns-in_err-push_symbols
returns-in_err-push_symbols c =
    stops _ _ _ _ _ _ c.from_residual-in_err-push_symbols.ensures.1 c.in_err-push_symbols.ensures
    (λ f e. first_part c.args.at c.in_ok-symbols.symbols.items c.args.prefix.now c.args.scratch.now f c.in_ok-symbols.ensures.items e)

pub returns-in_err-push_all_symbols : goal.returns-in_err-push_all_symbols
returns-in_err-push_all_symbols c =
    stops _ _ _ _ _ _ c.from_residual-in_err-push_all_symbols.ensures.1 c.in_err-push_all_symbols.ensures
    (λ f e. both_parts c.args.at c.in_ok-symbols.symbols.items c.push_symbols.new.symbols.items c.args.prefix.now c.args.scratch.now _ c.in_ok-symbols.ensures.items
    c.in_ok-push_symbols.ensures (e ∙ ap (λ l. with_prefix c.push_symbols.new.symbols.items (symbols_of c.args.at l)) c.slices.ensures))

pub returns : goal.returns
returns c =
    both_parts c.args.at c.in_ok-symbols.symbols.items c.push_symbols.new.symbols.items c.args.prefix.now c.args.scratch.now _ c.in_ok-symbols.ensures.items
    c.in_ok-push_symbols.ensures (c.in_ok-push_all_symbols.ensures ∙ ap (λ l. with_prefix c.push_symbols.new.symbols.items (symbols_of c.args.at l)) c.slices.ensures)
