use Rattle.pptext.proofs.ErrorReturns.{stops}
use Rattle.ppexpand.specs.Slices.{slice_tokens}
use Rattle.ppexpr.proofs.SymbolSteps.{read_on, stop_there, read_all}
use Rattle.ppexpr.proofs.tokens.push_all_symbols.Goals as goal

pub loop-slice-preserved : goal.loop-slice-preserved
loop-slice-preserved c =
    read_on c.args.at c.loop-slice.symbols.items c.push_symbols.new.symbols.items (slice_tokens c.in-Some.slice) c.next.new.self c.loop-slice.slices _
    c.in-Some.ensures.steps.1 c.in_ok-push_symbols.ensures c.loop-slice.invariant

pub returns-in_err-push_symbols : goal.returns-in_err-push_symbols
returns-in_err-push_symbols c =
    stops _ _ _ _ _ _ c.from_residual.ensures.1 c.in_err-push_symbols.ensures
    (λ f e. stop_there c.args.at c.loop-slice.symbols.items (slice_tokens c.in-Some.slice) c.next.new.self c.loop-slice.slices f _
    c.in-Some.ensures.steps.1 e c.loop-slice.invariant)

pub returns : goal.returns
returns c = read_all c.args.at c.loop-slice.symbols.items c.loop-slice.slices _ c.in_default.ensures.steps.0 c.loop-slice.invariant
