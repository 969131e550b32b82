use Rattle.std.proofs.Common.{sym}
use Rattle.ppexpr.specs.Conditions.{defined_after_replacement, bad_constant, constants}
use Rattle.pptext.proofs.ErrorReturns.{raised, if_settled-weaker, raises}
use Rattle.ppexpr.proofs.conditions.evaluate_emitted.Goals as goal

pub returns-then-emits_defined : goal.returns-then-emits_defined
returns-then-emits_defined c = raised _ _ _ c.bare.ensures (defined_after_replacement (sym c.if-emits_defined.ensures))

pub returns : goal.returns
returns c =
    if_settled-weaker _ _ _ (λ x h. constants (sym c.if-emits_defined.ensures) (sym c.in_ok-symbols.ensures) (rw c.as_slice.ensures.value at h)) c.evaluate_symbols.ensures

pub returns-in_err-symbols : goal.returns-in_err-symbols
returns-in_err-symbols c =
    raises _ _ _ _ _ c.from_residual.ensures.1 c.in_err-symbols.ensures (λ f e. bad_constant (sym c.if-emits_defined.ensures) (sym e))
