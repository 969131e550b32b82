use Rattle.std.proofs.Common.{refl}
use Rattle.std.proofs.lemmas.Bool.{false≢true}
use Rattle.ppexpr.specs.Conditions.{too_nested, not_nested}
use Rattle.pptext.proofs.ErrorReturns.{raised, if_settled-weaker}
use Rattle.ppexpr.proofs.conditions.evaluate_symbols.Goals as goal

pub returns-then-is_too_nested : goal.returns-then-is_too_nested
returns-then-is_too_nested c = let h = c.if-is_too_nested.ensures in raised _ _ _ c.bare.ensures (too_nested (h.0 refl))

pub returns : goal.returns
returns c = let n = c.if-is_too_nested.ensures in if_settled-weaker _ _ _ (λ x h. not_nested (λ t. false≢true (n.1 t)) h) c.evaluate_shallow.ensures
