-- Macro replacement in the operands of a directive (6.10.2, 6.10.4). Only contracts of private functions cite this.
use Rattle.std.specs.Prelude.{◌≡◌, List, Result, IfOk}
use Rattle.std.specs.Result.{result_err}
use Rattle.pptext.specs.declared.tokens.Token.{Token}
use Rattle.pptext.specs.declared.tokens.Fault.{Fault}
use Rattle.ppexpand.specs.declared.meter.Meter.{Meter}
use Rattle.ppexpand.specs.Expansion.{Expansion}
use Rattle.ppexpand.specs.Expansion.{IsExpansion}
use Rattle.ppunit.specs.States.{State}

-- the expansion of the operands, or the fault of the expansion, and the meter after it
pub record ExpandsOperands (s : State) (operands : List Token) (meter_after : Meter) (r : Result (List Token) Fault) : Type 0 where
  pub expanded : Expansion
  pub expands : IsExpansion s.macros s.env s.meter operands expanded
  pub leaves : meter_after ≡ expanded.meter
  pub fault : expanded.fault ≡ result_err r
  pub tokens : IfOk r (λ tokens. tokens ≡ expanded.tokens)
